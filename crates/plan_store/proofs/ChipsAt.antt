-- The numbers of a chip that is there are small.
use Rattle.std.proofs.Common.{◌≡◌, ℕ, zero, suc, ◌<◌, ◌^◌, Bool, true, leb, List, [], ◌∷◌, Option, Some, None, IsSome, length, refl, subst, arith}
use Rattle.std.specs.Prelude.{slice_get}
use Rattle.std.specs.List.{list_all}
use Rattle.std.proofs.lemmas.Bool.{and_parts, leb-true}
use Rattle.plan_grammar.specs.declared.lines.PlanLines.{PlanLines}
use Rattle.plan_grammar.specs.declared.lines.ChipLines.{ChipLines}
use Rattle.plan_grammar.specs.Limits.{most_chips}
use Rattle.plan_grammar.specs.Faults.{chip_at, chip_in}
use Rattle.plan_store.specs.declared.hardware.HardwareIndex.{HardwareIndex}
use Rattle.plan_store.specs.Hardware.{HardwareInStep}

-- an item that is there stands below the length
got_below : {A : Type 0} (xs : List A) (n : ℕ) (x : A) → slice_get xs n ≡ Some x → n < length xs
got_below [] n x e = absurd (cc e)
got_below (y ∷ xs) zero x e = omega arith
got_below (y ∷ xs) (suc n) x e = omega (arith, got_below xs n x e)

-- and passes the test that all pass
got_passes : {A : Type 0} (p : A → Bool) (xs : List A) (n : ℕ) (x : A) → slice_get xs n ≡ Some x → list_all p xs ≡ true → p x ≡ true
got_passes p [] n x e pass = absurd (cc e)
got_passes p (y ∷ xs) zero x e pass =
    let same : y ≡ x = cc e in
    subst (λ z. p z ≡ true) same (and_parts (p y) (list_all p xs) pass).0
got_passes p (y ∷ xs) (suc n) x e pass = got_passes p xs n x e (and_parts (p y) (list_all p xs) pass).1

small_in : (plan : PlanLines) (index : HardwareIndex) (c k : ℕ) (chip : ChipLines) → HardwareInStep plan.controllers index →
    (o : Option (List ChipLines)) → slice_get plan.controllers c ≡ o → chip_in k o ≡ Some chip → (c < 2 ^ 32) × (k < 2 ^ 32)
small_in plan index c k chip s None e f = absurd (cc f)
small_in plan index c k chip s (Some chips) e f =
    let few = leb-true (length chips) most_chips (got_passes (λ (cs : List ChipLines). leb (length cs) most_chips) plan.controllers c chips e s.few_chips) in
    (omega (arith, got_below plan.controllers c chips e, s.few_controllers), omega (arith, got_below chips k chip f, few))

-- the numbers of a chip
pub small_numbers_of : (plan : PlanLines) (index : HardwareIndex) (c k : ℕ) (chip : ChipLines) → HardwareInStep plan.controllers index →
    chip_at plan (c, k) ≡ Some chip → (c < 2 ^ 32) × (k < 2 ^ 32)
small_numbers_of plan index c k chip s e = small_in plan index c k chip s (slice_get plan.controllers c) refl e

pub some_item : {A : Type 0} (o : Option A) → IsSome o → (x : A) × (o ≡ Some x)
some_item None some = absurd (cc some)
some_item (Some x) some = (x, refl)
