-- The weak place of a call, found by its place in the list.
use Rattle.std.proofs.Common.{◌≡◌, ℕ, suc, zero, ◌+◌, ◌<◌, ◌≤◌, Bool, true, false, List, [], ◌∷◌, length, drop, slice_set, slice_index, Some, None, if◌then◌else◌, refl, ap, sym, ◌∙◌, subst, arith, inl, inr, min, map, replicate}
use Rattle.std.specs.Prelude.{not, nat_le, slice_get}
use Rattle.std.specs.List.{list_any, zip}
use Rattle.std.proofs.lemmas.Bool.Decides.{nat_tests}
use Rattle.std.proofs.lemmas.Bool.{cases_Bool, eqb-true, false≢true, not-true, or_parts, and_parts}
use Rattle.nand_model.specs.Chip.{Call, ProgramCall, EraseCall, WeakCount, done_bits, is_weak_at, weak_fails, weak_after_call}
use Rattle.nand_model.specs.declared.tear.Tear.{Tear}
use Rattle.nand_model.specs.declared.words.Weak.{Weak}
use Rattle.nand_model.specs.declared.words.WeakKind.{WeakKind}
use Rattle.nand_model.specs.declared.words.WeakKind.TheVariants.{Program, Erase}
use Rattle.fault_plan.specs.WeakPlaces.{are_apart, call_at, is_same_place}
use Rattle.chip_sim.specs.Weakness.{first_weak}

kind_call : (kind : WeakKind) (at after : ℕ) (tear : Tear) (call : Call)
    → is_weak_at (record { kind = kind; at = at; after = after; tear = tear }) call ≡ true → call_at kind at ≡ call
kind_call Program at after tear (ProgramCall page) same = ap ProgramCall (eqb-true at page same)
kind_call Program at after tear (EraseCall block) same = absurd (false≢true same)
kind_call Erase at after tear (ProgramCall page) same = absurd (false≢true same)
kind_call Erase at after tear (EraseCall block) same = ap EraseCall (eqb-true at block same)

-- the call at which a place is weak is that of its kind and number
weak_call : (weak : Weak) (call : Call) → is_weak_at weak call ≡ true → call_at weak.kind weak.at ≡ call
weak_call weak call same = kind_call weak.kind weak.at weak.after weak.tear call same

-- one of these places is weak at the call
abbrev is_weak_in : List Weak → Call → Bool
is_weak_in list call = list_any (λ (weak : Weak). is_weak_at weak call) list

-- of places that are apart at most one is weak at a call
alike : (weak : Weak) (list : List Weak) (call : Call) → is_weak_at weak call ≡ true → list_any (is_same_place weak) list ≡ false → is_weak_in list call ≡ false
alike weak [] call here apart = refl
alike weak (other ∷ list) call here apart =
    let parts = or_parts (is_same_place weak other) (list_any (is_same_place weak) list) apart in
    let rest = alike weak list call here parts.1 in
    elim (cases_Bool (is_weak_at other call)) [
      | inl also ↦
          let same : is_same_place weak other ≡ true = ap (is_weak_at weak) (weak_call other call also) ∙ here in
          absurd (false≢true (sym parts.0 ∙ same))
      | inr not_here ↦ rw not_here rest
    ]

-- where no place is weak at the call, it does not fail
pub strong-fails : (raw : ℕ) (list : List Weak) (calls : List ℕ) (call : Call) → is_weak_in list call ≡ false → weak_fails raw (zip list calls) call ≡ None
strong-fails raw [] calls call none = refl
strong-fails raw (weak ∷ list) [] call none = refl
strong-fails raw (weak ∷ list) (n ∷ calls) call none =
    let parts = or_parts (is_weak_at weak call) (is_weak_in list call) none in
    rw parts.0 (strong-fails raw list calls call parts.1)

-- and no count changes
pub strong-counts : (list : List Weak) (calls : List ℕ) (call : Call) → is_weak_in list call ≡ false → weak_after_call (zip list calls) call ≡ zip list calls
strong-counts [] calls call none = refl
strong-counts (weak ∷ list) [] call none = refl
strong-counts (weak ∷ list) (n ∷ calls) call none =
    let parts = or_parts (is_weak_at weak call) (is_weak_in list call) none in
    let entry : WeakCount = (weak, n) in
    rw parts.0 (ap (λ (rest : List WeakCount). entry ∷ rest) (strong-counts list calls call parts.1))

-- where none is found, none is weak
pub none_weak : (start : ℕ) (list : List Weak) (call : Call) → first_weak start list call ≡ None → is_weak_in list call ≡ false
none_weak start [] call none = refl
none_weak start (weak ∷ list) call none =
    elim (cases_Bool (is_weak_at weak call)) [
      | inl here ↦ let found : Some start ≡ None = rw here at none in absurd cc
      | inr not_here ↦ let rest = none_weak (start + 1) list call (rw not_here at none) in rw not_here rest
    ]

-- the weak place that is found at place k, and what its calls do
pub record IsFound (list : List Weak) (calls : List ℕ) (call : Call) (k : ℕ) : Type 0 where
  pub weak : Weak
  pub inside : k < length list
  pub there : slice_get list k ≡ Some weak
  pub fails : (raw : ℕ) → weak_fails raw (zip list calls) call ≡ (if nat_le weak.after (slice_index calls k) then Some (done_bits raw weak.tear) else None)
  pub counts : weak_after_call (zip list calls) call ≡ zip list (slice_set calls k (min (slice_index calls k + 1) weak.after))

found_here : (weak : Weak) (list : List Weak) (n : ℕ) (calls : List ℕ) (call : Call) → are_apart (weak ∷ list) ≡ true → is_weak_at weak call ≡ true
    → IsFound (weak ∷ list) (n ∷ calls) call 0
found_here weak list n calls call apart here =
    let parts = and_parts (not (list_any (is_same_place weak) list)) (are_apart list) apart in
    let none = alike weak list call here (not-true (list_any (is_same_place weak) list) parts.0) in
    let entry : WeakCount = (weak, min (n + 1) weak.after) in
    record {
      weak = weak;
      inside = omega arith;
      there = refl;
      fails = λ raw. rw (here, strong-fails raw list calls call none) refl;
      counts = rw here (ap (λ (rest : List WeakCount). entry ∷ rest) (strong-counts list calls call none));
    }

found_later : (weak : Weak) (list : List Weak) (n : ℕ) (calls : List ℕ) (call : Call) (k : ℕ) → is_weak_at weak call ≡ false
    → IsFound list calls call k → IsFound (weak ∷ list) (n ∷ calls) call (suc k)
found_later weak list n calls call k not_here found =
    let entry : WeakCount = (weak, n) in
    record {
      weak = found.weak;
      inside = omega (arith, found.inside);
      there = found.there;
      fails = λ raw. rw not_here (found.fails raw);
      counts = rw not_here (ap (λ (rest : List WeakCount). entry ∷ rest) found.counts);
    }

found_from : (start n : ℕ) (list : List Weak) (calls : List ℕ) (call : Call) → length calls ≡ length list → are_apart list ≡ true → first_weak start list call ≡ Some n
    → (k : ℕ) × (n ≡ start + k) × IsFound list calls call k
found_from start n [] calls call same apart found = absurd cc
found_from start n (weak ∷ list) [] call same apart found = absurd (omega (arith, same))
found_from start n (weak ∷ list) (m ∷ calls) call same apart found =
    elim (cases_Bool (is_weak_at weak call)) [
      | inl here ↦
          let at : Some start ≡ Some n = rw here at found in
          let start_here : start ≡ n = cc in
          (zero, omega arith, found_here weak list m calls call apart here)
      | inr not_here ↦
          let parts = and_parts (not (list_any (is_same_place weak) list)) (are_apart list) apart in
          let fewer : length calls ≡ length list = omega (arith, same) in
          let next = found_from (start + 1) n list calls call fewer parts.1 (rw not_here at found) in
          let place : n ≡ start + suc next.0 = omega (arith, next.1) in
          (suc next.0, place, found_later weak list m calls call next.0 not_here next.2)
    ]

-- the weak place that is found at a place of the list
pub found_at : (n : ℕ) (list : List Weak) (calls : List ℕ) (call : Call) → length calls ≡ length list → are_apart list ≡ true → first_weak 0 list call ≡ Some n
    → IsFound list calls call n
found_at n list calls call same apart found =
    let by = found_from 0 n list calls call same apart found in
    let place : by.0 ≡ n = omega (arith, by.1) in
    subst (IsFound list calls call) place by.2

-- a place that had its calls fails by its tear
pub fails_worn : (list : List Weak) (calls : List ℕ) (call : Call) (k : ℕ) (weak : Weak) (n : ℕ) → IsFound list calls call k → slice_get list k ≡ Some weak
    → n ≡ slice_index calls k → weak.after ≤ n → (raw : ℕ) → Some (done_bits raw weak.tear) ≡ weak_fails raw (zip list calls) call
fails_worn list calls call k weak n found there read worn raw =
    let is_there = found.there in
    let same : found.weak ≡ weak = cc in
    let test : nat_le weak.after (slice_index calls k) ≡ true = grind (arith, nat_tests) in
    let fails = found.fails raw in
    sym (rw (same, test) at fails)

-- and one that did not have them is good
pub fails_not_yet : (list : List Weak) (calls : List ℕ) (call : Call) (k : ℕ) (weak : Weak) (n : ℕ) → IsFound list calls call k → slice_get list k ≡ Some weak
    → n ≡ slice_index calls k → n < weak.after → (raw : ℕ) → None ≡ weak_fails raw (zip list calls) call
fails_not_yet list calls call k weak n found there read early raw =
    let is_there = found.there in
    let same : found.weak ≡ weak = cc in
    let test : nat_le weak.after (slice_index calls k) ≡ false = grind (arith, nat_tests) in
    let fails = found.fails raw in
    sym (rw (same, test) at fails)

-- its next call is counted
pub counts_there : (list : List Weak) (calls : List ℕ) (call : Call) (k : ℕ) (weak : Weak) (n m : ℕ) → IsFound list calls call k → slice_get list k ≡ Some weak
    → n ≡ slice_index calls k → m ≡ min (n + 1) weak.after → zip list (slice_set calls k m) ≡ weak_after_call (zip list calls) call
counts_there list calls call k weak n m found there read is_m =
    let is_there = found.there in
    let same : found.weak ≡ weak = cc in
    let counts = found.counts in
    rw (is_m, read) (sym (rw same at counts))

-- a place of the list before those that were put in
pub first_weak_drop : (list : List Weak) (start n : ℕ) (weak : Weak) (call : Call) → slice_get list n ≡ Some weak
    → first_weak start (drop n list) call ≡ (if is_weak_at weak call then Some start else first_weak (start + 1) (drop (n + 1) list) call)
first_weak_drop [] start n weak call there = absurd cc
first_weak_drop (first ∷ list) start zero weak call there =
    let same : first ≡ weak = cc in
    rw same refl
first_weak_drop (first ∷ list) start (suc n) weak call there =
    let next : suc n + 1 ≡ suc (n + 1) = omega arith in
    rw next (first_weak_drop list start n weak call there)

-- weak places that were not called yet
pub uncalled : (list : List Weak) (n : ℕ) → n ≡ length list → zip {K = Weak} {X = ℕ} list (replicate n 0) ≡ map (λ (weak : Weak). (weak, 0)) list
uncalled [] n all = refl
uncalled (weak ∷ list) zero all = absurd (omega (arith, all))
uncalled (weak ∷ list) (suc n) all =
    let entry : WeakCount = (weak, 0) in
    let rest : n ≡ length list = omega (arith, all) in
    ap (λ (entries : List WeakCount). entry ∷ entries) (uncalled list n rest)
