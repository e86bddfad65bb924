-- Counts over states.
use Rattle.std.proofs.Common.{◌≡◌, ℕ, ◌+◌, ◌-◌, ◌<◌, ◌≤◌, Bool, true, false, List, length, take, drop, refl, ap, ap₂, sym, ◌∙◌, subst, arith}
use Rattle.std.specs.Prelude.{slice_index, slice_range, count_by, IsTrue, ◌↔◌, ◌≢◌, ◌==◌}
use Rattle.std.proofs.lemmas.Bool.{false≢true}
use Rattle.std.proofs.lemmas.Bool.Decides.{nat_tests}
use Rattle.bbt_ram.specs.Packed.{is_not_good}
use Rattle.std.proofs.lemmas.List.{length-drop, get_or-drop}
use Rattle.std.proofs.lemmas.List.Sums.{count_by_more_yes, count_by_more_no}

-- one state more in a range
next_in_range : (states : List ℕ) (from block : ℕ) → from ≤ block → slice_index (drop from states) (block - from) ≡ slice_index states block
next_in_range states from block h = let e : from + (block - from) ≡ block = omega arith in get_or-drop from states (block - from) 0 ∙ ap (slice_index states) e

pub count_range_yes : (p : ℕ → Bool) (states : List ℕ) (from block : ℕ) → from ≤ block → block < length states → p (slice_index states block) ≡ true
    → count_by p (slice_range states from (block + 1)) ≡ count_by p (slice_range states from block) + 1
count_range_yes p states from block h there holds =
    let e : (block + 1) - from ≡ (block - from) + 1 = omega arith in
    let inside : block - from < length (drop from states) = omega (arith, length-drop from states) in
    ap (λ n. count_by p (take n (drop from states))) e
    ∙ count_by_more_yes p (drop from states) (block - from) 0 inside (ap p (next_in_range states from block h) ∙ holds)

pub count_range_no : (p : ℕ → Bool) (states : List ℕ) (from block : ℕ) → from ≤ block → block < length states → p (slice_index states block) ≡ false
    → count_by p (slice_range states from (block + 1)) ≡ count_by p (slice_range states from block)
count_range_no p states from block h there fails =
    let e : (block + 1) - from ≡ (block - from) + 1 = omega arith in
    let inside : block - from < length (drop from states) = omega (arith, length-drop from states) in
    ap (λ n. count_by p (take n (drop from states))) e
    ∙ count_by_more_no p (drop from states) (block - from) 0 inside (ap p (next_in_range states from block h) ∙ fails)

pub not_good : (bad : Bool) (state : ℕ) → (IsTrue bad ↔ (state ≢ 0)) → bad ≡ true → is_not_good state ≡ true
not_good true state h e = let some : state ≢ 0 = h.0 refl in grind (arith, nat_tests)
not_good false state h e = cc

pub good : (bad : Bool) (state : ℕ) → (IsTrue bad ↔ (state ≢ 0)) → bad ≡ false → is_not_good state ≡ false
good true state h e = cc
good false state h e = on (state == 0) refl
  where
    on : (t : Bool) → (state == 0) ≡ t → Rattle.std.specs.Prelude.not t ≡ false
    on true is = refl
    on false is = let some : state ≢ 0 = grind (arith, nat_tests) in absurd (false≢true (h.1 some))
