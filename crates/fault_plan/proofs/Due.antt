-- The flips that are due before an event, found one after the other.
use Rattle.std.proofs.Common.{◌≡◌, ℕ, zero, suc, ◌+◌, ◌<◌, ◌≤◌, Bool, true, false, List, [], ◌∷◌, length, drop, Some, None, refl, ap, subst, arith, ◌∙◌}
use Rattle.std.specs.Prelude.{filter, slice_get, cond}
use Rattle.std.specs.List.{position_from}
use Rattle.std.proofs.lemmas.List.{length-drop}
use Rattle.std.proofs.Math.Seq.{drop-nil}
use Rattle.nand_model.specs.declared.words.Flip.{Flip}
use Rattle.nand_model.specs.Flips.{is_due}
use Rattle.fault_plan.specs.Due.{first_due}

none_after : (flips : List Flip) (event start : ℕ) → position_from (is_due event) start flips ≡ None → filter (is_due event) flips ≡ []
none_after [] event start none = refl
none_after (flip ∷ flips) event start none =
    let Given : Bool → Type 0 = λ b. cond b (Some start) (position_from (is_due event) (start + 1) flips) ≡ None
    → cond b (flip ∷ filter (is_due event) flips) (filter (is_due event) flips) ≡ [] in
    let by : (b : Bool) → Given b = λ b. elim b as Given [ true ↦ λ h. absurd cc | false ↦ none_after flips event (start + 1) ] in
    by (is_due event flip) none

-- no flip from here on is due, where none is found
pub none_due : (flips : List Flip) (event from : ℕ) → first_due flips event from ≡ None → filter (is_due event) (drop from flips) ≡ []
none_due flips event from none = none_after (drop from flips) event from none

-- the place k of a list that starts at place `start` is the first one with a flip that is due
record IsNext (flips : List Flip) (event start n k : ℕ) : Type 0 where
  place : n ≡ start + k
  inside : k < length flips
  rest : (flip : Flip) → slice_get flips k ≡ Some flip → filter (is_due event) flips ≡ flip ∷ filter (is_due event) (drop (suc k) flips)

next_after : (flips : List Flip) (event start n : ℕ) → position_from (is_due event) start flips ≡ Some n → (k : ℕ) × IsNext flips event start n k
next_after [] event start n found = absurd cc
next_after (first ∷ flips) event start n found =
    let Given : Bool → Type 0 = λ b. is_due event first ≡ b → cond b (Some start) (position_from (is_due event) (start + 1) flips) ≡ Some n
    → (k : ℕ) × IsNext (first ∷ flips) event start n k in
    let here_first : is_due event first ≡ true → (flip : Flip) → Some first ≡ Some flip
    → filter (is_due event) (first ∷ flips) ≡ flip ∷ filter (is_due event) flips
    = λ due flip same. rw due (ap (λ (f : Flip). f ∷ filter (is_due event) flips) cc) in
    let by : (b : Bool) → Given b = λ b. elim b as Given [
      | true ↦ λ due here. (0, record { place = let start_here : n ≡ start = cc in omega arith; inside = omega arith; rest = here_first due })
      | false ↦ λ other later.
          let next = next_after flips event (start + 1) n later in
          (suc next.0, record { place = omega arith; inside = omega arith; rest = λ flip same. rw other (next.1.rest flip same) })
    ] in
    by (is_due event first) refl found

-- the place that is found is one of the list
pub place_due : (flips : List Flip) (event from n : ℕ) → first_due flips event from ≡ Some n → (from ≤ n) × (n < length flips)
place_due flips event from n found =
    let next = next_after (drop from flips) event from n found in
    (omega arith, omega (arith, length-drop from flips))

slice_get-drop : (flips : List Flip) (from k n : ℕ) → n ≡ from + k → slice_get (drop from flips) k ≡ slice_get flips n
slice_get-drop flips zero k n at = let same : k ≡ n = omega arith in ap (slice_get flips) same
slice_get-drop [] (suc from) k zero at = refl
slice_get-drop [] (suc from) k (suc n) at = refl
slice_get-drop (flip ∷ flips) (suc from) k zero at = absurd (omega arith)
slice_get-drop (flip ∷ flips) (suc from) k (suc n) at = slice_get-drop flips from k n (omega arith)

drop-drop : (flips : List Flip) (from k n : ℕ) → n ≡ from + k → drop k (drop from flips) ≡ drop n flips
drop-drop flips zero k n at = let same : k ≡ n = omega arith in ap (λ (m : ℕ). drop m flips) same
drop-drop [] (suc from) k n at = rw (drop-nil k, drop-nil n) refl
drop-drop (flip ∷ flips) (suc from) k zero at = absurd (omega arith)
drop-drop (flip ∷ flips) (suc from) k (suc n) at = drop-drop flips from k n (omega arith)

-- the flips that are due from here on are the one that is found and those after it
pub next_due : (flips : List Flip) (event from n : ℕ) (flip : Flip) → first_due flips event from ≡ Some n → slice_get flips n ≡ Some flip
    → filter (is_due event) (drop from flips) ≡ flip ∷ filter (is_due event) (drop (n + 1) flips)
next_due flips event from n flip found same =
    let next = next_after (drop from flips) event from n found in
    let Rest : List Flip → Type 0 = λ rest. filter (is_due event) (drop from flips) ≡ flip ∷ filter (is_due event) rest in
    let here : slice_get (drop from flips) next.0 ≡ Some flip = slice_get-drop flips from next.0 n next.1.place ∙ same in
    subst Rest (drop-drop flips from (suc next.0) (n + 1) (omega arith)) (next.1.rest flip here)
