-- Flips that are found by their events.
use Rattle.std.proofs.Common.{◌≡◌, inl, inr, ℕ, zero, suc, ◌+◌, ◌-◌, ◌<◌, ◌≤◌, Bool, true, false, List, [], ◌∷◌, ◌++◌, length, drop, Some, None, refl, sym, ap, subst, ◌∙◌, arith}
use Rattle.std.specs.Prelude.{◌==◌, ◌&&◌, cond}
use Rattle.std.specs.BTreeSet.{BTreeSet, contains, Updates, IsKeyRangeOf}
use Rattle.std.specs.declared.ops.Bound.TheVariants.{Included, Unbounded}
use Rattle.std.specs.Cmp.{both_tied, unsigned_tied}
use Rattle.std.specs.Ordering.{nat_cmp, is_eq, is_gt}
use Rattle.std.specs.List.{position_from}
use Rattle.std.proofs.lemmas.Bool.Decides.{eqb_tells, nat_tests}
use Rattle.nand_model.specs.Flips.{is_due}
use Rattle.nand_model.specs.declared.words.Flip.{Flip}
use Rattle.fault_plan.specs.ByEvent.{AreByEvent, cmp_event, is_due_at}
use Rattle.fault_plan.specs.Due.{first_due}

-- the last flip of a list, and the others

due_at_end : (flips : List Flip) (flip : Flip) (event : ℕ) → is_due_at (flips ++ flip ∷ []) event (length flips) ≡ is_due event flip
due_at_end [] flip event = refl
due_at_end (first ∷ flips) flip event = due_at_end flips flip event

due_past_end : (flips : List Flip) (event : ℕ) → is_due_at flips event (length flips) ≡ false
due_past_end [] event = refl
due_past_end (first ∷ flips) event = due_past_end flips event

due_before_end : (flips : List Flip) (flip : Flip) (event place : ℕ) → (length flips ≡ place → ⊥)
    → is_due_at (flips ++ flip ∷ []) event place ≡ is_due_at flips event place
due_before_end [] flip event zero other = absurd (other refl)
due_before_end [] flip event (suc place) other = refl
due_before_end (first ∷ flips) flip event zero other = refl
due_before_end (first ∷ flips) flip event (suc place) other = due_before_end flips flip event place (λ same. other (ap suc same))

is_same_key : (a b : ℕ × ℕ) → is_eq (cmp_event a b) ≡ (a.0 == b.0 && a.1 == b.1)
is_same_key a b =
    sym (both_tied (a.0 == b.0) (a.1 == b.1) (nat_cmp a.0 b.0) (nat_cmp a.1 b.1) (sym (unsigned_tied a.0 b.0)) (sym (unsigned_tied a.1 b.1)))

either : (b : Bool) → cond (b && true) true false ≡ b
either true = refl
either false = refl

neither : (b c : Bool) → cond (b && false) true c ≡ c
neither true c = refl
neither false c = refl

appended : (flips : List Flip) (flip : Flip) (event place : ℕ)
    → cond (flip.before == event && length flips == place) true (is_due_at flips event place) ≡ is_due_at (flips ++ flip ∷ []) event place
appended flips flip event place =
    elim (eqb_tells (length flips) place) [
      | inl same ↦
          let last : is_due_at (flips ++ flip ∷ []) event place ≡ (flip.before == event) =
          subst (λ k. is_due_at (flips ++ flip ∷ []) event k ≡ (flip.before == event)) same.1 (due_at_end flips flip event) in
          let past : is_due_at flips event place ≡ false = subst (λ k. is_due_at flips event k ≡ false) same.1 (due_past_end flips event) in
          rw (same.0, past, last) (either (flip.before == event))
      | inr other ↦ rw (other.0, due_before_end flips flip event place other.1) (neither (flip.before == event) (is_due_at flips event place))
    ]

-- a flip at the end of the list, and its event and place in the set
pub by_event-appended : (flips : List Flip) (flip : Flip) (old new : BTreeSet (ℕ × ℕ)) → AreByEvent flips old
    → Updates cmp_event old new (flip.before, length flips) true → AreByEvent (flips ++ flip ∷ []) new
by_event-appended flips flip old new by updates =
    λ event place. updates.0 (event, place)
    ∙ ap (λ b. cond b true (contains cmp_event old (event, place))) (is_same_key (flip.before, length flips) (event, place))
    ∙ ap (λ b. cond (flip.before == event && length flips == place) true b) (by event place)
    ∙ appended flips flip event place

-- the first of the flips that are due

due_at-drop : (flips : List Flip) (event from k n : ℕ) → n ≡ from + k → is_due_at (drop from flips) event k ≡ is_due_at flips event n
due_at-drop flips event zero k n at = let same : k ≡ n = omega arith in ap (is_due_at flips event) same
due_at-drop [] event (suc from) k n at = refl
due_at-drop (flip ∷ flips) event (suc from) k zero at = absurd (omega arith)
due_at-drop (flip ∷ flips) event (suc from) k (suc n) at = due_at-drop flips event from k n (omega arith)

first_here : (flips : List Flip) (event start k : ℕ) → is_due_at flips event k ≡ true → ((j : ℕ) → j < k → is_due_at flips event j ≡ false)
    → position_from (is_due event) start flips ≡ Some (start + k)
first_here [] event start k due none = absurd cc
first_here (flip ∷ flips) event start zero due none = let here : start ≡ start + zero = omega arith in rw due (ap Some here)
first_here (flip ∷ flips) event start (suc k) due none =
    let other : is_due event flip ≡ false = none zero (omega arith) in
    let place : start + 1 + k ≡ start + suc k = omega arith in
    rw other (first_here flips event (start + 1) k due (λ j less. none (suc j) (omega arith)) ∙ ap Some place)

none_here : (flips : List Flip) (event start : ℕ) → ((j : ℕ) → is_due_at flips event j ≡ false) → position_from (is_due event) start flips ≡ None
none_here [] event start none = refl
none_here (flip ∷ flips) event start none =
    let other : is_due event flip ≡ false = none zero in
    rw other (none_here flips event (start + 1) (λ j. none (suc j)))

-- the order of the set

le_at_event : (event a b : ℕ) → is_gt (cmp_event (event, a) (event, b)) ≡ false → a ≤ b
le_at_event event a b le = grind (arith, nat_tests)

at_event_le : (event a b : ℕ) → a ≤ b → is_gt (cmp_event (event, a) (event, b)) ≡ false
at_event_le event a b le = grind (arith, nat_tests)

le_events : (e a f b : ℕ) → is_gt (cmp_event (e, a) (f, b)) ≡ false → e ≤ f
le_events e a f b le = grind (arith, nat_tests)

not_true : (b : Bool) → (b ≡ true → ⊥) → b ≡ false
not_true b = elim b as (λ b. (b ≡ true → ⊥) → b ≡ false) [ true ↦ λ no. absurd (no refl) | false ↦ λ no. refl ]

module _ (flips : List Flip) (set : BTreeSet (ℕ × ℕ)) (event from : ℕ) (by : AreByEvent flips set) where
  -- what a search from an event and a place on finds
  abbrev Found : List (ℕ × ℕ) → Type 0
  Found = IsKeyRangeOf cmp_event (Included (event, from)) Unbounded set

  due_first_at : (n : ℕ) (rest : List (ℕ × ℕ)) → Found ((event, n) ∷ rest) → first_due flips event from ≡ Some n
  due_first_at n rest range =
      let after : from ≤ n = le_at_event event from n range.1.0.0 in
      let due : is_due_at flips event n ≡ true = sym (by event n) ∙ range.1.1 in
      let none : (k : ℕ) → from ≤ k → k < n → is_due_at flips event k ≡ false =
      λ k late less. not_true (is_due_at flips event k) (λ is.
      let most : n ≤ k = le_at_event event n k (range.2 (event, k) (at_event_le event from k late, tt) (by event k ∙ is)) in
      omega arith) in
      let k : ℕ = n - from in
      let at : n ≡ from + (n - from) = omega arith in
      first_here (drop from flips) event from k (due_at-drop flips event from k n at ∙ due)
      (λ j less. due_at-drop flips event from j (from + j) refl ∙ none (from + j) (omega arith) (omega arith))
      ∙ ap Some (sym at)

  -- the first of those from a place on is due before this event
  pub due_first : (key : ℕ × ℕ) (rest found : List (ℕ × ℕ)) → found ≡ key ∷ rest → key.0 ≡ event → Found found → first_due flips event from ≡ Some key.1
  due_first key rest found is same range =
      due_first_at key.1 rest (subst (λ e. Found ((e, key.1) ∷ rest)) same (subst Found is range))

  -- the first of those from a place on is due before another event
  pub due_other : (key : ℕ × ℕ) (rest found : List (ℕ × ℕ)) → found ≡ key ∷ rest → (key.0 ≡ event → ⊥) → Found found → first_due flips event from ≡ None
  due_other key rest found is other range =
      let here : Found (key ∷ rest) = subst Found is range in
      let late : event ≤ key.0 = le_events event from key.0 key.1 here.1.0.0 in
      none_here (drop from flips) event from (λ j. not_true (is_due_at (drop from flips) event j) (λ is_due.
      let due : is_due_at flips event (from + j) ≡ true = sym (due_at-drop flips event from j (from + j) refl) ∙ is_due in
      let most : key.0 ≤ event = le_events key.0 key.1 event (from + j)
      (here.2 (event, from + j) (at_event_le event from (from + j) (omega arith), tt) (by event (from + j) ∙ due)) in
      other (omega arith)))

  -- there is none from a place on
  pub due_nowhere : (found : List (ℕ × ℕ)) → found ≡ [] → Found found → first_due flips event from ≡ None
  due_nowhere found is range =
      none_here (drop from flips) event from (λ j. due_at-drop flips event from j (from + j) refl ∙ sym (by event (from + j))
      ∙ range.5 is (event, from + j) (at_event_le event from (from + j) (omega arith), tt))
