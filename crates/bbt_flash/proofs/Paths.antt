-- The path of a writing, event by event.
use Rattle.std.proofs.Common.{◌≡◌, ℕ, zero, suc, ◌+◌, ◌-◌, ◌*◌, ◌≤◌, Bool, true, false, List, [], ◌∷◌, length, Option, Some, None, refl, ap, sym, subst, ◌∙◌, arith}
use Rattle.nand_model.specs.Path.{Answer, Path, Over, Then, first_event, is_good}
use Rattle.chip_paths.specs.Stage.{path_after}
use Rattle.chip_paths.specs.Writing.{Writing, after_event, count_if, event_for, event_once, marked, most_events, moved, next_place, next_writing_event, other_of, place_of, with_retired, with_whole, writing_after, writing_path, writing_step, writing_within, written_by}
use Rattle.nand_model.specs.declared.geometry.Geometry.{Geometry}
use Rattle.nand_model.specs.declared.words.Which.{Which}

-- so many events are enough for what is left of a writing
abbrev pub AreEnough : ℕ → Writing → Type 0
AreEnough n w = 2 * length w.left + 4 * w.chances ≤ n + count_if w.erased

count_if-le : (b : Bool) → count_if b ≤ 1
count_if-le true = omega arith
count_if-le false = omega arith

-- a copy that moves leaves enough
enough-moved : (n c : ℕ) (v : Writing) (which : Which) (o : Option ℕ) → 4 * c ≤ n → v.chances ≡ c → AreEnough n (moved v which o c)
enough-moved n c v which None few same = omega (arith, few, same)
enough-moved n zero v which (Some block) few same = omega (arith, few, same)
enough-moved n (suc c) v which (Some block) few same = omega (arith, few, same)

-- and so does each event
enough-after : (g : Geometry) (n : ℕ) (w : Writing) (which : Which) (more : List Which) → w.left ≡ which ∷ more → AreEnough (suc n) w → (good : Bool)
    → AreEnough n (after_event g w which more good)
enough-after g n w which more left enough true = on w.erased refl
  where
    on : (erased : Bool) → w.erased ≡ erased → AreEnough n (after_event g (record w { erased = erased }) which more true)
    on true e = omega (arith, enough, ap count_if e, ap (λ (l : List Which). length l) left)
    on false e = omega (arith, enough, ap count_if e, ap (λ (l : List Which). length l) left)
enough-after g n w which more left enough false =
    let table = marked w.table (place_of w.places which) in
    let few : 4 * w.chances ≤ n = omega (arith, enough, count_if-le w.erased, ap (λ (l : List Which). length l) left) in
    enough-moved n w.chances (record w { table = table; whole = with_whole w.whole which false; erased = false }) which
    (next_place g table (place_of w.places (other_of which))) few refl

module _ {A : Type 0} (g : Geometry) (go_on : Writing → Path A) where
  -- what comes after the next event of a writing
  abbrev step_within : ℕ → Writing → List Which → Path A
  step_within n w left = writing_step g w left (λ u. go_on w) (λ answer. writing_within n g (writing_after g w answer) go_on)

  over-within : (n : ℕ) (w : Writing) → w.left ≡ [] → writing_within n g w go_on ≡ go_on w
  over-within zero w over = refl
  over-within (suc n) w over = ap (step_within n w) over

  then-within : (n : ℕ) (w : Writing) (which : Which) (more : List Which) → w.left ≡ which ∷ more
      → writing_within (suc n) g w go_on ≡ Then (event_once w.erased g w which) (λ answer. writing_within n g (writing_after g w answer) go_on)
  then-within n w which more left = ap (step_within n w) left

  none-left : (n : ℕ) (w : Writing) (which : Which) (more : List Which) → w.left ≡ which ∷ more → AreEnough zero w → ⊥
  none-left n w which more left enough = omega (arith, enough, count_if-le w.erased, ap (λ (l : List Which). length l) left)

  -- any number of events that is enough gives the same path
  same-within : (n m : ℕ) (w : Writing) → AreEnough n w → AreEnough m w → writing_within n g w go_on ≡ writing_within m g w go_on
  same-within zero m w enough enough_too = on w.left refl
    where
      on : (left : List Which) → w.left ≡ left → writing_within zero g w go_on ≡ writing_within m g w go_on
      on [] over = sym (over-within m w over)
      on (which ∷ more) left = absurd (none-left m w which more left enough)
  same-within (suc n) zero w enough enough_too = on w.left refl
    where
      on : (left : List Which) → w.left ≡ left → writing_within (suc n) g w go_on ≡ writing_within zero g w go_on
      on [] over = over-within (suc n) w over
      on (which ∷ more) left = absurd (none-left n w which more left enough_too)
  same-within (suc n) (suc m) w enough enough_too = on (same-within n m) w.left refl
    where
      on : ((v : Writing) → AreEnough n v → AreEnough m v → writing_within n g v go_on ≡ writing_within m g v go_on) → (left : List Which) → w.left ≡ left
          → writing_within (suc n) g w go_on ≡ writing_within (suc m) g w go_on
      on later [] over = over-within (suc n) w over ∙ sym (over-within (suc m) w over)
      on later (which ∷ more) left =
          then-within n w which more left
          ∙ (λ i. Then (event_once w.erased g w which) (λ answer. later (writing_after g w answer) (after answer n enough) (after answer m enough_too) i))
          ∙ sym (then-within m w which more left)
        where
          after : (answer : Answer) (k : ℕ) → AreEnough (suc k) w → AreEnough k (writing_after g w answer)
          after answer k e =
              subst (AreEnough k) (sym (ap (λ l. written_by g w l (is_good answer)) left)) (enough-after g k w which more left e (is_good answer))

  -- a writing that is over goes on
  pub path-over : (w : Writing) → w.left ≡ [] → writing_path g w go_on ≡ go_on w
  path-over w over = over-within (most_events w) w over

  module _ (w : Writing) (which : Which) (more : List Which) (left : w.left ≡ which ∷ more) where
    one_less : most_events w ≡ suc (most_events w - 1)
    one_less = omega (arith, ap (λ (l : List Which). length l) left)

    abbrev rest : Answer → Path A
    rest answer = writing_within (most_events w - 1) g (writing_after g w answer) go_on

    -- a writing that is not over has its next event
    pub path-then : writing_path g w go_on ≡ Then (event_once w.erased g w which) rest
    path-then = ap (λ n. writing_within n g w go_on) one_less ∙ then-within (most_events w - 1) w which more left

    pub path-event : first_event (writing_path g w go_on) ≡ next_writing_event g w
    path-event = ap first_event path-then ∙ sym (ap (event_for g w) left)

    -- and after it the path of the writing after it
    pub path-after : (answer : Answer) → path_after answer (writing_path g w go_on) ≡ writing_path g (writing_after g w answer) go_on
    path-after answer =
        ap (path_after answer) path-then ∙ same-within (most_events w - 1) (most_events next) next enough enough_there
      where
        next : Writing
        next = writing_after g w answer

        all : AreEnough (suc (most_events w - 1)) w
        all = omega (arith, ap (λ (l : List Which). length l) left)

        enough : AreEnough (most_events w - 1) next
        enough =
            subst (AreEnough (most_events w - 1)) (sym (ap (λ l. written_by g w l (is_good answer)) left))
            (enough-after g (most_events w - 1) w which more left all (is_good answer))

        enough_there : AreEnough (most_events next) next
        enough_there = omega arith
