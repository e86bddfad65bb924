-- A writing goes along its path and keeps its invariant to its end.
use Rattle.std.proofs.Common.{◌≡◌, ◌≢◌, ◌⊎◌, inl, inr, ℕ, zero, suc, ◌+◌, ◌*◌, ◌≤◌, Bool, true, false, List, [], ◌∷◌, length, refl, ap, sym, ◌∙◌, arith, subst, Option, Some, None}
use Rattle.nand_model.specs.Sizes.{first_page}
use Rattle.nand_model.specs.Table.{table_page, calls_bad}
use Rattle.nand_model.specs.Chip.{ProgramEvent, EraseEvent}
use Rattle.nand_model.specs.Path.{Answer, Good, Failed, Path, Then, is_good}
use Rattle.chip_paths.specs.Writing.{place_of, marked, Writing, other_of, with_whole, count_if, after_good, after_event, moved, next_place, written_by, writing_step, writing_within, writing_path, most_events, with_retired, event_once, writing_after}
use Rattle.nand_model.specs.declared.geometry.Geometry.{Geometry}
use Rattle.nand_model.specs.declared.words.Which.{Which}
use Rattle.relocation_laws.specs.Shelves.{Held, Shelf, with_held, IsAside, TableLaws, IsBeneath, Rests, image_of, Pending, Keeps}
use Rattle.relocation_laws.specs.Goes.{Goes}
use Rattle.relocation_laws.proofs.Induction.{held-own, some-same, beneath-self, else-held, rests-written, erased-well, programmed-well, failed-well}

module _ {A : Type 0} (g : Geometry) (TB Fails : ℕ → Type 0) (Form Good_ : List ℕ → Type 0) (Fresh : Type 0) (laws : TableLaws g TB Fails Form Good_)
    (Ends : A → Shelf → Type 0) (go_on : Writing → Path A) (Stays : Writing → Type 0) (stable : (w : Writing) (good : Bool) → Stays w → Stays (written_by g w w.left good))
    (ends : (fresh : Option ℕ) (w : Writing) (h : Shelf) → Stays w → Keeps TB Form Good_ Fresh w [] h → Goes g TB Fails Form (Rests TB Form Good_ Fresh) Ends fresh h (go_on w)) where
  abbrev Along : Option ℕ → Shelf → Path A → Type 0
  Along = Goes g TB Fails Form (Rests TB Form Good_ Fresh) Ends

  -- the block that was just erased
  abbrev fresh_of : Bool → ℕ → Option ℕ
  fresh_of true b = Some b
  fresh_of false b = None

  abbrev fresh_in : Bool → Writing → List Which → Option ℕ
  fresh_in erased w [] = None
  fresh_in erased w (which ∷ more) = fresh_of erased (place_of w.places which)

  -- the events that are left at most
  abbrev Within : ℕ → Writing → Type 0
  Within n w = 2 * length w.left + 4 * w.chances ≤ n + count_if w.erased

  count_if-le : (b : Bool) → count_if b ≤ 1
  count_if-le true = omega arith
  count_if-le false = omega arith

  module _ (n : ℕ) (later : (w : Writing) (h : Shelf) → Within n w → Stays w → Keeps TB Form Good_ Fresh w w.left h → Along (fresh_in w.erased w w.left) h (writing_within n g w go_on))
      (w : Writing) (h : Shelf) (within : Within (suc n) w) (stays : Stays w) (which : Which) (more : List Which) (left_is : w.left ≡ which ∷ more) (p : Pending TB Form Good_ Fresh w which more h) where
    abbrev here : ℕ
    here = place_of w.places which

    abbrev rest : Answer → Path A
    rest answer = writing_within n g (writing_after g w answer) go_on

    -- after an answer by which the writing has come to another one
    to-next : (answer : Answer) (v : Writing) (y : Shelf) → after_event g w which more (is_good answer) ≡ v → Within n v → Keeps TB Form Good_ Fresh v v.left y
        → Along (fresh_in v.erased v v.left) y (rest answer)
    to-next answer v y e within_v keeps =
        subst (λ u. Along (fresh_in v.erased v v.left) y (writing_within n g u go_on)) (sym same) (later v y within_v (subst Stays same (stable w (is_good answer) stays)) keeps)
      where
        same : written_by g w w.left (is_good answer) ≡ v
        same = ap (λ l. written_by g w l (is_good answer)) left_is ∙ e

    within-moved : (v : Writing) (o : Option ℕ) (c : ℕ) → v.chances ≡ w.chances → w.chances ≡ c → Within n (moved v which o c)
    within-moved v None c same e = omega (arith, within, count_if-le w.erased, ap (λ (l : List Which). length l) left_is, same)
    within-moved v (Some b) zero same e = omega (arith, within, count_if-le w.erased, ap (λ (l : List Which). length l) left_is, same)
    within-moved v (Some b) (suc c) same e = omega (arith, within, count_if-le w.erased, ap (λ (l : List Which). length l) left_is, same, e)

    none-moved : (v : Writing) (o : Option ℕ) (c : ℕ) → v.erased ≡ false → fresh_in (moved v which o c).erased (moved v which o c) (moved v which o c).left ≡ None
    none-moved v None c e = refl
    none-moved v (Some b) zero e = refl
    none-moved v (Some b) (suc c) e = rw e refl

    failed-along : (y : Shelf) → Rests TB Form Good_ Fresh y → ((b : ℕ) (c : Held) → y b ≡ Some c → b ≢ here → h b ≡ Some c)
        → ((c : Held) → y here ≡ Some c → IsBeneath TB Form Good_ w.table here c) → Fails here → Along None y (rest Failed)
    failed-along y rests still left_here bad =
        subst (λ f. Along f y (rest Failed)) (none-moved then (next_place g (marked w.table here) (place_of w.places (other_of which))) w.chances refl)
        (to-next Failed (with_retired g w which) y refl (within-moved then (next_place g (marked w.table here) (place_of w.places (other_of which))) w.chances refl refl)
        (failed-well TB Form Good_ Fresh w which more h p g Fails laws bad y rests still left_here))
      where
        then : Writing
        then = record w { table = marked w.table here; whole = with_whole w.whole which false; erased = false }

    none-in : (v : Writing) (l : List Which) → fresh_in false v l ≡ None
    none-in v [] = refl
    none-in v (k ∷ l) = refl

    erase-step : w.erased ≡ false → Along None h (Then (EraseEvent here) rest)
    erase-step erased = (
      p.places.inside which,
      p.resting,
      p.clear,
      p.kept,
      subst (λ f. Along f (with_held h here None) (rest Good)) (ap (fresh_in true next) left_is)
          (to-next Good next (with_held h here None) (ap (after_good w which more) erased) within-next
          (subst (λ l. Keeps TB Form Good_ Fresh next l (with_held h here None)) (sym left_is) (erased-well TB Form Good_ Fresh w which more h p))),
      λ bad. (
        failed-along h p.resting (λ b c e m. e) (λ c e. p.beneath here c e) bad,
        failed-along (with_held h here None) p.clear (else-held TB Form Good_ Fresh w which more h p None) (λ c e. absurd (cc (held-own h here None, e))) bad,
      ),
      is-aside p.aside,
    )
      where
        there : ℕ
        there = place_of w.places (other_of which)

        uncalled : (x : ℕ) (e : Held) → h x ≡ Some e → calls_bad e.table (place_of w.places (other_of which)) ≡ false
        uncalled x e at = on (calls_bad e.table (place_of w.places (other_of which))) refl
          where
            on : (t : Bool) → calls_bad e.table (place_of w.places (other_of which)) ≡ t → t ≡ false
            on false q = refl
            on true q = sym ((p.beneath x e at).covered (place_of w.places (other_of which)) q) ∙ p.places.free (other_of which)

        is-aside : (h (place_of w.places which) ≡ None) ⊎ ((c : Held) × (h (place_of w.places (other_of which)) ≡ Some c)) → IsAside h (place_of w.places which)
        is-aside (inl none) = inl none
        is-aside (inr (c, at)) = inr (record { block = place_of w.places (other_of which); copy = c; apart = λ e. p.places.apart which (sym e); at = at; uncalled = uncalled })

        next : Writing
        next = after_good w which more false

        within-next : Within n next
        within-next = omega (arith, within, ap count_if erased)

    program-step : w.erased ≡ true → Along (Some here) h (Then (ProgramEvent (first_page g here) (table_page g which w.version w.table)) rest)
    program-step erased = (
      here,
      img,
      record { page_is = refl; image_is = refl; inside = p.places.inside which; byte = p.writable.byte; form = p.writable.form },
      refl,
      p.blank erased,
      p.resting,
      rests-written TB Form Good_ Fresh w which more h p,
      subst (λ f. Along f (with_held h here (Some img)) (rest Good)) (none-in next more)
          (to-next Good next (with_held h here (Some img)) (ap (after_good w which more) erased) within-next (programmed-well TB Form Good_ Fresh w which more h p erased)),
      λ bad. (
        failed-along h p.resting (λ b c e m. e) (λ c e. p.beneath here c e) bad,
        failed-along (with_held h here (Some img)) (rests-written TB Form Good_ Fresh w which more h p) (else-held TB Form Good_ Fresh w which more h p (Some img)) written-here bad,
      ),
    )
      where
        img : Held
        img = image_of TB Form Good_ Fresh w which

        next : Writing
        next = after_good w which more true

        within-next : Within n next
        within-next = omega (arith, within, count_if-le w.erased, ap (λ (l : List Which). length l) left_is)

        written-here : (c : Held) → with_held h here (Some img) here ≡ Some c → IsBeneath TB Form Good_ w.table here c
        written-here c e =
            subst (λ d. IsBeneath TB Form Good_ w.table here d) (some-same img c (sym (held-own h here (Some img)) ∙ e))
            (beneath-self TB Form Good_ Fresh w.table here img (p.places.inside which) p.writable.byte p.writable.form refl)

    one-step : (b : Bool) → w.erased ≡ b → Along (fresh_of b here) h
        (Then (event_once b g w which) rest)
    one-step true e = program-step e
    one-step false e = erase-step e

  pub goes-within : (n : ℕ) (w : Writing) (h : Shelf) → Within n w → Stays w → Keeps TB Form Good_ Fresh w w.left h → Along (fresh_in w.erased w w.left) h (writing_within n g w go_on)
  goes-within zero w h within stays keeps = on w.left refl keeps
    where
      on : (l : List Which) → w.left ≡ l → Keeps TB Form Good_ Fresh w l h → Along (fresh_in w.erased w l) h (go_on w)
      on [] e k = ends None w h stays k
      on (which ∷ more) e k = absurd (omega (arith, within, count_if-le w.erased, ap (λ (l : List Which). length l) e))
  goes-within (suc n) w h within stays keeps = on (goes-within n) w.left refl keeps
    where
      on : ((w : Writing) (h : Shelf) → Within n w → Stays w → Keeps TB Form Good_ Fresh w w.left h → Along (fresh_in w.erased w w.left) h (writing_within n g w go_on))
          → (l : List Which) → w.left ≡ l → Keeps TB Form Good_ Fresh w l h
          → Along (fresh_in w.erased w l) h (writing_step g w l (λ u. go_on w) (λ answer. writing_within n g (writing_after g w answer) go_on))
      on later [] e k = ends None w h stays k
      on later (which ∷ more) e k = one-step n later w h within stays which more e k w.erased refl

  -- a whole writing
  pub goes-along : (w : Writing) (h : Shelf) → w.erased ≡ false → Stays w → Keeps TB Form Good_ Fresh w w.left h → Along None h (writing_path g w go_on)
  goes-along w h erased stays keeps =
      subst (λ f. Along f h (writing_path g w go_on)) (ap (λ b. fresh_in b w w.left) erased ∙ none w.left) (goes-within (most_events w) w h (omega arith) stays keeps)
    where
      none : (l : List Which) → fresh_in false w l ≡ None
      none [] = refl
      none (k ∷ l) = refl
