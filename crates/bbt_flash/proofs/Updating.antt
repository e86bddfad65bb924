-- How an update follows the definition of a writing.
use Rattle.std.proofs.Common.{◌≡◌, ℕ, zero, suc, ◌+◌, ◌<◌, ◌-◌, Bool, true, false, List, [], ◌∷◌, Option, Some, None, refl, ap, sym, ◌∙◌, arith}
use Rattle.nand_model.specs.Path.{Path, Over, first_event}
use Rattle.nand_model.specs.Table.{table_page}
use Rattle.chip_paths.specs.Stage.{path_after}
use Rattle.chip_paths.specs.Writing.{WholeCopies, Writing, after_event, event_for, event_once, marked, moved, next_place, next_version, next_writing_event, other_of, place_of, with_place, with_retired, with_whole, writing_after, writing_path, written_by}
use Rattle.nand_model.specs.declared.geometry.Geometry.{Geometry}
use Rattle.nand_model.specs.declared.words.Which.{Which}
use Rattle.bbt_flash.specs.Events.{answer_of, image_of, is_program, is_read}
use Rattle.bbt_flash.proofs.Paths.{path-after, path-event, path-over}

-- a copy moves while there are chances
pub moved-on : (w : Writing) (which : Which) (block chances : ℕ) → 0 < chances
    → moved w which (Some block) chances
    ≡ record w { version = next_version w.version; places = with_place w.places which block; left = which ∷ other_of which ∷ []; chances = chances - 1 }
moved-on w which block zero some = absurd (omega arith)
moved-on w which block (suc chances) some =
    let same : chances ≡ suc chances - 1 = omega arith in
    ap (λ c. record w { version = next_version w.version; places = with_place w.places which block; left = which ∷ other_of which ∷ []; chances = c }) same

-- and gives up where there are none
pub moved-none : (w : Writing) (which : Which) (block chances : ℕ) → chances ≡ 0 → moved w which (Some block) chances ≡ moved w which None chances
moved-none w which block zero none = refl
moved-none w which block (suc chances) none = absurd (omega arith)

module _ (g : Geometry) (w : Writing) where
  -- a writing whose first copy has an event
  pub after-one : (which : Which) (more : List Which) (ok : Bool) → w.left ≡ which ∷ more → writing_after g w (answer_of ok) ≡ after_event g w which more ok
  after-one which more true left = ap (λ l. written_by g w l true) left
  after-one which more false left = ap (λ l. written_by g w l false) left

  pub after-none : (ok : Bool) → w.left ≡ [] → writing_after g w (answer_of ok) ≡ w
  after-none true over = ap (λ l. written_by g w l true) over
  after-none false over = ap (λ l. written_by g w l false) over

  -- a block that failed is retired
  pub retired : (which : Which) (table : List ℕ) (whole : WholeCopies) (place : Option ℕ) (after : Writing) → table ≡ marked w.table (place_of w.places which)
      → whole ≡ with_whole w.whole which false → place ≡ next_place g table (place_of w.places (other_of which))
      → after ≡ moved (record w { table = table; whole = whole; erased = false }) which place w.chances
      → after ≡ with_retired g w which
  retired which table whole place after t h p e =
      e ∙ ap (λ o. moved (record w { table = table; whole = whole; erased = false }) which o w.chances) p
      ∙ (λ i. moved (record w { table = t i; whole = h i; erased = false }) which (next_place g (t i) (place_of w.places (other_of which))) w.chances)

  module _ {A : Type 0} (f : Writing → A) where
    abbrev ended : Writing → Path A
    ended end = Over (f end)

    -- the path of a writing with which all is over
    pub over-event : first_event (writing_path g w (λ end. Over (f end))) ≡ next_writing_event g w
    over-event = on w.left refl
      where
        on : (left : List Which) → w.left ≡ left → first_event (writing_path g w ended) ≡ next_writing_event g w
        on [] over = ap first_event (path-over g ended w over) ∙ sym (ap (event_for g w) over)
        on (which ∷ more) left = path-event g ended w which more left

    pub over-after : (ok : Bool) (after : Writing) → after ≡ writing_after g w (answer_of ok)
        → writing_path g after (λ end. Over (f end)) ≡ path_after (answer_of ok) (writing_path g w (λ end. Over (f end)))
    over-after ok after e = ap (λ v. writing_path g v ended) e ∙ on w.left refl
      where
        on : (left : List Which) → w.left ≡ left → writing_path g (writing_after g w (answer_of ok)) ended ≡ path_after (answer_of ok) (writing_path g w ended)
        on [] over =
            ap (λ v. writing_path g v ended) (after-none ok over) ∙ path-over g ended w over
            ∙ sym (ap (path_after (answer_of ok)) (path-over g ended w over))
        on (which ∷ more) left = sym (path-after g ended w which more left (answer_of ok))

    -- where no event is left it is over
    pub over-result : first_event (writing_path g w (λ end. Over (f end))) ≡ None → writing_path g w (λ end. Over (f end)) ≡ Over (f w)
    over-result none = on w.left refl
      where
        on : (left : List Which) → w.left ≡ left → writing_path g w ended ≡ Over (f w)
        on [] over = path-over g ended w over
        on (which ∷ more) left =
            let no : None ≡ Some (event_once w.erased g w which) = sym none ∙ path-event g ended w which more left ∙ ap (event_for g w) left in absurd (cc)

    -- none of its events is a read
    pub over-no-read : is_read (first_event (writing_path g w (λ end. Over (f end)))) ≡ false
    over-no-read = ap is_read over-event ∙ on w.left
      where
        either-way : (erased : Bool) (which : Which) → is_read (Some (event_once erased g w which)) ≡ false
        either-way true which = refl
        either-way false which = refl

        on : (left : List Which) → is_read (event_for g w left) ≡ false
        on [] = refl
        on (which ∷ more) = either-way w.erased which

  -- a program that is next is one of a block that was erased
  pub program-erased : (which : Which) (more : List Which) → w.left ≡ which ∷ more → is_program (next_writing_event g w) ≡ true → w.erased ≡ true
  program-erased which more left program = on w.erased (sym (ap is_program (ap (event_for g w) left)) ∙ program)
    where
      on : (erased : Bool) → is_program (Some (event_once erased g w which)) ≡ true → erased ≡ true
      on true e = refl
      on false e = cc

  pub program-left : w.left ≡ [] → is_program (next_writing_event g w) ≡ true → ⊥
  program-left over program = let no : false ≡ true = sym (ap is_program (ap (event_for g w) over)) ∙ program in cc

  -- its image is the page of the copy
  pub program-image : (which : Which) → w.erased ≡ true → image_of (Some (event_once w.erased g w which)) ≡ table_page g which w.version w.table
  program-image which erased = ap (λ b. image_of (Some (event_once b g w which))) erased
