-- How many pages a writing, an attach and a mark program at most.
use Rattle.std.proofs.Common.{◌≡◌, ◌≢◌, ℕ, zero, suc, ◌+◌, ◌*◌, ◌-◌, ◌≤◌, Bool, true, false, List, [], ◌∷◌, ◌++◌, length, Option, Some, None, refl, ap, sym, subst, arith}
use Rattle.std.specs.Prelude.{not, ◌==◌}
use Rattle.std.proofs.lemmas.Bool.{ne_eqb}
use Rattle.nand_model.specs.Path.{Answer, Path, Over, Then, cells_of, first_event, is_good}
use Rattle.nand_model.specs.Chip.{PageEvent}
use Rattle.nand_model.specs.Sizes.{numbers_from}
use Rattle.nand_model.specs.Table.{has_tables, table_blocks}
use Rattle.chip_paths.specs.Attach.{Attaching, attach_by, attach_path, attaching_of, marker_table, read_first_pages, rewrite_copies, use_copy, use_found, whole_at_first, with_reserved}
use Rattle.chip_paths.specs.Copies.{candidates, choice_of, found, places_of, rewritten, used_copy, version_found}
use Rattle.chip_paths.specs.Stage.{path_after}
use Rattle.chip_paths.specs.Writing.{Places, Writing, after_event, event_once, marked, most_events, moved, next_place, other_of, place_of, with_whole, writing_after, writing_of, writing_path, writing_within, writing_step, written_by}
use Rattle.nand_model.specs.Table.{Copy}
use Rattle.nand_model.specs.declared.geometry.Geometry.{Geometry}
use Rattle.nand_model.specs.declared.words.Choice.{Choice}
use Rattle.nand_model.specs.declared.words.Choice.TheVariants.{Primary as UsePrimary, Mirror as UseMirror, Neither}
use Rattle.nand_model.specs.declared.words.Which.{Which}
use Rattle.nand_model.specs.declared.words.Which.TheVariants.{Primary, Mirror}
use Rattle.bbt_flash.specs.Step.{attached_by_markers}
use Rattle.chip_core.specs.Events.{ProgramsAtMost, programs_in}

-- after an answer no more are left
pub programs-after : {A : Type 0} (n : ℕ) (path : Path A) (e : PageEvent) (answer : Answer) → first_event path ≡ Some e → ProgramsAtMost n path
    → (programs_in e ≤ n) × ProgramsAtMost (n - programs_in e) (path_after answer path)
programs-after n (Over result) e answer is most = cc
programs-after n (Then event rest) e answer is most =
    let same : event ≡ e = cc in
    subst (λ e. (programs_in e ≤ n) × ProgramsAtMost (n - programs_in e) (rest answer)) same (most.0, most.1 answer)

pub no-programs : {A : Type 0} (n m : ℕ) (path : Path A) → m ≡ n → ProgramsAtMost n path → ProgramsAtMost m path
no-programs n m path same most = subst (λ n. ProgramsAtMost n path) (sym same) most

-- two for each change of place, and one for each copy that is left
abbrev programs_most : Writing → ℕ
programs_most w = length w.left + 2 * w.chances

module _ (g : Geometry) where
  moved-falls : (v : Writing) (which : Which) (place : Option ℕ) (chances n : ℕ) → v.chances ≡ chances → 1 ≤ n
      → programs_most (moved v which place chances) + 1 ≤ n + 2 * chances
  moved-falls v which None chances n same some = omega (arith, same)
  moved-falls v which (Some block) zero n same some = omega (arith, same)
  moved-falls v which (Some block) (suc chances) n same some = omega arith

  event-one : (erased : Bool) (w : Writing) (which : Which) → programs_in (event_once erased g w which) ≤ 1
  event-one true w which = omega arith
  event-one false w which = omega arith

  good-falls : (w : Writing) (which : Which) (more : List Which) → w.left ≡ which ∷ more → (erased : Bool)
      → programs_most (after_event g (record w { erased = erased }) which more true) + programs_in (event_once erased g w which) ≤ programs_most w
  good-falls w which more left true = omega (arith, ap (λ (l : List Which). length l) left)
  good-falls w which more left false = omega (arith, ap (λ (l : List Which). length l) left)

  falls : (w : Writing) (which : Which) (more : List Which) → w.left ≡ which ∷ more → (good : Bool)
      → programs_most (after_event g w which more good) + programs_in (event_once w.erased g w which) ≤ programs_most w
  falls w which more left true = good-falls w which more left w.erased
  falls w which more left false =
      let table = marked w.table (place_of w.places which) in
      let v : Writing = record w { table = table; whole = with_whole w.whole which false; erased = false } in
      let some : 1 ≤ length w.left = omega (arith, ap (λ (l : List Which). length l) left) in
      let fell = moved-falls v which (next_place g table (place_of w.places (other_of which))) w.chances (length w.left) refl some in
      omega (arith, event-one w.erased w which)

  module _ {A : Type 0} (go_on : Writing → Path A) (over : (m : ℕ) (w : Writing) → ProgramsAtMost m (go_on w)) where
    within : (n m : ℕ) (w : Writing) → programs_most w ≤ m → ProgramsAtMost m (writing_within n g w go_on)
    within zero m w few = over m w
    within (suc n) m w few = on (within n) w.left refl
      where
        on : ((m : ℕ) (w : Writing) → programs_most w ≤ m → ProgramsAtMost m (writing_within n g w go_on)) → (left : List Which) → w.left ≡ left
            → ProgramsAtMost m (writing_step g w left (λ u. go_on w) (λ answer. writing_within n g (writing_after g w answer) go_on))
        on later [] none = over m w
        on later (which ∷ more) left = (
          omega (arith, falls w which more left true),
          λ answer.
              let after : writing_after g w answer ≡ after_event g w which more (is_good answer) = ap (λ l. written_by g w l (is_good answer)) left in
              let fell = falls w which more left (is_good answer) in
              later (m - programs_in (event_once w.erased g w which)) (writing_after g w answer) (rw after (omega arith)),
        )

    -- those of a writing
    pub writing-programs : (m : ℕ) (w : Writing) → programs_most w ≤ m → ProgramsAtMost m (writing_path g w go_on)
    writing-programs m w few = within (most_events w) m w few

  reads-program-none : {A : Type 0} (n : ℕ) (blocks : List ℕ) (pages : List (List ℕ)) (go_on : List (List ℕ) → Path A)
      → ((pages : List (List ℕ)) → ProgramsAtMost n (go_on pages)) → ProgramsAtMost n (read_first_pages g blocks pages go_on)
  reads-program-none n [] pages go_on then = then pages
  reads-program-none n (block ∷ blocks) pages go_on then = (
    omega arith,
    λ answer. no-programs n (n - 0) (read_first_pages g blocks (pages ++ cells_of answer ∷ []) go_on) (omega arith)
        (reads-program-none n blocks (pages ++ cells_of answer ∷ []) go_on then),
  )

  rewritten-few : (choice : Choice) → length (rewritten choice) ≤ 2
  rewritten-few (UsePrimary true) = omega arith
  rewritten-few (UsePrimary false) = omega arith
  rewritten-few (UseMirror true) = omega arith
  rewritten-few (UseMirror false) = omega arith
  rewritten-few Neither = omega arith

  rewrite-programs : (places : Places) (choice : Choice) (version : ℕ) (states : List ℕ) → ProgramsAtMost 6 (rewrite_copies g places choice version states)
  rewrite-programs places choice version states =
      writing-programs (λ w. Over (attaching_of choice w)) (λ m w. tt) 6
      (writing_of (with_reserved g states) version places (whole_at_first choice) (rewritten choice)) (omega (arith, rewritten-few choice))

  use-programs : (places : Places) (choice : Choice) (copy : Option (ℕ × Copy)) → ProgramsAtMost 6 (use_copy g places choice copy)
  use-programs places choice (Some found) = rewrite-programs places choice found.1.version found.1.states
  use-programs places choice None =
      reads-program-none 6 (numbers_from 0 g.blocks) [] (λ pages. rewrite_copies g places choice 1 (marker_table g pages))
      (λ pages. rewrite-programs places choice 1 (marker_table g pages))

  with-tables : ProgramsAtMost 6 (attach_by true g)
  with-tables =
      reads-program-none {A = Attaching} 6 (table_blocks g) []
      (λ pages. use_found g (places_of g (candidates g pages)) (found g Primary (candidates g pages)) (found g Mirror (candidates g pages)))
      (λ pages.
      let primary = found g Primary (candidates g pages) in
      let mirror = found g Mirror (candidates g pages) in
      let choice = choice_of (version_found primary) (version_found mirror) in
      use-programs (places_of g (candidates g pages)) choice (used_copy choice primary mirror))

  without-tables : ProgramsAtMost 0 (attach_by false g)
  without-tables =
      reads-program-none {A = Attaching} 0 (numbers_from 0 g.blocks) []
      (λ pages. Over (attached_by_markers (marker_table g pages))) (λ pages. tt)

  -- those of an attach
  pub attach-programs : has_tables g ≡ true → ProgramsAtMost 6 (attach_path g)
  attach-programs tables = subst (λ b. ProgramsAtMost 6 (attach_by b g)) (sym tables) with-tables

  pub attach-programs-none : has_tables g ≡ false → ProgramsAtMost 0 (attach_path g)
  attach-programs-none none = subst (λ b. ProgramsAtMost 0 (attach_by b g)) (sym none) without-tables

-- and the bound with which it begins
pub begins-bounded : (g : Geometry) (n : ℕ) (path : Path Attaching) → path ≡ attach_path g → g.bbt ≢ 0 → n ≡ 6 → (n ≤ 6) × ProgramsAtMost n path
begins-bounded g n path is tables six =
    let has : has_tables g ≡ true = ap not (ne_eqb g.bbt 0 tables) in
    (omega (arith, six), subst (λ m. ProgramsAtMost m path) (sym six) (subst (ProgramsAtMost 6) (sym is) (attach-programs g has)))

pub begins-without : (g : Geometry) (n : ℕ) (path : Path Attaching) → path ≡ attach_path g → g.bbt ≡ 0 → n ≡ 0 → (n ≤ 6) × ProgramsAtMost n path
begins-without g n path is none zero_is =
    let has : has_tables g ≡ false = ap (λ b. not (b == 0)) none in
    (omega (arith, zero_is), subst (λ m. ProgramsAtMost m path) (sym zero_is) (subst (ProgramsAtMost 0) (sym is) (attach-programs-none g has)))
