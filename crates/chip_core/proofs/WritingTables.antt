-- A mark whose copies of the table are written, from event to event.
use Rattle.std.proofs.Common.{◌≡◌, ℕ, zero, suc, ◌+◌, ◌-◌, ◌≤◌, Bool, true, false, List, [], ◌∷◌, length, Option, Some, None, refl, ap, sym, subst, ◌∙◌, arith}
use Rattle.std.specs.Prelude.{IsSome, IfSome, is_none, if◌then◌else◌}
use Rattle.nand_model.specs.Chip.{ChipState, FaultModel, PageEvent}
use Rattle.nand_model.specs.Path.{Answer, Good, Path, Over, Then, either, first_event, result_of}
use Rattle.nand_model.specs.Table.{has_tables}
use Rattle.nand_model.specs.declared.geometry.Geometry.{Geometry}
use Rattle.nand_model.specs.declared.words.Fairness.{Fairness}
use Rattle.nand_model.specs.declared.words.Which.{Which}
use Rattle.chip_paths.specs.ChipRun.{ends_well}
use Rattle.chip_paths.specs.Operation.{Finished, Known, after_marker_alone, after_writing, answer, mark_reply, mark_writing, with_mark, write_tables, writing_reply}
use Rattle.chip_paths.specs.Stage.{path_after}
use Rattle.chip_paths.specs.Writing.{Places, Writing, after_good, marked, most_events, next_version, next_writing_event, writing_after, writing_path, writing_within, writing_step, written_by}
use Rattle.bbt_flash.specs.Events.{answer_of}
use Rattle.bbt_flash.specs.Update.{update_sizes, update_writing, writing_left, writing_of_both}
use Rattle.bbt_flash.proofs.Updating.{over-after, over-event, over-result}
use Rattle.chip_core.specs.Events.{IsDone, ProgramsAtMost, programs_in}
use Rattle.std.proofs.lemmas.Option.{IfSome_then}
use Rattle.chip_core.specs.Knowledge.{known_with}
use Rattle.chip_core.specs.Task.{Advances, WritingAdvances, WritingFits, after_marker, tables_from, task_event}
use Rattle.chip_core.specs.declared.knowledge.Knowledge.{Knowledge}
use Rattle.chip_core.specs.declared.task.Task.{Task}
use Rattle.chip_core.specs.declared.task.Task.TheVariants.{Writing as IsWriting}
use Rattle.chip_core.specs.declared.table_writing.TableWriting.{TableWriting}
use Rattle.chip_core.proofs.Named.{of_some}
use Rattle.chip_core.proofs.Programs.{programs-after, writing-programs}

no-event : {A : Type 0} (path : Path A) → IsSome (result_of path) → first_event path ≡ None
no-event (Over result) there = refl
no-event (Then event rest) there = cc

module _ (g : Geometry) (k : Known) (marker : Bool) where
  abbrev end_of : Writing → Finished
  end_of w = record { reply = mark_reply (answer_of marker) (writing_reply w.failed); known = after_writing k w }

  -- a writing that is over ends the mark
  pub tables-over : (w : Writing) → IsSome (result_of (tables_from g k marker w))
      → result_of (tables_from g k marker w) ≡ Some (record { reply = mark_reply (answer_of marker) (writing_reply w.failed); known = after_writing k w })
  tables-over w there = ap result_of (over-result g w end_of (no-event (tables_from g k marker w) there))

  -- and one whose further events are good leaves the table as it is
  good-table : (w : Writing) (which : Which) (more : List Which) (erased : Bool) → (after_good w which more erased).table ≡ w.table
  good-table w which more true = refl
  good-table w which more false = refl

  within-table : (n : ℕ) (w : Writing) → (ends_well (writing_within n g w (λ end. Over (end_of end)))).known.table ≡ w.table
  within-table zero w = refl
  within-table (suc n) w = on (within-table n) w.left refl
    where
      on : ((w : Writing) → (ends_well (writing_within n g w (λ end. Over (end_of end)))).known.table ≡ w.table) → (left : List Which) → w.left ≡ left
          → (ends_well (writing_step g w left (λ u. Over (end_of w)) (λ a. writing_within n g (writing_after g w a) (λ end. Over (end_of end))))).known.table
          ≡ w.table
      on later [] none = refl
      on later (which ∷ more) left =
          later (writing_after g w Good) ∙ ap (λ l. (written_by g w l true).table) left ∙ good-table w which more w.erased

  pub table-then : (w : Writing) → (ends_well (tables_from g k marker w)).known.table ≡ w.table
  table-then w = within-table (most_events w) w

  -- the next event
  pub tables-after : (w : Writing) (ok : Bool) (after : Writing) → after ≡ writing_after g w (answer_of ok)
      → tables_from g k marker after ≡ path_after (answer_of ok) (tables_from g k marker w)
  tables-after w ok after is = over-after g w end_of ok after is

-- with tables the copies are written after the marker
pub begins-tables : (g : Geometry) (k : Known) (block : ℕ) (ok : Bool) (outcome : Answer) (w : Writing) → has_tables g ≡ true → outcome ≡ answer_of ok
    → w ≡ writing_of_both (marked k.table block) (next_version k.version) k.places
    → tables_from g k ok w ≡ after_marker g k block outcome
begins-tables g k block ok outcome w tables is start =
    let same : w ≡ mark_writing (with_mark g k block) =
    start ∙ ap (λ (b : Bool). writing_of_both (marked k.table block) (if b then next_version k.version else k.version) k.places) (sym tables) in
    (λ i. writing_path g (same i) (λ end. answer (after_writing k end) (mark_reply (sym is i) (writing_reply end.failed))))
    ∙ sym (ap (λ b. either b (λ u. write_tables g (with_mark g k block) outcome) (λ u. after_marker_alone g k block outcome)) tables)

-- at most six programs are left then
pub both-programs : (g : Geometry) (table : List ℕ) (version : ℕ) (places : Places) (w : Writing) → w ≡ writing_of_both table version places
    → ProgramsAtMost 6 (writing_left g w)
both-programs g table version places w is =
    subst (λ w. ProgramsAtMost 6 (writing_left g w)) (sym is)
    (writing-programs g (λ end. Over end) (λ m w. tt) 6 (writing_of_both table version places) (omega arith))

module _ (g : Geometry) (old new : TableWriting) (table later : List ℕ) (e : PageEvent) (outcome : Answer)
    (is : first_event (writing_left g (update_writing old.update table)) ≡ Some e)
    (left : writing_left g (update_writing new.update later) ≡ path_after outcome (writing_left g (update_writing old.update table))) where
  -- what fits goes on to fit
  pub writing-fits-on : WritingFits g table old → update_sizes new.update ≡ update_sizes old.update → length new.image ≡ length old.image
      → new.programs + programs_in e ≡ old.programs → WritingFits g later new
  writing-fits-on fits sizes image fewer =
      let fewer_left = programs-after old.programs (writing_left g (update_writing old.update table)) e outcome is fits.programs in
      let count : old.programs - programs_in e ≡ new.programs = omega arith in
      record {
        sizes = sizes ∙ fits.sizes;
        whole = image ∙ fits.whole;
        few = omega (arith, fits.few);
        programs = subst (ProgramsAtMost new.programs) (sym left)
            (subst (λ n. ProgramsAtMost n (path_after outcome (writing_left g (update_writing old.update table)))) count fewer_left.1);
      }

-- there is room for the next program
pub writing-has-room : (g : Geometry) (table : List ℕ) (w : TableWriting) (e : PageEvent) (room : ℕ) → WritingFits g table w
    → first_event (writing_left g (update_writing w.update table)) ≡ Some e → w.programs ≤ room → (programs_in e ≤ room) × (programs_in e ≤ w.programs)
writing-has-room g table w e room fits is low =
    let most = programs-after w.programs (writing_left g (update_writing w.update table)) e Good is fits.programs in (omega (arith, most.0), most.0)

-- the next event of a writing is that of its path
pub writing-event : (g : Geometry) (w : Writing) → first_event (writing_left g w) ≡ next_writing_event g w
writing-event g w = over-event g w (λ end. end)

-- a writing that goes on is a mark that goes on
pub writing-goes-on : {W : Type 0} (model : FaultModel W) (s after : ChipState W) (known later : Knowledge) (old new : TableWriting) (told : Option Fairness)
    → s.geometry ≡ known.geometry
    → IfSome (next_writing_event known.geometry (update_writing old.update known.table))
    (WritingAdvances model s after (update_writing old.update known.table) (update_writing new.update later.table) told)
    → new.marker ≡ old.marker → known_with later new.before.value ≡ known_with known old.before.value
    → (task : Task) → task ≡ IsWriting old
    → IfSome (task_event known.geometry known.table task) (Advances model s after known later task (IsWriting new) told)
writing-goes-on model s after known later old new told sizes advanced marker kept task is =
    let Goes : Task → Type 0 = λ t. IfSome (task_event known.geometry known.table t) (Advances model s after known later t (IsWriting new) told) in
    let now = update_writing new.update later.table in
    let was = update_writing old.update known.table in
    let k = known_with known old.before.value in
    subst Goes (sym is)
    (IfSome_then (next_writing_event known.geometry was) advanced
    (λ e d. record {
      state = d.done.state;
      left =
          (λ i. tables_from s.geometry (kept i) (marker i) now)
          ∙ tables-after s.geometry k old.marker was (is_none told) now (d.step ∙ ap (writing_after s.geometry was) d.done.answer)
          ∙ ap (λ a. path_after a (tables_from s.geometry k old.marker was)) (sym d.done.answer);
      progress = refl;
      told = d.done.told;
      risen = d.done.risen;
    }))

-- an event of a writing is done
pub writing-advanced : {W : Type 0} (model : FaultModel W) (s after : ChipState W) (g : Geometry) → g ≡ s.geometry → (old new : Writing) (e : PageEvent)
    (told : Option Fairness) (ok : Bool) → next_writing_event g old ≡ Some e → IsDone model s after e told → ok ≡ is_none told
    → new ≡ writing_after g old (answer_of ok)
    → IfSome (next_writing_event g old) (WritingAdvances model s after old new told)
writing-advanced model s after g sizes old new e told ok is done none step =
    of_some (WritingAdvances model s after old new told) (next_writing_event g old) e is
    (record {
      done = done;
      step = step ∙ ap (λ (h : Geometry). writing_after h old (answer_of ok)) sizes
          ∙ ap (writing_after s.geometry old) (ap answer_of none ∙ sym done.answer);
    })
