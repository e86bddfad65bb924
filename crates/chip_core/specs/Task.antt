-- What is left of an operation, as a path.
use Rattle.std.specs.Prelude.{◌≡◌, ℕ, ◌+◌, ◌<◌, ◌≤◌, Bool, if◌then◌else◌, List, length, ⊤, Option, Some, None, IfSome}
use Rattle.std.specs.Coded.{Unit-prop}
use Rattle.std.proofs.Props.{props}
use Rattle.nand_model.specs.Chip.{ChipState, FaultModel, PageEvent, ReadEvent, ProgramEvent, EraseEvent, Complete, happens}
use Rattle.nand_model.specs.Counts.{HasRisen}
use Rattle.nand_model.specs.Page.{Decoding, decoded, marker_image}
use Rattle.nand_model.specs.Path.{Answer, Path, Over, Then, cells_of, answer_to, either}
use Rattle.nand_model.specs.Sizes.{first_page, raw_len}
use Rattle.nand_model.specs.Table.{has_tables}
use Rattle.chip_paths.specs.Writing.{Writing, marked, next_writing_event, writing_after, writing_path}
use Rattle.chip_paths.specs.Operation.{Known, Finished, after_marker_alone, after_read, after_writing, answer, done_or, mark_path, mark_reply, raw_reply, with_mark, with_statistics, write_tables, writing_reply}
use Rattle.chip_paths.specs.ChipRun.{Progress, AtStart, AfterOne, AfterMore}
use Rattle.chip_paths.specs.Stage.{one_further, failure_told, path_after}
use Rattle.nand_iface.specs.Flash.{FitsPage}
use Rattle.bbt_flash.specs.Events.{answer_of}
use Rattle.bbt_flash.specs.Update.{update_sizes, update_writing, writing_left}
use Rattle.chip_core.specs.Events.{IsDone, ProgramsAtMost, ProgramsAtMost-prop}
use Rattle.chip_core.specs.Knowledge.{known_with}
use Rattle.nand_model.specs.declared.geometry.Geometry.{Geometry}
use Rattle.nand_model.specs.declared.words.Fairness.{Fairness}
use Rattle.nand_model.specs.declared.words.PageKind.{PageKind}
use Rattle.nand_model.specs.declared.words.PageRead.{PageRead}
use Rattle.nand_model.specs.declared.words.Reply.TheVariants.{Done, ProgramFailed, EraseFailed, MarkerFailed as RepliesMarkerFailed, Page}
use Rattle.chip_core.specs.declared.knowledge.Knowledge.{Knowledge}
use Rattle.chip_core.specs.declared.task.Task.{Task}
use Rattle.chip_core.specs.declared.task.Task.TheVariants.{Reading, Decoding as IsDecoding, Programming, Erasing, Marking, Marker, Writing as IsWriting, Marked, MarkerFailed, Decoded, AtOnce, Ended}
use Rattle.chip_core.specs.declared.table_writing.TableWriting.{TableWriting}

-- the event of a raw read and what follows it
abbrev pub raw_read_from : Known → ℕ → Path Finished
raw_read_from k page = Then (ReadEvent page) (λ seen. answer k (raw_reply (cells_of seen)))

-- the event of a read of a device's page through its code and what follows it
abbrev pub read_from : Geometry → Known → ℕ → ℕ → Path Finished
read_from g k dev page = Then (ReadEvent page) (λ seen. Over (after_read g k dev (decoded g (cells_of seen))))

-- the program of an image and what follows it
abbrev pub program_from : Known → List ℕ → ℕ → Path Finished
program_from k image page = Then (ProgramEvent page image) (λ outcome. answer k (done_or ProgramFailed outcome))

-- the erase of a good block and what follows it
abbrev pub erased_from : Known → ℕ → Path Finished
erased_from k block = Then (EraseEvent block) (λ outcome. answer k (done_or EraseFailed outcome))

-- the program of a block's marker
abbrev pub marker_event : Geometry → ℕ → PageEvent
marker_event g block = ProgramEvent (first_page g block) (marker_image g)

-- what follows the marker of a mark
abbrev pub after_marker : Geometry → Known → ℕ → Answer → Path Finished
after_marker g k block marker =
    either (has_tables g) (λ u. write_tables g (with_mark g k block) marker) (λ u. after_marker_alone g k block marker)

-- the marker of a mark and what follows it
abbrev pub marker_from : Geometry → Known → ℕ → Path Finished
marker_from g k block = Then (marker_event g block) (after_marker g k block)

-- a writing of the copies of a table, with which a mark ends whose marker was good or failed
abbrev pub tables_from : Geometry → Known → Bool → Writing → Path Finished
tables_from g k marker w =
    writing_path g w (λ end. answer (after_writing k end) (mark_reply (answer_of marker) (writing_reply end.failed)))

-- a page that was decoded, by its counts and its image
abbrev pub decoding_from : PageRead → List ℕ → Decoding
decoding_from read image =
    record { image = image; corrected = read.corrected; greatest = read.greatest; failed = read.failed }

-- a read whose reply this is, and whose counts are added to those of a device
abbrev pub counted_read : Known → ℕ → PageKind → PageRead → List ℕ → Path Finished
counted_read k dev kind read image =
    Over (record {
      reply = Page kind read image;
      known = record k { statistics = with_statistics k.statistics dev (decoding_from read image) };
    })

-- the path that a task stands for, where this is the table in memory and this was known of the chip
-- before
abbrev pub task_left : Geometry → List ℕ → Known → Task → Path Finished
task_left g table k (Reading page cells) = raw_read_from k page
task_left g table k (IsDecoding dev page cells) = read_from g k dev page
task_left g table k (Programming page image) = program_from k image page
task_left g table k (Erasing block) = erased_from k block
task_left g table k (Marking block image) = mark_path g k block
task_left g table k (Marker block image) = marker_from g k block
task_left g table k (IsWriting w) = tables_from g k w.marker (update_writing w.update table)
task_left g table k (Marked block before) = answer (with_mark g k block) Done
task_left g table k MarkerFailed = answer k RepliesMarkerFailed
task_left g table k (Decoded dev kind read image) = counted_read k dev kind read image
task_left g table k (AtOnce reply) = answer k reply
task_left g table k (Ended reply) = answer k reply

-- how far a task has come
abbrev pub task_progress : Task → Progress
task_progress (Reading page cells) = AtStart
task_progress (IsDecoding dev page cells) = AtStart
task_progress (Programming page image) = AtStart
task_progress (Erasing block) = AtStart
task_progress (Marking block image) = AtStart
task_progress (Marker block image) = AfterOne
task_progress (IsWriting w) = AfterMore
task_progress (Marked block before) = AfterMore
task_progress MarkerFailed = AfterMore
task_progress (Decoded dev kind read image) = AfterOne
task_progress (AtOnce reply) = AtStart
task_progress (Ended reply) = AfterOne

-- the next event of a task, where this is the table in memory
abbrev pub task_event : Geometry → List ℕ → Task → Option PageEvent
task_event g table (Reading page cells) = Some (ReadEvent page)
task_event g table (IsDecoding dev page cells) = Some (ReadEvent page)
task_event g table (Programming page image) = Some (ProgramEvent page image)
task_event g table (Erasing block) = Some (EraseEvent block)
task_event g table (Marking block image) = Some (EraseEvent block)
task_event g table (Marker block image) = Some (marker_event g block)
task_event g table (IsWriting w) = next_writing_event g (update_writing w.update table)
task_event g table (Marked block before) = None
task_event g table MarkerFailed = None
task_event g table (Decoded dev kind read image) = None
task_event g table (AtOnce reply) = None
task_event g table (Ended reply) = None

-- the block of a mark is there, and its marker has the bytes of a whole page
pub record FitsMark (g : Geometry) (block : ℕ) (image : List ℕ) : Type 0 where
  pub there : block < g.blocks
  pub whole : length image ≡ raw_len g

-- a writing of a chip of these sizes, with room for a page and with a bound on the pages that it
-- still programs
pub record WritingFits (g : Geometry) (table : List ℕ) (w : TableWriting) : Type 0 where
  pub sizes : update_sizes w.update ≡ g
  pub whole : length w.image ≡ raw_len g
  pub few : w.programs ≤ 6
  pub programs : ProgramsAtMost w.programs (writing_left g (update_writing w.update table))

pub WritingFits-prop : (g : Geometry) (table : List ℕ) (w : TableWriting) → IsProp (WritingFits g table w)
WritingFits-prop g table w =
    let bound = ProgramsAtMost-prop w.programs (writing_left g (update_writing w.update table)) in hlevel (props, bound)

-- pages and blocks of a task are there, its bytes are those of a whole page, and a mark is over with
-- its marker only without tables
abbrev pub TaskFits : Geometry → List ℕ → Task → Type 0
TaskFits g table (Reading page cells) = FitsPage g page cells
TaskFits g table (IsDecoding dev page cells) = FitsPage g page cells
TaskFits g table (Programming page image) = FitsPage g page image
TaskFits g table (Erasing block) = block < g.blocks
TaskFits g table (Marking block image) = FitsMark g block image
TaskFits g table (Marker block image) = FitsMark g block image
TaskFits g table (IsWriting w) = WritingFits g table w
TaskFits g table (Marked block before) = g.bbt ≡ 0
TaskFits g table MarkerFailed = ⊤
TaskFits g table (Decoded dev kind read image) = ⊤
TaskFits g table (AtOnce reply) = ⊤
TaskFits g table (Ended reply) = ⊤

pub TaskFits-prop : (g : Geometry) (table : List ℕ) (task : Task) → IsProp (TaskFits g table task)
TaskFits-prop g table (Reading page cells) = hlevel props
TaskFits-prop g table (IsDecoding dev page cells) = hlevel props
TaskFits-prop g table (Programming page image) = hlevel props
TaskFits-prop g table (Erasing block) = hlevel props
TaskFits-prop g table (Marking block image) = hlevel props
TaskFits-prop g table (Marker block image) = hlevel props
TaskFits-prop g table (IsWriting w) = WritingFits-prop g table w
TaskFits-prop g table (Marked block before) = hlevel props
TaskFits-prop g table MarkerFailed = Unit-prop
TaskFits-prop g table (Decoded dev kind read image) = Unit-prop
TaskFits-prop g table (AtOnce reply) = Unit-prop
TaskFits-prop g table (Ended reply) = Unit-prop

-- the pages that a mark may program: with tables those of its copies, beside that of its marker
abbrev pub mark_programs : Geometry → ℕ
mark_programs g = if has_tables g then 7 else 1

-- the pages that a task may still program
abbrev pub programs_of : Geometry → Task → ℕ
programs_of g (Reading page cells) = 0
programs_of g (IsDecoding dev page cells) = 0
programs_of g (Programming page image) = 1
programs_of g (Erasing block) = 0
programs_of g (Marking block image) = mark_programs g
programs_of g (Marker block image) = mark_programs g
programs_of g (IsWriting w) = w.programs
programs_of g (Marked block before) = 0
programs_of g MarkerFailed = 0
programs_of g (Decoded dev kind read image) = 0
programs_of g (AtOnce reply) = 0
programs_of g (Ended reply) = 0

-- the device to whose statistics a task adds
abbrev pub counted_by : Task → Option ℕ
counted_by (Reading page cells) = None
counted_by (IsDecoding dev page cells) = Some dev
counted_by (Programming page image) = None
counted_by (Erasing block) = None
counted_by (Marking block image) = None
counted_by (Marker block image) = None
counted_by (IsWriting w) = None
counted_by (Marked block before) = None
counted_by MarkerFailed = None
counted_by (Decoded dev kind read image) = Some dev
counted_by (AtOnce reply) = None
counted_by (Ended reply) = None

-- the table before the operation of a task, of which this is the table now
abbrev pub table_before : List ℕ → Task → List ℕ
table_before table (Reading page cells) = table
table_before table (IsDecoding dev page cells) = table
table_before table (Programming page image) = table
table_before table (Erasing block) = table
table_before table (Marking block image) = table
table_before table (Marker block image) = table
table_before table (IsWriting w) = w.before.value
table_before table (Marked block before) = before.value
table_before table MarkerFailed = table
table_before table (Decoded dev kind read image) = table
table_before table (AtOnce reply) = table
table_before table (Ended reply) = table

-- the table has the mark of a block that was marked
abbrev pub HasMarked : List ℕ → Task → Type 0
HasMarked table (Reading page cells) = ⊤
HasMarked table (IsDecoding dev page cells) = ⊤
HasMarked table (Programming page image) = ⊤
HasMarked table (Erasing block) = ⊤
HasMarked table (Marking block image) = ⊤
HasMarked table (Marker block image) = ⊤
HasMarked table (IsWriting w) = ⊤
HasMarked table (Marked block before) = table ≡ marked before.value block
HasMarked table MarkerFailed = ⊤
HasMarked table (Decoded dev kind read image) = ⊤
HasMarked table (AtOnce reply) = ⊤
HasMarked table (Ended reply) = ⊤

pub HasMarked-prop : (table : List ℕ) (task : Task) → IsProp (HasMarked table task)
HasMarked-prop table (Reading page cells) = Unit-prop
HasMarked-prop table (IsDecoding dev page cells) = Unit-prop
HasMarked-prop table (Programming page image) = Unit-prop
HasMarked-prop table (Erasing block) = Unit-prop
HasMarked-prop table (Marking block image) = Unit-prop
HasMarked-prop table (Marker block image) = Unit-prop
HasMarked-prop table (IsWriting w) = Unit-prop
HasMarked-prop table (Marked block before) = hlevel props
HasMarked-prop table MarkerFailed = Unit-prop
HasMarked-prop table (Decoded dev kind read image) = Unit-prop
HasMarked-prop table (AtOnce reply) = Unit-prop
HasMarked-prop table (Ended reply) = Unit-prop

-- from one task to the next what was known before the operation stays, and the table has the mark
pub record KeepsKnown (old new : Knowledge) (was is : Task) : Type 0 where
  pub geometry : new.geometry ≡ old.geometry
  pub sums : new.sums ≡ old.sums
  pub before : known_with new (table_before new.table is) ≡ known_with old (table_before old.table was)
  pub marked : HasMarked new.table is

-- an event of a task is done: the chip is as after it, the task goes on by its answer, and a
-- failure is told and counted
pub record Advances {W : Type 0} (model : FaultModel W) (before after : ChipState W) (was is : Knowledge)
    (old new : Task) (failure : Option Fairness) (e : PageEvent) : Type 0 where
  pub state : after ≡ happens model before (Complete e)
  pub left : task_left before.geometry is.table (known_with is (table_before is.table new)) new
      ≡ path_after (answer_to model before e)
      (task_left before.geometry was.table (known_with was (table_before was.table old)) old)
  pub progress : task_progress new ≡ one_further (task_progress old)
  pub told : failure ≡ failure_told model before e
  pub risen : IfSome failure (λ fairness. HasRisen before.faults after.faults)

-- an event of a writing is done, and the writing goes on by its answer
pub record WritingAdvances {W : Type 0} (model : FaultModel W) (before after : ChipState W) (old new : Writing)
    (failure : Option Fairness) (e : PageEvent) : Type 0 where
  pub done : IsDone model before after e failure
  pub step : new ≡ writing_after before.geometry old (answer_to model before e)

-- once the marker of a block was good or failed, this task is what is left of the mark
pub record FollowsMarker (old new : Knowledge) (block : ℕ) (image : List ℕ) (marker : Bool) (task : Task)
    : Type 0 where
  pub left : (outcome : Answer) → outcome ≡ answer_of marker
      → task_left old.geometry new.table (known_with new (table_before new.table task)) task
      ≡ after_marker old.geometry (known_with old old.table) block outcome
  pub keeps : KeepsKnown old new (Marker block image) task
  pub fits : TaskFits old.geometry new.table task
  pub progress : task_progress task ≡ AfterMore
  pub counted : counted_by task ≡ None
  pub programs : programs_of old.geometry task + 1 ≤ mark_programs old.geometry

-- a task stays one of the same path, as it was
pub record StaysSo (g : Geometry) (table : List ℕ) (old new : Task) : Type 0 where
  pub left : (k : Known) → task_left g table k new ≡ task_left g table k old
  pub progress : task_progress new ≡ task_progress old
  pub fits : TaskFits g table new
  pub counted : counted_by new ≡ counted_by old
  pub programs : programs_of g new ≡ programs_of g old
  pub before : table_before table new ≡ table_before table old
  pub marked : HasMarked table old → HasMarked table new
