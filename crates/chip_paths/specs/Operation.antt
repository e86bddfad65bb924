-- Operations on a chip: which are refused, which events the others have, what they answer, and what
-- is known of the chip then. A bad block is one whose table entry is not 0.
use Rattle.std.specs.Prelude.{ℕ, List, Bool, if◌then◌else◌, ◌*◌, nat_lt, ◌+◌, slice_index, ◌==◌, not, count_by, slice_range, Option, Some, None, true, [], ◌∷◌, ◌||◌, nat_le, ◌/◌, ◌≡◌}
use Rattle.chip_paths.specs.Writing.{Places, marked, next_version, Writing, whole_count, writing_of, writing_path}
use Rattle.nand_model.specs.Path.{Path, Over, either, Answer, is_failure, Then, cells_of, after_answers, next_event, result_of, GoesAlong, answers_of, is_uncut}
use Rattle.nand_model.specs.Sizes.{first_page}
use Rattle.nand_model.specs.Page.{Decoding, kind_of, marker_image, decoded, page_image}
use Rattle.nand_model.specs.Table.{has_tables}
use Rattle.nand_model.specs.Chip.{ProgramEvent, EraseEvent, ReadEvent, ChipState, FaultModel, ChipEvent}
use Rattle.nand_model.specs.Partitions.{Partitions, part_of, device_of}
use Rattle.nand_model.specs.declared.words.Stats.{Stats as Statistics}
use Rattle.nand_model.specs.declared.words.Reply.{Reply}
use Rattle.nand_model.specs.declared.words.Reply.TheVariants.{Done, Page, MarkerFailed, TableFailed, Reserved, Copies, OutOfRange, BadBlock, MarkerByte, ProgramFailed, EraseFailed, State, Counts}
use Rattle.nand_model.specs.declared.geometry.Geometry.{Geometry}
use Rattle.nand_model.specs.declared.words.Part.{Part}
use Rattle.nand_model.specs.declared.words.PageKind.TheVariants.{Raw}
use Rattle.nand_model.specs.declared.words.Which.{Which}
use Rattle.nand_model.specs.declared.words.Which.TheVariants.{Primary, Mirror}
use Rattle.nand_model.specs.declared.words.Op.{Op}
use Rattle.nand_model.specs.declared.words.Op.TheVariants.{Read, Write, RawRead, RawWrite, Erase, IsBad, Mark, Stats}

-- what is known of an attached chip, beside the chip itself: its table with the version, places and
-- whole copies, and the ECC statistics of each device
pub record Known : Type 0 where
  pub table : List ℕ
  pub version : ℕ
  pub places : Places
  pub copies : ℕ
  pub statistics : ℕ → Statistics

-- an operation that is over: its reply, and what is known then
pub record Finished : Type 0 where
  pub reply : Reply
  pub known : Known

-- an operation ends with this reply, and nothing else is known than before
abbrev pub answer : Known → Reply → Path Finished
answer k reply = Over (record { reply = reply; known = k })

-- an operation goes on where the test holds, and is else refused with this reply
abbrev pub only_if : Bool → Known → Reply → (Unit {0} → Path Finished) → Path Finished
only_if holds k refusal go_on = either holds go_on (λ u. answer k refusal)

-- a program or an erase was good, or the operation has failed in this way
abbrev pub done_or : Reply → Answer → Reply
done_or failure outcome = if is_failure outcome then failure else Done

-- whether a partition has this page, this block
abbrev pub has_page : Geometry → Part → ℕ → Bool
has_page g part page = nat_lt page (part.count * g.pages_per_block)

-- whether a partition has this block
abbrev pub has_block : Part → ℕ → Bool
has_block part block = nat_lt block part.count

-- the chip's page and block of a page and a block of the partition
abbrev pub chip_page : Geometry → Part → ℕ → ℕ
chip_page g part page = first_page g part.start + page

-- the chip's block of a block of the partition
abbrev pub chip_block : Part → ℕ → ℕ
chip_block part block = part.start + block

-- the entry of a chip's block, and whether the block is good
abbrev pub entry_of : Known → ℕ → ℕ
entry_of k block = slice_index k.table block

-- whether a block is good
abbrev pub is_good_block : Known → ℕ → Bool
is_good_block k block = entry_of k block == 0

-- the reply to a read that decodes
abbrev pub read_reply : Geometry → Decoding → Reply
read_reply g d =
    Page (kind_of g d) (record { corrected = d.corrected; greatest = d.greatest; failed = d.failed }) d.image

-- the reply to a raw read
abbrev pub raw_reply : List ℕ → Reply
raw_reply cells = Page Raw (record { corrected = 0; greatest = 0; failed = 0 }) cells

-- the statistics of the devices, with a read of one of them added
abbrev pub with_statistics : (ℕ → Statistics) → ℕ → Decoding → ℕ → Statistics
with_statistics statistics dev d e =
    if e == dev then record {
      corrected = (statistics e).corrected + d.corrected;
      failed = (statistics e).failed + d.failed;
    } else statistics e

-- a read that is over: its counts are added to the device's
abbrev pub after_read : Geometry → Known → ℕ → Decoding → Finished
after_read g k dev d =
    record { reply = read_reply g d; known = record k { statistics = with_statistics k.statistics dev d } }

-- the number of a partition's blocks whose entry is not 0
abbrev pub bad_count : List ℕ → Part → ℕ
bad_count table part = count_by (λ state. not (state == 0)) (slice_range table part.start (part.start + part.count))

-- what is known once the block stands marked in the table, with tables on flash under the next
-- version
abbrev pub with_mark : Geometry → Known → ℕ → Known
with_mark g k block =
    record k { table = marked k.table block; version = if has_tables g then next_version k.version else k.version }

-- a mark without tables: the entry changes only where the marker did not fail
abbrev pub after_marker_alone : Geometry → Known → ℕ → Answer → Path Finished
after_marker_alone g k block marker =
    either (is_failure marker) (λ u. answer k MarkerFailed) (λ u. answer (with_mark g k block) Done)

-- the reply of a mark: a failed marker comes before a failed table
abbrev pub mark_reply : Answer → Reply → Reply
mark_reply marker table = if is_failure marker then MarkerFailed else table

-- what is known once a writing is over
abbrev pub after_writing : Known → Writing → Known
after_writing k w = record k { table = w.table; version = w.version; places = w.places; copies = whole_count w.whole }

-- the reply of a writing: done, or failed for this copy
abbrev pub writing_reply : Option Which → Reply
writing_reply None = Done
writing_reply (Some which) = TableFailed which

-- the writing of a mark: the primary and then the mirror, both of which are whole at its start
abbrev pub mark_writing : Known → Writing
mark_writing k =
    writing_of k.table k.version k.places (record { primary = true; mirror = true }) (Primary ∷ Mirror ∷ [])

-- a mark with tables: the copies are written; table, version, places and whole copies are then
-- those of the writing
abbrev pub write_tables : Geometry → Known → Answer → Path Finished
write_tables g k marker =
    writing_path g (mark_writing k) (λ w. answer (after_writing k w) (mark_reply marker (writing_reply w.failed)))

-- a mark: the erase of the block, whose failure is ignored, the program of its marker, and then the
-- table
abbrev pub mark_path : Geometry → Known → ℕ → Path Finished
mark_path g k block =
    Then (EraseEvent block) (λ erased.
    Then (ProgramEvent (first_page g block) (marker_image g)) (λ marker.
    either (has_tables g) (λ u. write_tables g (with_mark g k block) marker)
    (λ u. after_marker_alone g k block marker)))

-- the refusals of a mark in their order; a block that is bad already is done at once
abbrev pub mark_block : Geometry → Known → ℕ → Path Finished
mark_block g k block =
    only_if (not (entry_of k block == 2)) k Reserved (λ u.
    only_if (not (has_tables g) || nat_le 2 k.copies) k (Copies k.copies) (λ u.
    only_if (is_good_block k block) k Done (λ u. mark_path g k block)))

-- an operation on a partition of the chip
abbrev pub operation_in : Geometry → Known → Part → Op → Path Finished
operation_in g k part (Read dev page) =
    only_if (has_page g part page) k OutOfRange (λ u.
    Then (ReadEvent (chip_page g part page)) (λ seen. Over (after_read g k dev (decoded g (cells_of seen)))))
operation_in g k part (RawRead dev page) =
    only_if (has_page g part page) k OutOfRange (λ u.
    Then (ReadEvent (chip_page g part page)) (λ seen. answer k (raw_reply (cells_of seen))))
operation_in g k part (Write dev page body free) =
    only_if (has_page g part page) k OutOfRange (λ u.
    only_if (is_good_block k (chip_block part (page / g.pages_per_block))) k BadBlock (λ u.
    Then (ProgramEvent (chip_page g part page) (page_image g body free))
    (λ outcome. answer k (done_or ProgramFailed outcome))))
operation_in g k part (RawWrite dev page image) =
    only_if (has_page g part page) k OutOfRange (λ u.
    only_if (is_good_block k (chip_block part (page / g.pages_per_block))) k BadBlock (λ u.
    only_if (slice_index image g.page == 0xff) k MarkerByte (λ u.
    Then (ProgramEvent (chip_page g part page) image) (λ outcome. answer k (done_or ProgramFailed outcome)))))
operation_in g k part (Erase dev block) =
    only_if (has_block part block) k OutOfRange (λ u.
    only_if (is_good_block k (chip_block part block)) k BadBlock (λ u.
    Then (EraseEvent (chip_block part block)) (λ outcome. answer k (done_or EraseFailed outcome))))
operation_in g k part (IsBad dev block) =
    only_if (has_block part block) k OutOfRange (λ u. answer k (State (entry_of k (chip_block part block))))
operation_in g k part (Mark dev block) =
    only_if (has_block part block) k OutOfRange (λ u. mark_block g k (chip_block part block))
operation_in g k part (Stats dev) =
    answer k (Counts (k.statistics dev).corrected (k.statistics dev).failed (bad_count k.table part))

-- an operation on no device is out of range
abbrev pub operation_by : Geometry → Known → Option Part → Op → Path Finished
operation_by g k None op = answer k OutOfRange
operation_by g k (Some part) op = operation_in g k part op

-- an operation of a controller with these partitions
abbrev pub operation_path : Geometry → Partitions → Known → Op → Path Finished
operation_path g partitions k op = operation_by g k (part_of partitions (device_of op)) op

module _ {W : Type 0} (model : FaultModel W) where
  -- one whole operation: from this chip and what is known of it, along this trace, to this reply
  -- and what is known then
  pub record Performs (partitions : Partitions) (chip : ChipState W) (k : Known) (op : Op) (trace : List ChipEvent)
      (reply : Reply) (after : Known) : Type 0 where
    pub along : GoesAlong model (next_event (operation_path chip.geometry partitions k op)) chip [] trace
    pub uncut : is_uncut trace ≡ true
    pub over : result_of (after_answers (answers_of model chip trace) (operation_path chip.geometry partitions k op))
        ≡ Some (record { reply = reply; known = after })
