-- A whole attach and a whole operation.
use Rattle.std.specs.Prelude.{◌≡◌, ℕ, ◌/◌, Bool, true, false, not, ◌&&◌, ◌||◌, ◌==◌, nat_le, List, map, slice_index, Option, Some, None, IfSome, IfNone}
use Rattle.chip_paths.specs.Attach.{marker_table}
use Rattle.nand_model.specs.Chip.{ChipEvent, ChipState, FaultModel, after_trace}
use Rattle.nand_model.specs.Counts.{HasRisen}
use Rattle.chip_paths.specs.Operation.{Known, Performs, chip_block, entry_of, has_block, has_page, is_good_block}
use Rattle.nand_model.specs.Partitions.{Partitions}
use Rattle.nand_model.specs.Sizes.{numbers_from}
use Rattle.nand_model.specs.Table.{has_tables}
use Rattle.nand_model.specs.declared.geometry.Geometry.{Geometry}
use Rattle.nand_model.specs.declared.words.Op.{Op}
use Rattle.nand_model.specs.declared.words.Op.TheVariants.{Read, Write, RawRead, RawWrite, Erase, IsBad, Mark, Stats}
use Rattle.nand_model.specs.declared.words.Part.{Part}
use Rattle.nand_model.specs.declared.words.Reply.{Reply}
use Rattle.nand_model.specs.declared.words.Reply.TheVariants.{OutOfRange, BadBlock, MarkerByte, Reserved, Copies, ProgramFailed, EraseFailed, MarkerFailed, TableFailed}
use Rattle.chip_paths.specs.Stage.{Stage, Attaches, Rests, Works}
use Rattle.command_model.specs.Command.{is_done}
use Rattle.chip_core.specs.Markers.{marker_page}

-- the states of a chip's blocks by their markers
abbrev pub marker_states : {W : Type 0} → ChipState W → List ℕ
marker_states s = marker_table s.geometry (map (marker_page s) (numbers_from 0 s.geometry.blocks))

-- what is known of a chip that is attached and has nothing in flight
abbrev pub known_at_rest : Stage → Option Known
known_at_rest (Attaches left quiet) = None
known_at_rest (Rests known) = Some known
known_at_rest (Works known progress left) = None

-- a reply that tells of a failed event
abbrev pub is_fault : Reply → Bool
is_fault ProgramFailed = true
is_fault EraseFailed = true
is_fault MarkerFailed = true
is_fault (TableFailed which) = true
is_fault _ = false

-- whether an operation with this reply changes what is known: a read counts, a mark that is done
-- sets its entry, and with tables so does one that failed
abbrev pub changes_known : Geometry → Op → Reply → Bool
changes_known g (Read dev page) reply = true
changes_known g (Write dev page body free) reply = false
changes_known g (RawRead dev page) reply = false
changes_known g (RawWrite dev page image) reply = false
changes_known g (Erase dev block) reply = false
changes_known g (IsBad dev block) reply = false
changes_known g (Mark dev block) reply = is_done reply || (has_tables g && is_fault reply)
changes_known g (Stats dev) reply = false

-- from this chip and what is known of it to this chip at this stage, by a whole operation with this
-- reply; only a read and a mark that is not refused change what is known
pub record HasPerformed {W : Type 0} (model : FaultModel W) (partitions : Partitions) (k : Known) (op : Op)
    (before after : ChipState W)
    (stage : Stage) (reply : Reply) : Type 0 where
  pub known : Known
  pub rests : stage ≡ Rests known
  pub trace : List ChipEvent
  pub leads : after ≡ after_trace model before trace
  pub performs : Performs model partitions before k op trace reply known
  pub kept : changes_known before.geometry op reply ≡ false → known ≡ k

-- a refusal where the test fails, else a later one
abbrev pub refused_unless : Bool → Reply → Option Reply → Option Reply
refused_unless true refusal later = later
refused_unless false refusal later = Some refusal

-- why an operation on a partition is refused
abbrev pub refusal_in : Geometry → Known → Part → Op → Option Reply
refusal_in g k part (RawRead dev page) = refused_unless (has_page g part page) OutOfRange None
refusal_in g k part (RawWrite dev page image) =
    refused_unless (has_page g part page) OutOfRange
    (refused_unless (is_good_block k (chip_block part (page / g.pages_per_block))) BadBlock
    (refused_unless (slice_index image g.page == 0xff) MarkerByte None))
refusal_in g k part (Erase dev block) =
    refused_unless (has_block part block) OutOfRange (refused_unless (is_good_block k (chip_block part block))
    BadBlock None)
refusal_in g k part (IsBad dev block) = refused_unless (has_block part block) OutOfRange None
refusal_in g k part (Read dev page) = refused_unless (has_page g part page) OutOfRange None
refusal_in g k part (Write dev page body free) =
    refused_unless (has_page g part page) OutOfRange
    (refused_unless (is_good_block k (chip_block part (page / g.pages_per_block))) BadBlock None)
refusal_in g k part (Mark dev block) =
    refused_unless (has_block part block) OutOfRange
    (refused_unless (not (entry_of k (chip_block part block) == 2)) Reserved
    (refused_unless (not (has_tables g) || nat_le 2 k.copies) (Copies k.copies) None))
refusal_in g k part (Stats dev) = None

-- no device has no page and no block
abbrev pub refusal_of : Geometry → Known → Option Part → Op → Option Reply
refusal_of g k None op = Some OutOfRange
refusal_of g k (Some part) op = refusal_in g k part op

-- a reply that refuses an operation
abbrev pub is_refusal : Reply → Bool
is_refusal OutOfRange = true
is_refusal BadBlock = true
is_refusal MarkerByte = true
is_refusal Reserved = true
is_refusal (Copies n) = true
is_refusal _ = false

-- an operation is refused exactly for its reason, and has no event then; and it fails only where
-- the chip's count of faults rose
pub record HasCause {W : Type 0} (refusal : Option Reply) (before after : ChipState W) (reply : Reply) : Type 0 where
  pub refused : IfSome refusal (λ r. (reply ≡ r) × (after ≡ before))
  pub taken : IfNone refusal (is_refusal reply ≡ false)
  pub failed : is_fault reply ≡ true → HasRisen before.faults after.faults
