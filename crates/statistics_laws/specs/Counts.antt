-- How large the ECC statistics of a boot become.
use Rattle.std.specs.Prelude.{List, [], ◌∷◌, ℕ, ◌==◌, if◌then◌else◌, ◌≤◌, ◌≡◌, ◌*◌, length, slice_get, Some, count_by, Contains, sum_by}
use Rattle.chip_paths.specs.Operation.{Known}
use Rattle.nand_model.specs.Chip.{ChipState, FaultModel}
use Rattle.chip_paths.specs.ChipRun.{ChipRun}
use Rattle.command_model.specs.Boot.{Boot}
use Rattle.run_model.specs.Course.{course_after}
use Rattle.command_model.specs.Reads.{corrected_of, failed_of, reads_of}
use Rattle.nand_model.specs.Partitions.{chip_of}
use Rattle.run_model.specs.Statistics.{statistics_at}
use Rattle.nand_model.specs.declared.words.PageRead.{PageRead}
use Rattle.nand_model.specs.declared.words.Reply.{Reply}
use Rattle.nand_model.specs.declared.words.Reply.TheVariants.{Page}
use Rattle.nand_model.specs.declared.words.Op.{Op}
use Rattle.nand_model.specs.declared.words.Op.TheVariants.{Read}
use Rattle.nand_model.specs.declared.words.Command.{Command}

-- the counts of a page that was read, in a reply
abbrev pub page_read : Reply → List PageRead
page_read (Page kind read image) = read ∷ []
page_read _ = []

-- the counts that a reply to an operation adds to those of a device: only reads that decode count
abbrev pub reads_in : ℕ → Op → Reply → List PageRead
reads_in dev (Read d page) reply = if d == dev then page_read reply else []
reads_in dev _ reply = []

-- each device of a chip of which this is known has counted at most so many corrected bits, and at
-- most so many failed steps
abbrev pub HasCounted : ℕ → Known → Type 0
HasCounted most known = (dev : ℕ) → ((known.statistics dev).corrected ≤ most) × ((known.statistics dev).failed ≤ most)

-- after these turns, each device has counted at most 128 for each of them
abbrev pub CountsAreSmall : {W : Type 0} → FaultModel W → Boot → List (ChipState W) → ℕ → List ℕ → Type 0
CountsAreSmall {W} model boot starts attaches turns =
    (k : ℕ) (c : ChipRun W) (known : Known) → slice_get (course_after model boot starts attaches turns).chips k
    ≡ Some c → c.known ≡ Some known
    → HasCounted (128 * length turns) known

-- each session of a boot stands once among these numbers
abbrev pub StandOnce : Boot → List ℕ → Type 0
StandOnce boot numbers = (session : ℕ) (commands : List Command) → Contains boot.sessions (session, commands)
    → count_by (λ n. n == session) numbers ≡ 1

-- the statistics of a device are the sums of what its answered reads counted, over these sessions
pub record StatisticsFollow {W : Type 0} (model : FaultModel W) (boot : Boot) (starts : List (ChipState W))
    (attaches : ℕ) (turns numbers : List ℕ) (dev : ℕ) : Type 0 where
  pub corrected : (statistics_at (course_after model boot starts attaches turns) (chip_of boot.partitions dev)
      dev).corrected
      ≡ sum_by corrected_of (reads_of dev numbers (course_after model boot starts attaches turns).notes)
  pub failed : (statistics_at (course_after model boot starts attaches turns) (chip_of boot.partitions dev) dev).failed
      ≡ sum_by failed_of (reads_of dev numbers (course_after model boot starts attaches turns).notes)
