-- The paths with which operations begin.
use Rattle.std.specs.Prelude.{◌≡◌, ℕ, ◌/◌, ◌==◌, List, slice_index, Option, Some, None}
use Rattle.nand_model.specs.Page.{page_image}
use Rattle.nand_model.specs.Path.{Path}
use Rattle.nand_model.specs.Partitions.{Partitions}
use Rattle.chip_paths.specs.Operation.{Known, Finished, answer, chip_block, chip_page, entry_of, has_block, has_page, is_good_block, only_if, operation_path}
use Rattle.nand_model.specs.declared.geometry.Geometry.{Geometry}
use Rattle.nand_model.specs.declared.words.Op.{Op}
use Rattle.nand_model.specs.declared.words.Part.{Part}
use Rattle.nand_model.specs.declared.words.Reply.TheVariants.{OutOfRange, BadBlock, MarkerByte, State}
use Rattle.chip_paths.specs.ChipRun.{AtStart}
use Rattle.chip_core.specs.Begin.{read_device}
use Rattle.chip_core.specs.Knowledge.{known_in}
use Rattle.chip_core.specs.Task.{TaskFits, counted_by, erased_from, program_from, task_left, task_progress}
use Rattle.chip_core.specs.declared.knowledge.Knowledge.{Knowledge}
use Rattle.chip_core.specs.declared.task.Task.{Task}
pub use Rattle.chip_core.specs.Task.{raw_read_from, read_from}

-- an operation goes on at a page or a block, and is out of range where there is none
abbrev pub in_range : Known → Option ℕ → (ℕ → Path Finished) → Path Finished
in_range k None go_on = answer k OutOfRange
in_range k (Some place) go_on = go_on place

-- an operation goes on at the chip's page of a page of a partition
abbrev pub on_page : Geometry → Known → Option Part → ℕ → (ℕ → Path Finished) → Path Finished
on_page g k None page go_on = answer k OutOfRange
on_page g k (Some part) page go_on = only_if (has_page g part page) k OutOfRange (λ u. go_on (chip_page g part page))

-- an operation goes on at the chip's block of a block of a partition
abbrev pub on_block : Known → Option Part → ℕ → (ℕ → Path Finished) → Path Finished
on_block k None block go_on = answer k OutOfRange
on_block k (Some part) block go_on = only_if (has_block part block) k OutOfRange (λ u. go_on (chip_block part block))

-- a write of a body and free bytes into a page of the chip
abbrev pub write_from : Geometry → Known → List ℕ → List ℕ → ℕ → Path Finished
write_from g k body free page =
    only_if (is_good_block k (page / g.pages_per_block)) k BadBlock (λ u. program_from k (page_image g body free) page)

-- a raw write into a page of the chip: a bad block is refused before a marker byte in the image
abbrev pub raw_write_from : Geometry → Known → List ℕ → ℕ → Path Finished
raw_write_from g k image page =
    only_if (is_good_block k (page / g.pages_per_block)) k BadBlock (λ u.
    only_if (slice_index image g.page == 0xff) k MarkerByte (λ u. program_from k image page))

-- an erase of a block of the chip
abbrev pub erase_from : Known → ℕ → Path Finished
erase_from k block = only_if (is_good_block k block) k BadBlock (λ u. erased_from k block)

-- the state of a block of the chip
abbrev pub state_from : Known → ℕ → Path Finished
state_from k block = answer k (State (entry_of k block))

-- a task stands for this path where this is known, fits the chip, and adds to the statistics of
-- this device or of none
pub record StandsFor (known : Knowledge) (path : Known → Path Finished) (dev : Option ℕ) (task : Task) : Type 0 where
  pub follows : task_left known.geometry known.table (known_in known) task ≡ path (known_in known)
  pub fresh : task_progress task ≡ AtStart
  pub fits : TaskFits known.geometry known.table task
  pub counted : (d : ℕ) → counted_by task ≡ Some d → dev ≡ Some d

-- a task stands for the whole path of an operation
abbrev pub Begins : Knowledge → Partitions → Op → Task → Type 0
Begins known partitions op task =
    StandsFor known (λ k. operation_path known.geometry partitions k op) (read_device op) task
