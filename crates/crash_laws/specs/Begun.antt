-- Which marks have begun, by what they do: the answers that say so are those of marks with events.
use Rattle.std.specs.Prelude.{◌≡◌, ℕ, List, true, false, Some}
use Rattle.nand_model.specs.Path.{Answer, Path, Over, Then, after_answers, result_of}
use Rattle.nand_model.specs.Chip.{PageEvent}
use Rattle.nand_model.specs.Partitions.{Partitions, part_of}
use Rattle.nand_model.specs.declared.geometry.Geometry.{Geometry}
use Rattle.nand_model.specs.declared.words.Part.{Part}
use Rattle.nand_model.specs.declared.words.Op.TheVariants.{Mark}
use Rattle.nand_model.specs.declared.words.Reply.TheVariants.{Done}
use Rattle.chip_paths.specs.Operation.{Known, Finished, operation_path, is_good_block, chip_block}
use Rattle.run_model.specs.Marking.{begins}

-- a mark that is over without an event: nothing else is known then than before, and its answer says
-- that it has begun only where it was done, of a block that the table has as bad already
pub record IsOverAtOnce (partitions : Partitions) (k : Known) (dev block : ℕ) (end : Finished) : Type 0 where
  pub unchanged : end.known ≡ k
  pub done : begins (Some end.reply) ≡ true → end.reply ≡ Done
  pub bad : begins (Some end.reply) ≡ true → (part : Part) → part_of partitions dev ≡ Some part
      → is_good_block k (chip_block part block) ≡ false

-- a mark that has an event: whatever its answers are, it says in the end that it has begun
abbrev pub HasBegunInTheEnd : Path Finished → Type 0
HasBegunInTheEnd path =
    (answers : List Answer) (end : Finished) → result_of (after_answers answers path) ≡ Some end
    → begins (Some end.reply) ≡ true

-- what a mark with this path says of its beginning
abbrev pub SaysWhetherBegun : Partitions → Known → (dev block : ℕ) → Path Finished → Type 0
SaysWhetherBegun partitions k dev block (Over end) = IsOverAtOnce partitions k dev block end
SaysWhetherBegun partitions k dev block (Then event rest) = HasBegunInTheEnd (Then event rest)

-- every mark of a block of a device says so, on every chip
abbrev pub MarksSayWhetherBegun : Type 0
MarksSayWhetherBegun =
    (g : Geometry) (partitions : Partitions) (k : Known) (dev block : ℕ) →
    SaysWhetherBegun partitions k dev block (operation_path g partitions k (Mark dev block))
