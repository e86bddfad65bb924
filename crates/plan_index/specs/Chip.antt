-- What the marks of a chip tell, and the rules of lines that they decide.
use Rattle.std.specs.Prelude.{◌≡◌, ℕ, ◌+◌, Bool, true, not, ◌&&◌, nat_lt, nat_le, count_by, List, [], ◌∷◌, ◌++◌, Result}
use Rattle.std.specs.List.{list_all, list_any}
use Rattle.nand_model.specs.Sizes.{page_count}
use Rattle.nand_model.specs.declared.words.Weak.{Weak}
use Rattle.nand_model.specs.declared.words.WeakKind.TheVariants.{Program, Erase}
use Rattle.plan_grammar.specs.declared.kind.PlanKind.{PlanKind}
use Rattle.plan_grammar.specs.declared.kind.PlanKind.TheVariants.{BadWords, OutOfChip, TooFewTableBlocks, Overlap}
use Rattle.plan_grammar.specs.declared.lines.ChipLines.{ChipLines}
use Rattle.plan_grammar.specs.declared.lines.PartLine.{PartLine}
use Rattle.plan_grammar.specs.declared.lines.DetailLine.{DetailLine}
use Rattle.plan_grammar.specs.Rules.{◌>>=◌, rule}
use Rattle.plan_grammar.specs.Devices.{bad_blocks, has_bus, has_number, is_weak, are_different, weak_programs, share_block}
use Rattle.plan_grammar.specs.Hardware.{leaves_table_blocks, place_count, part_in_force}
use Rattle.plan_index.specs.Places.{Tells}
use Rattle.plan_index.specs.declared.marks.ChipMarks.{ChipMarks}

-- a block is one of a partition's
abbrev pub has_block : ℕ → PartLine → Bool
has_block block part = nat_le part.start block && nat_lt block (part.start + part.count)

-- a block is one of these partitions'
abbrev pub is_used : List PartLine → ℕ → Bool
is_used parts block = list_any (has_block block) parts

-- a partition has a block
abbrev pub is_filled : PartLine → Bool
is_filled part = nat_lt 0 part.count

-- the marks tell what the chip's lines name
pub record IsMarked (chip : ChipLines) (marks : ChipMarks) : Type 0 where
  pub bad : Tells marks.bad.items chip.geometry.blocks (has_number (bad_blocks chip))
  pub different : are_different (bad_blocks chip) ≡ true
  pub programs : Tells marks.programs.items (page_count chip.geometry) (is_weak chip Program)
  pub erases : Tells marks.erases.items chip.geometry.blocks (is_weak chip Erase)
  pub used : Tells marks.used.items chip.geometry.blocks (is_used chip.parts)
  pub filled : list_all is_filled chip.parts ≡ true
  pub weak : marks.weak_programs ≡ weak_programs chip
  pub counted : weak_programs chip ≡ count_by (λ flag. flag) marks.programs.items
  pub bus : marks.bus ≡ has_bus chip

-- the chip with one more line that tells more of it
abbrev pub with_detail_line : DetailLine → ChipLines → ChipLines
with_detail_line detail chip = record chip { details = chip.details ++ detail ∷ [] }

-- the chip with one more partition
abbrev pub with_part_line : PartLine → ChipLines → ChipLines
with_part_line part chip = record chip { parts = chip.parts ++ part ∷ [] }

-- the rules of bad blocks
abbrev pub bad_rules : ChipLines → List ℕ → Result (Unit {0}) PlanKind
bad_rules chip blocks = do
  _ ← rule (list_all (λ b. nat_lt b chip.geometry.blocks) blocks) OutOfChip
  _ ← rule (leaves_table_blocks chip.geometry (bad_blocks chip ++ blocks)) TooFewTableBlocks
  rule (are_different (bad_blocks chip ++ blocks)) Overlap

-- the rules of a weak place
abbrev pub weak_rules : ChipLines → Weak → Result (Unit {0}) PlanKind
weak_rules chip weak = do
  _ ← rule (nat_lt weak.at (place_count chip.geometry weak.kind)) OutOfChip
  rule (not (is_weak chip weak.kind weak.at)) Overlap

-- the rule of a bus
abbrev pub bus_rules : ChipLines → Result (Unit {0}) PlanKind
bus_rules chip = rule (not (has_bus chip)) BadWords

-- the rules of a partition
abbrev pub part_rules : ChipLines → (start count : ℕ) → Result (Unit {0}) PlanKind
part_rules chip start count = do
  _ ← rule (nat_lt start chip.geometry.blocks && nat_le (start + count) chip.geometry.blocks) OutOfChip
  rule (not (list_any (share_block (part_in_force chip start count)) chip.parts)) Overlap
