-- No partition so far shares a block.
use Rattle.std.proofs.Common.{ℕ, ◌<◌}
use Rattle.std.specs.Prelude.{slice_index_or}
use Rattle.nand_model.specs.declared.words.Part.{Part}
use Rattle.mtd_part.specs.Blocks.{SharesBlock}
use Rattle.mtd_part.proofs.parts.overlaps.Given as goal

abbrev pub invariant-loop-other : goal.invariant-loop-other
invariant-loop-other l = (k : ℕ) (d : Part) → k < l.other-index → SharesBlock l.part (slice_index_or l.earlier k d) → ⊥
