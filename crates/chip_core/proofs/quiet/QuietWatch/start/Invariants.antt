use Rattle.std.proofs.Common.{◌≡◌}
use Rattle.std.specs.Prelude.{count_by, not}
use Rattle.nand_model.specs.Sizes.{numbers_from}
use Rattle.chip_core.specs.Quiet.{is_quiet_block}
use Rattle.chip_core.proofs.quiet.QuietWatch.start.Given as goal

-- the blocks so far are counted
abbrev pub invariant-loop-block : goal.invariant-loop-block
invariant-loop-block g l = l.unquiet ≡ count_by (λ b. not (is_quiet_block l.g (g.F.Flash.state l.flash).pages b)) (numbers_from 0 l.block)
