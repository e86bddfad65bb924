use Rattle.std.proofs.Common.{◌≡◌, ℕ, ◌<◌, true}
use Rattle.std.specs.Prelude.{nat_le}
use Rattle.nand_model.specs.Quiet.{word_flips}
use Rattle.chip_core.proofs.quiet.is_correctable.Given as goal

-- the words so far have few enough flips
abbrev pub invariant-loop-step : goal.invariant-loop-step
invariant-loop-step g l = (s : ℕ) → s < l.step → nat_le (word_flips l.g ((g.F.Flash.state l.flash).pages l.page).flips s) l.g.t ≡ true
