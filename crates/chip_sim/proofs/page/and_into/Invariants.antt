use Rattle.std.proofs.Common.{◌≡◌, ◌++◌, take, drop}
use Rattle.nand_model.specs.Chip.{programmed}
use Rattle.chip_sim.proofs.page.and_into.Given as goal

abbrev pub invariant-loop-i : goal.invariant-loop-i
invariant-loop-i l = l.cells ≡ take l.i (programmed l.initial.cells l.image) ++ drop l.i l.initial.cells
