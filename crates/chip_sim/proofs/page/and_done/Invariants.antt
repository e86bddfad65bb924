use Rattle.std.proofs.Common.{◌≡◌, ◌++◌, take, drop}
use Rattle.nand_model.specs.Chip.{done_bits, torn_programmed}
use Rattle.chip_sim.proofs.page.and_done.Given as goal

abbrev pub invariant-loop-i : goal.invariant-loop-i
invariant-loop-i l =
    l.cells ≡ take l.i (torn_programmed l.initial.cells l.image (done_bits l.raw_len l.tear 0)) ++ drop l.i l.initial.cells
