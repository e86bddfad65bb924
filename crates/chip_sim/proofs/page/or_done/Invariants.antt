use Rattle.std.proofs.Common.{◌≡◌, ◌++◌, take, drop}
use Rattle.nand_model.specs.Chip.{done_bits, torn_erased}
use Rattle.chip_sim.proofs.page.or_done.Given as goal

abbrev pub invariant-loop-i : goal.invariant-loop-i
invariant-loop-i l =
    l.cells ≡ take l.i (torn_erased l.initial.cells (done_bits l.raw_len l.tear l.page_in_block)) ++ drop l.i l.initial.cells
