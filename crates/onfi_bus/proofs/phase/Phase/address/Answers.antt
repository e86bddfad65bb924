use Rattle.std.proofs.Common.{arith}
use Rattle.onfi_bus.proofs.Sizes.{page_count_small}
use Rattle.onfi_bus.proofs.phase.Phase.address.Goals as goal

pub overflow_add-row : goal.overflow_add-row
overflow_add-row c =
    let fits = rw c.in-RowMiddle.is at c.requires.fits in
    omega (arith, fits.1, page_count_small c.args.g.now, c.requires.byte)

pub overflow_add-row-in-RowHigh : goal.overflow_add-row-in-RowHigh
overflow_add-row-in-RowHigh c =
    let fits = rw c.in-RowHigh.is at c.requires.fits in
    omega (arith, fits.1, page_count_small c.args.g.now, c.requires.byte)
