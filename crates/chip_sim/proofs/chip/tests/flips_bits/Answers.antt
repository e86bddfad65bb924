use Rattle.std.proofs.Common.{◌≡◌, refl, lit<}
use Rattle.nand_model.specs.Sizes.{page_count, raw_len}
use Rattle.chip_sim.proofs.chip.tests.flips_bits.Goals as goal

pub flip_and_read-requires-clause-bits : goal.flip_and_read-requires-clause-bits
flip_and_read-requires-clause-bits g c =
    let sizes = c.loop-bit.invariant in
    let raw : raw_len c.loop-bit.chip.store.geometry ≡ 2112 = rw (sizes.page, sizes.spare) refl in
    let pages : page_count c.loop-bit.chip.store.geometry ≡ 512 = rw (sizes.block_pages, sizes.block_count) refl in
    record { page_there = rw pages (lit< tt); bits_there = λ k d within. rw raw (c.in_ok-one_bit.ensures.there k d within) }
