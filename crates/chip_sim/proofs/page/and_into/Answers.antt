use Rattle.std.proofs.Common.{ℕ, ◌∙◌, slice_index, bit_and}
use Rattle.chip_sim.proofs.Programming.{map_from_next, map_from_done}
use Rattle.chip_sim.proofs.page.and_into.Goals as goal

pub loop-i-preserved : goal.loop-i-preserved
loop-i-preserved c =
    let f : ℕ → ℕ → ℕ = λ i byte. bit_and byte (slice_index c.args.image.now i) in
    map_from_next f c.args.cells.now c.loop-i.cells c.loop-i.i c.loop-i-test.true c.loop-i.invariant

pub returns : goal.returns
returns c =
    c.loop-i.invariant ∙ map_from_done (λ i byte. bit_and byte (slice_index c.args.image.now i)) c.args.cells.now c.loop-i.i 0 c.loop-i-test.false
