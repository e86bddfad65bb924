use Rattle.std.proofs.Common.{◌≡◌, ℕ, ◌∙◌, arith, bit_or}
use Rattle.std.specs.Prelude.{◌%◌}
use Rattle.nand_model.specs.Chip.{done_bits}
use Rattle.chip_sim.proofs.Programming.{map_from_next, map_from_done}
use Rattle.chip_sim.proofs.page.or_done.Goals as goal

pub loop-i-preserved : goal.loop-i-preserved
loop-i-preserved c =
    let f : ℕ → ℕ → ℕ = λ i byte. bit_or byte (done_bits c.args.raw_len c.args.tear.now c.args.page_in_block i % 0x100) in
    let done : c.done.result ≡ done_bits c.args.raw_len c.args.tear.now c.args.page_in_block c.loop-i.i % 0x100 = omega (arith, c.done.ensures) in
    rw done (map_from_next f c.args.cells.now c.loop-i.cells c.loop-i.i c.loop-i-test.true c.loop-i.invariant)

pub returns : goal.returns
returns c =
    c.loop-i.invariant ∙ map_from_done (λ i byte. bit_or byte (done_bits c.args.raw_len c.args.tear.now c.args.page_in_block i % 0x100)) c.args.cells.now c.loop-i.i 0 c.loop-i-test.false
