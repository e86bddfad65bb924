use Rattle.std.proofs.Common.{◌≡◌, ◌∙◌, ◌+◌, ◌-◌, ◌≤◌, ◌<◌, length, bit_or, ap, arith}
use Rattle.std.proofs.lemmas.List.{length-set}
use Rattle.bbt_flash.proofs.Reserving.{changed-more}
use Rattle.bbt_flash.proofs.markers.reserve_last.Goals as goal

pub loop-block-preserved : goal.loop-block-preserved
loop-block-preserved c =
    let g = c.args.g.now in
    let old = c.args.table.now in
    let before = c.loop-block.invariant in
    let low : g.blocks - 4 ≤ c.loop-block.block + 1 = omega (arith, before.low) in
    let within : c.loop-block.block < length old = omega (arith, c.loop-block-test.true, c.requires) in
    record {
      low = low;
      whole = ap length c.mark.ensures ∙ length-set c.loop-block.table c.loop-block.block _ ∙ before.whole;
      states =
          c.mark.ensures
          ∙ changed-more (λ s. bit_or s 2) old (g.blocks - 4) c.loop-block.table c.loop-block.block before.low within before.states;
    }
