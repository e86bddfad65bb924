use Rattle.std.proofs.Common.{◌<◌, ◌+◌, length, arith, ap, sym, ◌∙◌}
use Rattle.std.specs.Prelude.{slice_index}
use Rattle.bbt_ram.specs.Packed.{is_not_good}
use Rattle.bbt_ram.proofs.Counting.{count_range_yes, count_range_no, not_good, good}
use Rattle.bbt_ram.proofs.table.BlockTable.count_bad.Goals as goal
use Rattle.bbt_ram.proofs.table.BlockTable.count_bad.Goals.{then-is_bad, else-is_bad}

pub loop-block-preserved : goal.loop-block-preserved
loop-block-preserved c =
    let there : c.loop-block.block < length c.args.self.now = omega (arith, c.requires.end) in
    elim c.if-is_bad.branch [
      | then-is_bad w ↦ record {
        counted =
            w.bad-is ∙ ap (λ n. n + 1) c.loop-block.invariant.counted
            ∙ sym (count_range_yes is_not_good c.args.self.now c.args.from c.loop-block.block c.loop-block.auto.block there
            (not_good c.is_bad.result (slice_index c.args.self.now c.loop-block.block) c.is_bad.ensures w.if-is_bad.true));
        few = omega (arith, c.loop-block.invariant.few);
      }
      | else-is_bad w ↦ record {
        counted =
            w.bad-is ∙ c.loop-block.invariant.counted
            ∙ sym (count_range_no is_not_good c.args.self.now c.args.from c.loop-block.block c.loop-block.auto.block there
            (good c.is_bad.result (slice_index c.args.self.now c.loop-block.block) c.is_bad.ensures w.if-is_bad.false));
        few = omega (arith, c.loop-block.invariant.few);
      }
    ]
