use Rattle.std.proofs.Common.{◌+◌, arith, sym, ◌∙◌}
use Rattle.chip_core.specs.Chip.{chip_state}
use Rattle.ctl_core.specs.Board.{slot_state}
use Rattle.ctl_core.specs.Ended.{slot_bad_blocks}
use Rattle.ctl_core.proofs.LastStates.{sum_more, few_blocks_of}
use Rattle.ctl_core.proofs.ending.all_bad.Goals as goal

pub overflow_add-bad : goal.overflow_add-bad
overflow_add-bad g c =
    let blocks = few_blocks_of (chip_state c.slot-item.result.chip).geometry in
    omega (arith, c.bad-bad.ensures.few, blocks, c.loop-slot.invariant.few, c.loop-slot-test.true, c.requires)

pub loop-slot-preserved : goal.loop-slot-preserved
loop-slot-preserved g c =
    let blocks = few_blocks_of (chip_state c.slot-item.result.chip).geometry in
    record {
      so_far = (λ d. c.loop-slot.invariant.so_far d + c.bad-bad.ensures.count d)
          ∙ sym (sum_more slot_bad_blocks slot_state c.args.slots.now c.loop-slot.slot-index c.slot-item.result c.loop-slot-test.true c.slot-item.is);
      few = omega (arith, c.bad-bad.ensures.few, blocks, c.loop-slot.invariant.few);
    }
