use Rattle.std.specs.VecDeque.Iter.{deque_iter_rest}
use Rattle.chip_sim.specs.State.{sim_state}
use Rattle.plan_text.specs.Plan.{IsMadeChip}
use Rattle.plan_text.proofs.Mapped.{all_first, all_later}
use Rattle.plan_text.proofs.NewChips.{chips_on}
use Rattle.plan_text.proofs.chips.new_chips.Goals as goal

pub new_chip-requires : goal.new_chip-requires
new_chip-requires c =
    all_first IsMadeChip _ (deque_iter_rest c.next.new.self) c.in-Some.chip.now c.loop-chip.invariant.made c.in-Some.ensures.steps

pub loop-chip-preserved : goal.loop-chip-preserved
loop-chip-preserved c =
    record {
      whole = chips_on c.loop-chip.flashes c.append.new.self _ (deque_iter_rest c.next.new.self) c.in-Some.chip.now c.in_ok-new_chip.field-0 _
          c.loop-chip.invariant.whole c.in-Some.ensures.steps c.in_ok-new_chip.ensures c.in_ok-append.ensures.ok;
      made = all_later IsMadeChip _ (deque_iter_rest c.next.new.self) c.in-Some.chip.now c.loop-chip.invariant.made c.in-Some.ensures.steps;
    }
