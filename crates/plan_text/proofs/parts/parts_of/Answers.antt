use Rattle.std.proofs.Common.{length, ap, arith}
use Rattle.std.specs.VecDeque.Iter.{deque_iter_rest}
use Rattle.std.proofs.lemmas.List.{nil_from_length}
use Rattle.plan_text.specs.Boot.{HasPartsWithin, parts_of}
use Rattle.plan_text.proofs.Mapped.{all_first, all_later}
use Rattle.plan_text.proofs.OwnParts.{chips_below, chips_end, chips_more, front_apart, length-parts_of}
use Rattle.plan_text.proofs.parts.parts_of.Goals as goal

pub add_parts-requires-clause-within : goal.add_parts-requires-clause-within
add_parts-requires-clause-within c =
    all_first HasPartsWithin _ (deque_iter_rest c.next.new.self) c.in-Some.chip.now c.loop-chip.invariant.within c.in-Some.ensures.steps

pub add_parts-requires-clause-apart : goal.add_parts-requires-clause-apart
add_parts-requires-clause-apart c =
    front_apart c.loop-chip.number c.loop-chip.parts _ _ c.loop-chip.invariant.whole (deque_iter_rest c.next.new.self) c.in-Some.chip.now
    c.in-Some.ensures.steps c.requires.apart

pub add_parts-requires-clause-few : goal.add_parts-requires-clause-few
add_parts-requires-clause-few c =
    let below = chips_below c.loop-chip.number c.loop-chip.parts (record { first = c.args.first; parts = parts_of c.args.chips.now })
    (deque_iter_rest c.loop-chip.chip-iterator) c.loop-chip.invariant.whole (deque_iter_rest c.next.new.self) c.in-Some.chip.now c.in-Some.ensures.steps in
    let few = c.requires.few in
    omega (arith, below, few, length-parts_of c.args.chips.now)

pub overflow_add-number : goal.overflow_add-number
overflow_add-number c =
    let size = ap length c.in-Some.ensures.steps in
    let count = c.loop-chip.invariant.count in
    omega (arith, size, count, c.requires.few_chips)

pub loop-chip-preserved : goal.loop-chip-preserved
loop-chip-preserved c =
    let size = ap length c.in-Some.ensures.steps in
    let count = c.loop-chip.invariant.count in
    record {
      whole = chips_more c.loop-chip.number c.loop-chip.parts _ _ c.loop-chip.invariant.whole (deque_iter_rest c.next.new.self) c.in-Some.chip.now
          c.in-Some.ensures.steps c.add_parts.new.parts c.in_ok-add_parts.ensures;
      within = all_later HasPartsWithin _ (deque_iter_rest c.next.new.self) c.in-Some.chip.now c.loop-chip.invariant.within c.in-Some.ensures.steps;
      count = omega (arith, size, count);
    }

pub returns : goal.returns
returns c = chips_end c.loop-chip.number c.loop-chip.parts _ _ c.loop-chip.invariant.whole
    (nil_from_length (deque_iter_rest c.loop-chip.chip-iterator) c.in-None.ensures.steps.0)
