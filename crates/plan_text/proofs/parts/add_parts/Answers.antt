use Rattle.std.proofs.Common.{arith, length-append}
use Rattle.std.proofs.lemmas.List.{nil_from_length}
use Rattle.std.specs.VecDeque.Iter.{deque_iter_rest}
use Rattle.nand_model.specs.Partitions.{LiesWithin}
use Rattle.nand_model.proofs.Bounds.{bounds}
use Rattle.plan_grammar.specs.declared.lines.PartLine.{PartLine}
use Rattle.plan_text.specs.Boot.{placed, with_parts}
use Rattle.plan_text.proofs.Mapped.{all_first, all_later}
use Rattle.plan_text.proofs.OwnParts.{length-placed, next_free, parts_below, parts_end, parts_more}
use Rattle.plan_text.proofs.parts.add_parts.Goals as goal

pub add_part-requires-clause-blocks : goal.add_part-requires-clause-blocks
add_part-requires-clause-blocks c = (bounds c.args.chip.now.geometry).blocks_high

pub add_part-requires-clause-within : goal.add_part-requires-clause-within
add_part-requires-clause-within c =
    all_first (λ (p : PartLine). LiesWithin c.args.chip.now.geometry.blocks (record { chip = 0; start = p.start; count = p.count }))
    _ (deque_iter_rest c.next.new.self) c.in-Some.line.now c.loop-line.invariant.within c.in-Some.ensures.steps

pub add_part-requires-clause-free : goal.add_part-requires-clause-free
add_part-requires-clause-free c =
    next_free c.args.number c.loop-line.parts _ _ c.loop-line.invariant.whole (deque_iter_rest c.next.new.self) c.in-Some.line.now
    c.in-Some.ensures.steps c.requires.apart

pub add_part-requires-clause-numbers : goal.add_part-requires-clause-numbers
add_part-requires-clause-numbers c =
    let below = parts_below c.args.number c.loop-line.parts (with_parts c.args.parts.now (placed c.args.number c.args.chip.now.parts))
    (deque_iter_rest c.loop-line.line-iterator) c.loop-line.invariant.whole (deque_iter_rest c.next.new.self) c.in-Some.line.now c.in-Some.ensures.steps in
    let few = c.requires.few in
    omega (
      arith,
      below,
      few,
      length-append c.args.parts.now.parts (placed c.args.number c.args.chip.now.parts),
      length-placed c.args.number c.args.chip.now.parts,
    )

pub loop-line-preserved : goal.loop-line-preserved
loop-line-preserved c = record {
  whole = parts_more c.args.number c.loop-line.parts _ _ c.loop-line.invariant.whole (deque_iter_rest c.next.new.self) c.in-Some.line.now
      c.in-Some.ensures.steps c.add_part.new.parts c.in_ok-add_part.ensures;
  within = all_later (λ (p : PartLine). LiesWithin c.args.chip.now.geometry.blocks (record { chip = 0; start = p.start; count = p.count }))
      _ (deque_iter_rest c.next.new.self) c.in-Some.line.now c.loop-line.invariant.within c.in-Some.ensures.steps;
}

pub returns : goal.returns
returns c = parts_end c.args.number c.loop-line.parts _ _ c.loop-line.invariant.whole
    (nil_from_length (deque_iter_rest c.loop-line.line-iterator) c.in-None.ensures.steps.0)
