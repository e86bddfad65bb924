use Rattle.std.proofs.Common.{◌≡◌, ◌+◌, arith, length, ap, ◌∷◌}
use Rattle.nand_model.specs.Flips.{due_flips}
use Rattle.ctl_core.specs.Flips.{bit_count, flips_on}
use Rattle.ctl_core.proofs.FlipSteps.{counted_next, counted_none, counted_off, counted_on, few_due, left_after, left_at_first, next_within}
use Rattle.ctl_core.proofs.flips.due_counts.Goals as goal
use Rattle.ctl_core.proofs.flips.due_counts.Goals.{then-one-chip, else-one-chip}

pub loop-next-init : goal.loop-next-init
loop-next-init c = record {
  counted = (
    due_flips c.args.faults.now.flips c.args.event,
    left_at_first c.args.faults.now.flips c.args.event c.args.first c.requires.first,
    omega arith,
    omega arith,
  );
  within = next_within c.args.faults.now.flips c.args.event 0 c.args.first c.requires.first;
}

pub overflow_add-pages : goal.overflow_add-pages
overflow_add-pages c =
    let counted = c.loop-next.invariant.counted in
    let few = few_due c.args.faults.now.flips c.args.event c.args.chip c.requires.few in
    let here = counted_next c.args.faults.now.flips c.args.event c.args.chip c.loop-next.next counted.0 counted.1 c.in-Some.n c.flip-one.result.now
    c.in-Some.is c.flip-one.ensures c.if-one-chip.true in
    omega (arith, few.0, here.0, counted.2)

pub overflow_cast-bits : goal.overflow_cast-bits
overflow_cast-bits c =
    let counted = c.loop-next.invariant.counted in
    let few = few_due c.args.faults.now.flips c.args.event c.args.chip c.requires.few in
    let here = counted_next c.args.faults.now.flips c.args.event c.args.chip c.loop-next.next counted.0 counted.1 c.in-Some.n c.flip-one.result.now
    c.in-Some.is c.flip-one.ensures c.if-one-chip.true in
    omega (arith, few.1, here.1, c.len.ensures, counted.3)

pub overflow_add-bits : goal.overflow_add-bits
overflow_add-bits c =
    let counted = c.loop-next.invariant.counted in
    let few = few_due c.args.faults.now.flips c.args.event c.args.chip c.requires.few in
    let here = counted_next c.args.faults.now.flips c.args.event c.args.chip c.loop-next.next counted.0 counted.1 c.in-Some.n c.flip-one.result.now
    c.in-Some.is c.flip-one.ensures c.if-one-chip.true in
    omega (arith, few.1, here.1, c.len.ensures, counted.3)

pub loop-next-preserved : goal.loop-next-preserved
loop-next-preserved c =
    let counted = c.loop-next.invariant.counted in
    let after = left_after c.args.faults.now.flips c.args.event c.in-Some.n c.flip-one.result.now c.loop-next.next c.due-next.result counted.0 counted.1
    c.in-Some.is c.flip-one.ensures c.due-next.ensures.first in
    let many : length (flips_on c.args.chip counted.0) ≡ length (flips_on c.args.chip (c.flip-one.result.now ∷ after.0)) =
    ap (λ fs. length (flips_on c.args.chip fs)) after.1 in
    let bits : bit_count (flips_on c.args.chip counted.0) ≡ bit_count (flips_on c.args.chip (c.flip-one.result.now ∷ after.0)) =
    ap (λ fs. bit_count (flips_on c.args.chip fs)) after.1 in
    elim c.if-one-chip.branch [
      | then-one-chip w ↦
          let count = counted_on c.args.chip c.flip-one.result.now after.0 w.if-one-chip.true in
          record {
            counted = (
              after.0,
              after.2,
              omega (arith, w.pages-is, many, count.0, counted.2),
              omega (arith, w.bits-is, w.len.ensures, bits, count.1, counted.3),
            );
            within = next_within c.args.faults.now.flips c.args.event (c.in-Some.n + 1) c.due-next.result c.due-next.ensures.first;
          }
      | else-one-chip w ↦
          let off = counted_off c.args.chip c.flip-one.result.now after.0 w.if-one-chip.false in
          let fewer : length (flips_on c.args.chip (c.flip-one.result.now ∷ after.0)) ≡ length (flips_on c.args.chip after.0) = ap length off in
          let lighter : bit_count (flips_on c.args.chip (c.flip-one.result.now ∷ after.0)) ≡ bit_count (flips_on c.args.chip after.0) = ap bit_count off in
          record {
            counted = (after.0, after.2, omega (arith, w.pages-is, many, fewer, counted.2), omega (arith, w.bits-is, bits, lighter, counted.3));
            within = next_within c.args.faults.now.flips c.args.event (c.in-Some.n + 1) c.due-next.result c.due-next.ensures.first;
          }
    ]

pub returns-clause-pages : goal.returns-clause-pages
returns-clause-pages c =
    let counted = c.loop-next.invariant.counted in
    let none = counted_none c.args.faults.now.flips c.args.event c.args.chip c.loop-next.next counted.0 counted.1 c.in_default.is in
    omega (arith, none.0, counted.2)

pub returns-clause-bits : goal.returns-clause-bits
returns-clause-bits c =
    let counted = c.loop-next.invariant.counted in
    let none = counted_none c.args.faults.now.flips c.args.event c.args.chip c.loop-next.next counted.0 counted.1 c.in_default.is in
    omega (arith, none.1, counted.3)

pub returns-clause-few : goal.returns-clause-few
returns-clause-few c =
    let counted = c.loop-next.invariant.counted in
    let few = few_due c.args.faults.now.flips c.args.event c.args.chip c.requires.few in
    omega (arith, few.0, counted.2)
