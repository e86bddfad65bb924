use Rattle.std.proofs.Common.{◌∙◌, true, length, sym, ap, refl, arith, length-set}
use Rattle.std.proofs.lemmas.Bool.{not-false}
use Rattle.plan_index.specs.Places.{flag_at}
use Rattle.plan_index.proofs.Runs.{run_none, run_more, after_run, free_more}
use Rattle.plan_index.proofs.marks.take_run.Goals as goal

pub loop-place-init : goal.loop-place-init
loop-place-init c = record { as_long = refl; free = λ n from below. absurd (omega arith); taken = run_none c.args.flags.now c.args.start }

pub returns-then-not-take_place-clause-free : goal.returns-then-not-take_place-clause-free
returns-then-not-take_place-clause-free c =
    let taken = not-false (flag_at c.loop-place.flags c.loop-place.place) (sym c.take_place.ensures.free ∙ c.if-not-take_place.true) in (
      c.loop-place.place,
      omega arith,
      omega arith,
      sym (after_run c.args.flags.now c.loop-place.flags c.args.start c.loop-place.place c.loop-place.invariant.taken) ∙ taken,
    )

pub loop-place-preserved : goal.loop-place-preserved
loop-place-preserved c = record {
  as_long = ap length c.take_place.ensures.taken ∙ length-set c.loop-place.flags c.loop-place.place true ∙ c.loop-place.invariant.as_long;
  free = free_more c.args.flags.now c.loop-place.flags c.args.start c.loop-place.place c.loop-place.invariant.taken c.loop-place.invariant.free
      (sym c.take_place.ensures.free ∙ c.if-not-take_place.false);
  taken = run_more c.args.flags.now c.loop-place.flags c.take_place.new.flags c.args.start c.loop-place.place c.loop-place.invariant.taken
      (omega arith) (omega arith) c.take_place.ensures.taken;
}
