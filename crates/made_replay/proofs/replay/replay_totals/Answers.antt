use Rattle.std.proofs.Common.{map, arith}
use Rattle.onfi_bus.specs.Lab.{lab_state}
use Rattle.plan_grammar.specs.Meaning.{plan_of}
use Rattle.plan_replay.proofs.Replays.{sizes_before}
use Rattle.made_replay.proofs.AddedUp.{all_up, none_before, one_more}
use Rattle.made_replay.proofs.replay.replay_totals.Goals as goal

pub loop-boot-init : goal.loop-boot-init
loop-boot-init c =
    none_before (plan_of c.args.plan.now) (map (map lab_state) c.in_ok-flashes.flashes) c.new.result c.in_ok-flashes.ensures.states c.new.ensures

pub add_boot-requires-clause-sizes : goal.add_boot-requires-clause-sizes
add_boot-requires-clause-sizes c =
    let h = c.loop-boot.invariant in
    sizes_before (plan_of c.args.plan.now) c.loop-boot.boot (map (map lab_state) c.loop-boot.flashes) h.text h.been

pub loop-boot-preserved : goal.loop-boot-preserved
loop-boot-preserved c =
    one_more (plan_of c.args.plan.now) c.loop-boot.boot (map (map lab_state) c.loop-boot.flashes) (map (map lab_state) c.in_ok-left.left.flashes)
    c.loop-boot.totals.sums c.add_boot.new.sums c.loop-boot.totals.bad_blocks c.in_ok-left.left.bad_blocks c.loop-boot.invariant c.in_ok-left.ensures
    (omega (arith, c.loop-boot-test.true, c.boots-boot-end.ensures))

pub returns : goal.returns
returns c =
    all_up (plan_of c.args.plan.now) c.loop-boot.boot (map (map lab_state) c.loop-boot.flashes) c.loop-boot.totals c.loop-boot.invariant
    (omega (arith, c.loop-boot-test.false, c.boots-boot-end.ensures))
