use Rattle.std.proofs.Common.{map, arith}
use Rattle.onfi_bus.specs.Lab.{lab_state}
use Rattle.plan_grammar.specs.Meaning.{plan_of}
use Rattle.plan_replay.proofs.Replays.{all_ended, before_all, boot_on, sizes_before}
use Rattle.plan_replay.proofs.replay.replay_report.Goals as goal

pub loop-boot-init : goal.loop-boot-init
loop-boot-init c =
    before_all (plan_of c.args.plan.now) (map (map lab_state) c.in_ok-flashes.flashes) c.in_ok-out.out c.in_ok-flashes.ensures.states c.in_ok-out.ensures

pub run_boot-requires-clause-sizes : goal.run_boot-requires-clause-sizes
run_boot-requires-clause-sizes c =
    sizes_before (plan_of c.args.plan.now) c.loop-boot.boot (map (map lab_state) c.loop-boot.flashes) c.loop-boot.out c.loop-boot.invariant

pub loop-boot-preserved : goal.loop-boot-preserved
loop-boot-preserved c =
    boot_on (plan_of c.args.plan.now) c.loop-boot.boot _ _ c.loop-boot.out c.run_boot.new.out c.loop-boot.invariant c.in_ok-flashes-2.ensures
    (omega (arith, c.loop-boot-test.true, c.boots-boot-end.ensures))

pub returns : goal.returns
returns c =
    all_ended (plan_of c.args.plan.now) c.loop-boot.boot _ c.loop-boot.out c.loop-boot.invariant
    (omega (arith, c.loop-boot-test.false, c.boots-boot-end.ensures))
