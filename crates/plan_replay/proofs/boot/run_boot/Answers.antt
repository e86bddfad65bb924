use Rattle.std.proofs.Common.{◌≡◌, map}
use Rattle.std.proofs.lemmas.Result.{IfOk-weaker}
use Rattle.onfi_bus.specs.Lab.{lab_state}
use Rattle.plan_grammar.specs.Meaning.{plan_of}
use Rattle.plan_replay.specs.Boots.{EndBoot, states_left}
use Rattle.plan_replay.proofs.Through.{boot_ended, by_notes}
use Rattle.plan_replay.proofs.boot.run_boot.Goals as goal

pub put_sessions-requires-clause-ended : goal.put_sessions-requires-clause-ended
put_sessions-requires-clause-ended c =
    by_notes (plan_of c.args.plan.now) c.args.boot (map (map lab_state) c.args.flashes) c.in_ok-ends.ends c.put_boot.new.out c.run_controllers.new.out
    c.in_ok-ends.ensures

pub returns : goal.returns
returns c =
    IfOk-weaker c.flashes_left.result (λ flashes. map (map lab_state) flashes ≡ states_left c.in_ok-ends.ends)
    (λ left. EndBoot (plan_of c.args.plan.now) c.args.boot (map (map lab_state) c.args.flashes) (map (map lab_state) left) c.args.out.now c.put_boot_end.new.out)
    (λ left are. boot_ended (plan_of c.args.plan.now) c.args.boot (map (map lab_state) c.args.flashes) (map (map lab_state) left) c.in_ok-ends.ends
    c.args.out.now c.put_boot.new.out c.run_controllers.new.out c.put_sessions.new.out c.put_all_devices.new.out c.put_boot_end.new.out
    c.in_ok-put_boot.ensures c.in_ok-ends.ensures c.in_ok-put_sessions.ensures c.in_ok-put_all_devices.ensures c.in_ok-put_boot_end.ensures are)
    c.flashes_left.ensures
