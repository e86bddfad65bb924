use Rattle.std.proofs.Common.{map}
use Rattle.onfi_bus.specs.Lab.{lab_state}
use Rattle.plan_grammar.specs.Meaning.{plan_of}
use Rattle.plan_replay.specs.Boots.{HaveBeenThrough}
use Rattle.plan_replay.proofs.replay.replay_report.Given as goal

-- all controllers have been through the boots so far
abbrev pub invariant-loop-boot : goal.invariant-loop-boot
invariant-loop-boot l = HaveBeenThrough (plan_of l.plan) l.boot (map (map lab_state) l.flashes) l.out
