use Rattle.std.proofs.Common.{map}
use Rattle.onfi_bus.specs.Lab.{lab_state}
use Rattle.plan_grammar.specs.Meaning.{plan_of}
use Rattle.made_replay.proofs.AddedUp.{AddUp}
use Rattle.made_replay.proofs.replay.replay_totals.Given as goal

-- the boots so far are added up
abbrev pub invariant-loop-boot : goal.invariant-loop-boot
invariant-loop-boot l = AddUp (plan_of l.plan) l.boot (map (map lab_state) l.flashes) l.totals.sums l.totals.bad_blocks
