use Rattle.std.proofs.Common.{map, ap, sym, subst, subst₂, ◌∙◌}
use Rattle.std.specs.Prelude.{All}
use Rattle.nand_model.specs.Chip.{SimFaults}
use Rattle.ctl_core.specs.Start.{CanStart}
use Rattle.plan_grammar.specs.Meaning.{plan_of}
use Rattle.plan_laws.specs.Ready.{boot_at, chips_at}
use Rattle.ctl_core.specs.Start.{HasSession}
use Rattle.onfi_bus.specs.Lab.{lab_state}
use Rattle.plan_replay.proofs.Own.{own_turns}
use Rattle.plan_replay.proofs.Starts.{can_start}
use Rattle.plan_replay.proofs.controller.replayed.Goals as goal

pub start-requires : goal.start-requires
start-requires c =
    subst (λ part. CanStart {W = SimFaults} part (map lab_state c.args.flashes)) (sym c.in_ok-part.ensures)
    (can_start c.args.plan.now c.args.boot c.args.controller (map lab_state c.args.flashes) c.was_read.ensures c.requires.boots c.requires.controllers
    c.requires.sizes)

pub replay-requires-clause-own : goal.replay-requires-clause-own
replay-requires-clause-own c =
    subst₂ (λ part turns. All (HasSession part) turns) (sym (ap (λ core. core.boot) c.in_ok-core.ensures ∙ c.in_ok-part.ensures)) (sym c.in_ok-schedule.ensures)
    (own_turns (plan_of c.args.plan.now) c.args.controller (chips_at (plan_of c.args.plan.now) c.args.controller)
    (boot_at (plan_of c.args.plan.now) c.args.boot))
