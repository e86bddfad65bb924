use Rattle.std.proofs.Common.{◌∙◌, ap, sym}
use Rattle.std.specs.Prelude.{option_map}
use Rattle.chip_paths.specs.ChipRun.{name_of}
use Rattle.chip_paths.specs.Stage.{stage_event}
use Rattle.chip_core.specs.Phase.{phase_stage}
use Rattle.chip_core.proofs.Advancing.{task_event_is}
use Rattle.chip_core.proofs.chip.Chip.next_event.Goals as goal

pub returns-in-Working : goal.returns-in-Working
returns-in-Working g c =
    let known = c.args.self.now.known in
    c.event-in-Working.ensures known.table ∙ ap (option_map name_of) (task_event_is known c.in-Working.task)
    ∙ sym (ap (λ p. option_map name_of (stage_event (phase_stage known p))) c.in-Working.is)
