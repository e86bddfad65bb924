use Rattle.std.proofs.Common.{ap, sym, subst}
use Rattle.nand_model.specs.Chip.{PageEvent, ProgramEvent}
use Rattle.nand_model.specs.declared.geometry.Geometry.{Geometry}
use Rattle.chip_core.specs.Task.{StaysSo, marker_event, task_event}
use Rattle.chip_core.specs.Torn.{IsTorn}
use Rattle.chip_core.specs.declared.task.Task.TheVariants.{Marker}
use Rattle.chip_core.proofs.Named.{of_some}
use Rattle.chip_core.proofs.task.Task.tear.Goals as goal

pub returns-in-Programming-clause-torn : goal.returns-in-Programming-clause-torn
returns-in-Programming-clause-torn g c =
    let known = c.args.known.now in
    let at = c.in-Programming in
    let Torn : PageEvent → Type 0 = IsTorn g.F.Flash.fault_model c.args.tear.now (g.F.Flash.state c.args.flash.now)
    (g.F.Flash.state c.tear_program-fairness.new.flash) c.tear_program-fairness.result in
    of_some Torn (task_event known.geometry known.table c.args.self) (ProgramEvent at.page at.image)
    (ap (task_event known.geometry known.table) at.is)
    (subst (λ image. Torn (ProgramEvent at.page image)) c.as_slice.ensures c.tear_program-fairness.ensures.torn)

pub returns-in-Marker-clause-torn : goal.returns-in-Marker-clause-torn
returns-in-Marker-clause-torn g c =
    let known = c.args.known.now in
    let at = c.in-Marker in
    let Torn : PageEvent → Type 0 = IsTorn g.F.Flash.fault_model c.args.tear.now (g.F.Flash.state c.args.flash.now)
    (g.F.Flash.state c.tear_marker.new.flash) c.tear_marker.result.1 in
    of_some Torn (task_event known.geometry known.table c.args.self) (marker_event known.geometry at.block)
    (ap (task_event known.geometry known.table) at.is)
    (subst (λ (h : Geometry). Torn (marker_event h at.block)) c.requires.judge c.tear_marker.ensures.torn)

pub returns-in-Marker-clause-stays : goal.returns-in-Marker-clause-stays
returns-in-Marker-clause-stays g c =
    let known = c.args.known.now in
    let at = c.in-Marker in
    subst (λ task. StaysSo known.geometry known.table task c.tear_marker.result.0) (sym at.is)
    (subst (λ (h : Geometry). StaysSo h known.table (Marker at.block at.image) c.tear_marker.result.0) c.requires.judge
    (c.tear_marker.ensures.stays known.table))
