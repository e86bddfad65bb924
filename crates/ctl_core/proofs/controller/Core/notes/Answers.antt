use Rattle.std.proofs.Common.{ap, ◌∙◌, sym, subst}
use Rattle.run_model.specs.Run.{AreInOrder}
use Rattle.run_laws.proofs.Faithful.{faithful}
use Rattle.ctl_core.specs.Past.{Past, starts_of, course_of}
use Rattle.ctl_core.specs.Board.{past_of}
use Rattle.ctl_core.proofs.Sessions.{one_number_each}
use Rattle.ctl_core.proofs.controller.Core.notes.Goals as goal

pub returns-clause-notes : goal.returns-clause-notes
returns-clause-notes g c = c.self.invariant.stands.keeps.of_notes ∙ ap (λ (p : Past g.row.F.Denot). (course_of g.F.Flash.fault_model g.F.Flash.state p).notes)
    c.self.view_is

pub returns-clause-one_thread : goal.returns-clause-one_thread
returns-clause-one_thread g c = faithful g.F.Flash.fault_model c.args.self.now.boot (starts_of g.F.Flash.state c.args.self.now) c.args.self.now.attaches
    c.args.self.now.turns

pub returns-clause-in_order : goal.returns-clause-in_order
returns-clause-in_order g c =
    let past = past_of c.self.inside.journal in
    subst (λ (p : Past g.row.F.Denot). AreInOrder p.boot (starts_of g.F.Flash.state p) c.self.inside.board.notes.notes) c.self.view_is
    (subst (AreInOrder past.boot (starts_of g.F.Flash.state past)) (sym c.self.invariant.stands.keeps.of_notes)
    ((faithful g.F.Flash.fault_model past.boot (starts_of g.F.Flash.state past) past.attaches past.turns).in_order
    (one_number_each past.boot.sessions c.self.invariant.conditions.ascending)))
