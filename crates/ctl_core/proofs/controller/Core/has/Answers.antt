use Rattle.std.proofs.Common.{sym, ◌∙◌, subst}
use Rattle.std.specs.Prelude.{IsTrue, ◌↔◌}
use Rattle.ctl_core.specs.Past.{Past}
use Rattle.ctl_core.specs.Start.{HasSession}
use Rattle.ctl_core.specs.Board.{past_of}
use Rattle.ctl_core.proofs.CoreSteps.{has_found}
use Rattle.ctl_core.proofs.controller.Core.has.Goals as goal

pub returns : goal.returns
returns g c =
    let found = has_found (past_of c.self.inside.journal) c.self.inside.board c.self.invariant c.args.session c.place_of.result c.place_of.ensures in
    subst (λ (p : Past g.row.F.Denot). IsTrue c.is_some.result ↔ HasSession p.boot c.args.session) c.self.view_is
    ((λ h. found.0 (sym c.is_some.ensures ∙ h)), (λ h. c.is_some.ensures ∙ found.1 h))
