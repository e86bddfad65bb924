use Rattle.std.proofs.Common.{◌≤◌, subst, sym, ◌∙◌}
use Rattle.ctl_core.specs.Past.{Past, turn_limit}
use Rattle.ctl_core.specs.Board.{past_of}
use Rattle.ctl_core.proofs.Limits.{few_turns}
use Rattle.ctl_core.proofs.controller.Core.turn_count.Goals as goal

pub returns-clause-few : goal.returns-clause-few
returns-clause-few g c =
    subst (λ (p : Past g.row.F.Denot). c.len.result ≤ turn_limit g.F.Flash.state p) c.self.view_is
    (subst (λ n. n ≤ turn_limit g.F.Flash.state (past_of c.self.inside.journal))
    (sym (c.len.ensures ∙ c.self.inside.journal.turns.ok.0))
    (few_turns (past_of c.self.inside.journal) c.self.inside.board c.self.invariant))
