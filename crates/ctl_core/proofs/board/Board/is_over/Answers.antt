use Rattle.std.proofs.Common.{◌∙◌}
use Rattle.ctl_core.specs.Board.{past_of}
use Rattle.ctl_core.proofs.CoreSteps.{attaching_in_slots}
use Rattle.ctl_core.proofs.FirstAndLast.{over_where_dark, over_where_done, not_over_where_attaching}
use Rattle.ctl_core.proofs.board.Board.is_over.Goals as goal

pub returns-then-self : goal.returns-then-self
returns-then-self g c = c.if-self.true ∙ over_where_dark (past_of c.args.journal.now) c.args.self.now c.requires c.if-self.true

pub returns-then-is_none : goal.returns-then-is_none
returns-then-is_none g c =
    over_where_done (past_of c.args.journal.now) c.args.self.now c.requires c.if-self.false c.is_none.result c.all_done.result c.first_attaching.result
    (c.first_attaching.ensures ∙ attaching_in_slots c.args.self.now) c.is_none.ensures c.if-is_none.true c.all_done.ensures

pub returns-else-is_none : goal.returns-else-is_none
returns-else-is_none g c =
    not_over_where_attaching (past_of c.args.journal.now) c.args.self.now c.requires c.if-self.false c.is_none.result c.first_attaching.result
    (c.first_attaching.ensures ∙ attaching_in_slots c.args.self.now) c.is_none.ensures c.if-is_none.false
