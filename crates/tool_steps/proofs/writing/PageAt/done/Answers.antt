use Rattle.std.proofs.Common.{◌∙◌, arith}
use Rattle.tool_steps.proofs.Writes.{pages_left-next}
use Rattle.tool_steps.proofs.writing.PageAt.done.Goals as goal

pub returns : goal.returns
returns c = λ bytes. c.next.ensures bytes ∙ pages_left-next c.args.g.now bytes c.args.self.at c.args.self.written (omega (arith, c.args.self.units_left))
