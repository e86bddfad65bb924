use Rattle.std.proofs.Common.{◌∙◌, subst, arith}
use Rattle.plan_text.specs.Plan.{IsOfBytes}
use Rattle.plan_text.proofs.WasRead.{few_sessions, boot_sessions}
use Rattle.plan_text.proofs.plan.Plan.sessions.Goals as goal

pub overflow_cast-result : goal.overflow_cast-result
overflow_cast-result c =
    let read = subst IsOfBytes c.self.view_is c.self.invariant.read in
    omega (arith, few_sessions c.args.self.now c.args.boot c.boot_lines.result.now read c.boot_lines.ensures, c.len.ensures)

pub returns : goal.returns
returns c = c.len.ensures ∙ boot_sessions c.args.self.now c.args.boot c.boot_lines.result.now c.boot_lines.ensures
