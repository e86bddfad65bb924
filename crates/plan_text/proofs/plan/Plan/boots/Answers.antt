use Rattle.std.proofs.Common.{length, ap, subst, arith}
use Rattle.plan_grammar.specs.declared.lines.PlanLines.{PlanLines}
use Rattle.plan_text.specs.Plan.{IsOfBytes}
use Rattle.plan_text.proofs.WasRead.{few_boots}
use Rattle.plan_text.proofs.plan.Plan.boots.Goals as goal

pub overflow_cast-result : goal.overflow_cast-result
overflow_cast-result c =
    let read = subst IsOfBytes c.self.view_is c.self.invariant.read in
    let lent = ap (λ (p : PlanLines). length p.boots) c.lines.ensures in
    omega (arith, few_boots c.args.self.now read, lent, c.len.ensures)
