use Rattle.std.proofs.Common.{◌∙◌, ap, subst, arith}
use Rattle.std.specs.Prelude.{sum_by}
use Rattle.plan_grammar.specs.declared.lines.PlanLines.{PlanLines}
use Rattle.plan_text.specs.Counts.{weak_lines}
use Rattle.plan_text.specs.Plan.{IsOfBytes}
use Rattle.plan_text.proofs.LineCounts.{few_weak, weak_counted}
use Rattle.plan_text.proofs.plan.Plan.weak.Goals as goal

pub all_weak-requires : goal.all_weak-requires
all_weak-requires c =
    let read = subst IsOfBytes c.self.view_is c.self.invariant.read in
    let lent = ap (λ (p : PlanLines). sum_by (sum_by (weak_lines c.args.kind)) p.controllers) c.lines.ensures in
    omega (arith, few_weak c.args.kind c.args.self.now read, lent)

pub overflow_cast-result : goal.overflow_cast-result
overflow_cast-result c =
    let read = subst IsOfBytes c.self.view_is c.self.invariant.read in
    let lent = ap (λ (p : PlanLines). sum_by (sum_by (weak_lines c.args.kind)) p.controllers) c.lines.ensures in
    omega (arith, few_weak c.args.kind c.args.self.now read, lent, c.all_weak.ensures)

pub returns : goal.returns
returns c =
    c.all_weak.ensures ∙ ap (λ (p : PlanLines). sum_by (sum_by (weak_lines c.args.kind)) p.controllers) c.lines.ensures
    ∙ weak_counted c.args.kind c.args.self.now
