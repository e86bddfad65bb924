use Rattle.std.proofs.Common.{◌∙◌, ap, subst, arith}
use Rattle.std.specs.Prelude.{sum_by}
use Rattle.plan_grammar.specs.declared.lines.PlanLines.{PlanLines}
use Rattle.plan_grammar.specs.Faults.{flips_of}
use Rattle.plan_text.specs.Plan.{IsOfBytes}
use Rattle.plan_text.proofs.LineCounts.{few_flips, flips_counted}
use Rattle.plan_text.proofs.plan.Plan.flips.Goals as goal

pub all_flips-requires : goal.all_flips-requires
all_flips-requires c =
    let read = subst IsOfBytes c.self.view_is c.self.invariant.read in
    let lent = ap (λ (p : PlanLines). sum_by flips_of p.boots) c.lines.ensures in
    omega (arith, few_flips c.args.self.now read, lent)

pub overflow_cast-result : goal.overflow_cast-result
overflow_cast-result c =
    let read = subst IsOfBytes c.self.view_is c.self.invariant.read in
    let lent = ap (λ (p : PlanLines). sum_by flips_of p.boots) c.lines.ensures in
    omega (arith, few_flips c.args.self.now read, lent, c.all_flips.ensures)

pub returns : goal.returns
returns c = c.all_flips.ensures ∙ ap (λ (p : PlanLines). sum_by flips_of p.boots) c.lines.ensures ∙ flips_counted c.args.self.now
