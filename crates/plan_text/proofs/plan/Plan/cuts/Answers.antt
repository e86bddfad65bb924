use Rattle.std.proofs.Common.{◌∙◌, ap, subst, arith}
use Rattle.std.specs.Prelude.{sum_by}
use Rattle.plan_grammar.specs.declared.lines.PlanLines.{PlanLines}
use Rattle.plan_text.specs.Counts.{cuts_of}
use Rattle.plan_text.specs.Plan.{IsOfBytes}
use Rattle.plan_text.proofs.LineCounts.{few_cuts, cuts_counted}
use Rattle.plan_text.proofs.plan.Plan.cuts.Goals as goal

pub all_cuts-requires : goal.all_cuts-requires
all_cuts-requires c =
    let read = subst IsOfBytes c.self.view_is c.self.invariant.read in
    let lent = ap (λ (p : PlanLines). sum_by cuts_of p.boots) c.lines.ensures in
    omega (arith, few_cuts c.args.self.now read, lent)

pub overflow_cast-result : goal.overflow_cast-result
overflow_cast-result c =
    let read = subst IsOfBytes c.self.view_is c.self.invariant.read in
    let lent = ap (λ (p : PlanLines). sum_by cuts_of p.boots) c.lines.ensures in
    omega (arith, few_cuts c.args.self.now read, lent, c.all_cuts.ensures)

pub returns : goal.returns
returns c = c.all_cuts.ensures ∙ ap (λ (p : PlanLines). sum_by cuts_of p.boots) c.lines.ensures ∙ cuts_counted c.args.self.now
