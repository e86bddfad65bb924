use Rattle.std.proofs.Common.{◌++◌, ◌∙◌, ap, subst}
use Rattle.plan_grammar.specs.Meaning.{plan_of}
use Rattle.made_plan.specs.Summary.{summary_of_run}
use Rattle.made_replay.specs.AddedUp.{AreTotalsOf}
use Rattle.made_replay.specs.Summary.{plan_of_number}
use Rattle.made_replay.proofs.summary.made_summary.Goals as goal

pub returns : goal.returns
returns c =
    let totals : AreTotalsOf (plan_of_number c.args.n) c.in_ok-totals.totals =
    subst (λ lines. AreTotalsOf (plan_of lines) c.in_ok-totals.totals) c.in_ok-plan.ensures c.in_ok-totals.ensures in
    record {
      report = totals.report;
      replay = totals.replay;
      printed = c.in_ok-put_summary.ensures.of_run (plan_of_number c.args.n) totals.replay.courses totals.sums_are totals.bad_are
          ∙ ap (λ text. text ++ summary_of_run c.args.n (plan_of_number c.args.n) totals.replay.courses) c.in_ok-text.ensures;
    }
