use Rattle.std.proofs.Common.{◌≡◌, ◌++◌, ◌≤◌, inl, inr, ℕ, List, Some, None, length, take, ap, sym, ◌∙◌, arith, append_assoc}
use Rattle.std.specs.Prelude.{slice_get, option_copied, option_map}
use Rattle.std.proofs.lemmas.Option.{slice_get_within}
use Rattle.nand_model.specs.declared.words.Command.{Command}
use Rattle.nand_model.specs.declared.words.Outcome.{Outcome}
use Rattle.report_model.specs.Report.{outcome_lines, outcome_text}
use Rattle.plan_grammar.specs.Meaning.{plan_of}
use Rattle.plan_text.specs.Plan.{session_at}
use Rattle.ctl_core.proofs.FirstAndLast.{past_end}
use Rattle.plan_replay.proofs.Lines.{all_outcomes, next_outcome}
use Rattle.plan_replay.proofs.sessions.put_outcomes.Goals as goal

pub loop-n-preserved : goal.loop-n-preserved
loop-n-preserved c =
    let n : ℕ = c.loop-n.n in
    let commands : List Command = (session_at (plan_of c.args.plan.now) c.args.boot c.args.session).commands in
    let outcomes : List Outcome = c.args.end.now.outcomes in
    let command : Command = c.in-Some.command.now in
    let at_command : slice_get commands n ≡ Some command = sym c.in-Some.ensures in
    let below = slice_get_within commands n command at_command in
    c.in_ok-put_outcome.ensures
    ∙ ap (λ o. o ++ outcome_text command c.get.result.now) c.loop-n.invariant
    ∙ append_assoc c.args.out.now (outcome_lines (take n commands) (take n outcomes)) (outcome_text command c.get.result.now)
    ∙ ap (λ t. c.args.out.now ++ t) (sym (next_outcome commands outcomes n command c.get.result.now at_command c.get.ensures (omega (arith, below))
    (omega (arith, c.loop-n-test.true, c.len-n-end.ensures))))

pub returns : goal.returns
returns c =
    let n : ℕ = c.loop-n.n in
    let commands : List Command = (session_at (plan_of c.args.plan.now) c.args.boot c.args.session).commands in
    let outcomes : List Outcome = c.args.end.now.outcomes in
    c.loop-n.invariant ∙ ap (λ t. c.args.out.now ++ t) (all_outcomes commands outcomes n (inr (omega (arith, c.loop-n-test.false, c.len-n-end.ensures))))

pub returns-in_default : goal.returns-in_default
returns-in_default c =
    let n : ℕ = c.loop-n.n in
    let commands : List Command = (session_at (plan_of c.args.plan.now) c.args.boot c.args.session).commands in
    let outcomes : List Outcome = c.args.end.now.outcomes in
    let none : slice_get commands n ≡ None = sym c.command.ensures ∙ ap option_copied c.in_default.is in
    let past : length commands ≤ n = past_end (λ (x : Command). x) commands n (ap (option_map (λ (x : Command). x)) none) in
    c.loop-n.invariant ∙ ap (λ t. c.args.out.now ++ t) (all_outcomes commands outcomes n (inl past))
