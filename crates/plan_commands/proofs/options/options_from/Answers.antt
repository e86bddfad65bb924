use Rattle.std.proofs.Common.{sym, ap, length, arith}
use Rattle.std.proofs.lemmas.Result.{err_from_is_err_and}
use Rattle.plan_commands.proofs.Taking.{ends, stops, no_option, not_taken, goes_on, no_more_words}
use Rattle.plan_commands.proofs.options.options_from.Goals as goal

pub returns-in_default : goal.returns-in_default
returns-in_default c =
    ends _ _ _ _ _ c.loop-word.invariant c.iter-next.ensures c.in_default.ensures.steps.0

pub returns-then-not-begins_with_dash : goal.returns-then-not-begins_with_dash
returns-then-not-begins_with_dash c =
    stops _ _ _ _ _ _ _ c.loop-word.invariant c.iter-next.ensures c.in-Some.ensures.steps
    (sym c.if-not-begins_with_dash.ensures)

pub returns-in_err-option : goal.returns-in_err-option
returns-in_err-option c =
    let p = err_from_is_err_and c.from_residual.result c.from_residual.ensures.1 in
    rw (p.1, p.2) (no_option _ _ _ _ _ _ _ _ c.loop-word.invariant c.iter-next.ensures
    c.in-Some.ensures.steps (sym c.if-not-begins_with_dash.ensures) c.in_err-option.ensures)

pub returns-in_err-more : goal.returns-in_err-more
returns-in_err-more c =
    let p = err_from_is_err_and c.from_residual-in_err-more.result c.from_residual-in_err-more.ensures.1 in
    rw (p.1, p.2) (not_taken _ _ _ _ _ _ _ _ _ c.loop-word.invariant c.iter-next.ensures
    c.in-Some.ensures.steps (sym c.if-not-begins_with_dash.ensures) c.in_ok-option.ensures
    c.in_err-more.ensures)

pub loop-word-smaller : goal.loop-word-smaller
loop-word-smaller c =
    let fewer = no_more_words _ _ _ _ _ c.in_ok-more.ensures in
    let next = ap length (sym c.iter-next.ensures) in
    let rest = ap length c.in-Some.ensures.steps in
    omega (arith, fewer, next, rest)

pub loop-word-preserved : goal.loop-word-preserved
loop-word-preserved c =
    goes_on _ _ _ _ _ _ _ _ _ _ c.loop-word.invariant c.iter-next.ensures c.in-Some.ensures.steps
    (sym c.if-not-begins_with_dash.ensures) c.in_ok-option.ensures c.in_ok-more.ensures
