use Rattle.std.proofs.Common.{length, sym, ap, arith}
use Rattle.std.proofs.lemmas.Result.{err_from_is_err_and}
use Rattle.plan_words.proofs.Growing.{no_more}
use Rattle.plan_words.proofs.Spans.{one_more_span, no_span, last_span}
use Rattle.plan_words.proofs.tears.spans.Goals as goal

pub loop-first-init : goal.loop-first-init
loop-first-init c = rw c.new-found.ensures (sym (no_more _))

pub returns-in_err-span : goal.returns-in_err-span
returns-in_err-span c =
    let p = err_from_is_err_and c.from_residual.result c.from_residual.ensures.1 in
    rw (p.1, p.2) (no_span _ _ _ _ _ _ _ c.loop-first.invariant c.in-Some.ensures (sym c.in_err-span.ensures))

pub loop-first-smaller : goal.loop-first-smaller
loop-first-smaller c =
    let shorter = ap length c.in-Some.ensures in
    omega (arith, shorter)

pub loop-first-preserved : goal.loop-first-preserved
loop-first-preserved c =
    one_more_span _ _ _ _ _ _ _ _ c.loop-first.invariant c.in-Some.ensures (sym c.in_ok-span.ensures)
    c.in_ok-append.ensures.ok

pub returns-in_err-span_from : goal.returns-in_err-span_from
returns-in_err-span_from c =
    let p = err_from_is_err_and c.from_residual-in_err-span_from.result c.from_residual-in_err-span_from.ensures.1 in
    rw (p.1, p.2) (no_span _ _ _ _ _ _ _ c.loop-first.invariant c.in_default.ensures (sym c.in_err-span_from.ensures))

pub returns : goal.returns
returns c =
    last_span _ _ _ _ _ _ _ c.loop-first.invariant c.in_default.ensures (sym c.in_ok-span_from.ensures)
    c.in_ok-append-2.ensures.ok
