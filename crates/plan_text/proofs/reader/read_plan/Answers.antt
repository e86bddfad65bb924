use Rattle.std.proofs.Common.{length, ap, sym, subst, arith}
use Rattle.plan_grammar.specs.declared.lines.PlanLines.{PlanLines}
use Rattle.plan_grammar.specs.Grammar.{TooLong}
use Rattle.plan_grammar.specs.Meaning.{plan_of}
use Rattle.plan_laws.specs.Within.{IsWithinLimits}
use Rattle.plan_text.proofs.WasRead.{limits_of}
use Rattle.plan_text.proofs.ReadLines.{reading_ends, reading_ends_early}
use Rattle.plan_text.proofs.reader.read_plan.Goals as goal

pub returns-then-bytes-gt-MOST_BYTES-clause-refused : goal.returns-then-bytes-gt-MOST_BYTES-clause-refused
returns-then-bytes-gt-MOST_BYTES-clause-refused c = TooLong c.if-bytes-gt-MOST_BYTES.true

pub returns-then-len-eq0-clause-refused : goal.returns-then-len-eq0-clause-refused
returns-then-len-eq0-clause-refused c =
    let lent = ap (λ (p : PlanLines). length p.boots) c.lines.ensures in
    let count = c.len.ensures in
    reading_ends_early c.args.bytes.now c.in_ok-draft.draft c.in_ok-draft.lines c.in_ok-draft.ensures
    (omega (arith, c.if-bytes-gt-MOST_BYTES.false)) (omega (arith, lent, count))

pub returns-clause-limits : goal.returns-clause-limits
returns-clause-limits c =
    let lent = ap (λ (p : PlanLines). length p.boots) c.lines.ensures in
    let count = c.len.ensures in
    let read = reading_ends c.args.bytes.now c.in_ok-draft.draft c.in_ok-draft.lines c.in_ok-draft.ensures
    (omega (arith, c.if-bytes-gt-MOST_BYTES.false)) (omega (arith, lent, count, c.if-len-eq0.false)) in
    subst (λ (p : PlanLines). IsWithinLimits (plan_of p)) (sym c.in_ok-of.ensures) (limits_of c.in_ok-draft.draft (c.args.bytes.now, read))
