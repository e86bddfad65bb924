use Rattle.std.proofs.Common.{sym, ◌∙◌, arith}
use Rattle.plan_grammar.specs.declared.kind.PlanKind.TheVariants.{OutOfChip}
use Rattle.plan_store.proofs.Found.{rule_true}
use Rattle.plan_store.proofs.SessionCounts.{all_below}
use Rattle.plan_store.proofs.boots.session_numbers.Goals as goal

pub short_numbers-requires : goal.short_numbers-requires
short_numbers-requires c =
    all_below c.args.count 64 (omega arith) _
    (sym c.are_sessions.ensures ∙ rule_true c.are_sessions.result OutOfChip c.in_ok-rule.field-0 (sym c.in_ok-rule.ensures))
