use Rattle.std.proofs.Common.{rules, sym}
use Rattle.fault_plan.proofs.ByEvent.{due_first, due_nowhere, due_other}
use Rattle.fault_plan.proofs.Due.{place_due}
use Rattle.fault_plan.proofs.faults.Faults.due.Goals as goal

pub returns-in-Some-clause-first : goal.returns-in-Some-clause-first
returns-in-Some-clause-first c =
    rw (← c.self.view_is) (sym (due_first c.self.inside.flips.items c.self.inside.by_event c.args.event c.args.from c.self.invariant c.in-Some.field-0.now _ _
    c.in-Some.ensures.steps c.if-of-event.true (c.range.ensures.in_range tt)))

pub returns-in-Some-clause-within : goal.returns-in-Some-clause-within
returns-in-Some-clause-within c =
    rw (← c.self.view_is) (place_due c.self.inside.flips.items c.args.event c.args.from c.in-Some.field-0.now.1
    (due_first c.self.inside.flips.items c.self.inside.by_event c.args.event c.args.from c.self.invariant c.in-Some.field-0.now _ _
    c.in-Some.ensures.steps c.if-of-event.true (c.range.ensures.in_range tt)))

pub returns-in_default-clause-first : goal.returns-in_default-clause-first
returns-in_default-clause-first c =
    rw (← c.self.view_is) (sym (due_other c.self.inside.flips.items c.self.inside.by_event c.args.event c.args.from c.self.invariant c.in-Some.field-0.now _ _
    c.in-Some.ensures.steps c.if-of-event.false (c.range.ensures.in_range tt)))

pub returns-in_default-2-clause-first : goal.returns-in_default-2-clause-first
returns-in_default-2-clause-first c =
    rw (← c.self.view_is) (sym (due_nowhere c.self.inside.flips.items c.self.inside.by_event c.args.event c.args.from c.self.invariant _
    (search rules) (c.range.ensures.in_range tt)))
