use Rattle.std.proofs.Common.{◌≡◌, arith, subst, length, true}
use Rattle.std.specs.BTreeSet.{Updates}
use Rattle.fault_plan.specs.ByEvent.{cmp_event}
use Rattle.fault_plan.proofs.ByEvent.{by_event-appended}
use Rattle.fault_plan.proofs.faults.Faults.push.Goals as goal

pub invariant_of-self-2 : goal.invariant_of-self-2
invariant_of-self-2 c =
    let many : c.len.result ≡ length c.self.inside.flips.items = omega (arith, c.len.ensures, c.in_ok-reserve.ensures.len, c.self.inside.flips.ok.0) in
    rw (c.push_reserved.ensures.items, c.in_ok-reserve.ensures.items)
    (by_event-appended c.self.inside.flips.items c.args.flip c.self.inside.by_event c.insert.new.self c.self.invariant
    (subst (λ n. Updates cmp_event c.self.inside.by_event c.insert.new.self (c.args.flip.before, n) true) many c.in_ok-insert.ensures.updates))
