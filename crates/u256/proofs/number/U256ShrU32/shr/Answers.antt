use Rattle.std.proofs.Common.{◌/◌, ◌-◌, ◌^◌, ap, ◌∙◌, arith}
use Rattle.u256.proofs.ShiftLemmas.{in_range, shr_small, shr_small-low, shr_large, quotient-lt, joined-lt}
use Rattle.u256.proofs.number.U256ShrU32.shr.Goals as goal

pub invariant_of-t-6 : goal.invariant_of-t-6
invariant_of-t-6 c =
    let a = c.self.inside in
    (quotient-lt a.high (2 ^ c.args.rhs) (2 ^ 128) c.self.invariant.0, shr_small-low a.high a.low c.args.rhs (omega arith) c.self.invariant.1)

pub returns-then-rhs-lt128 : goal.returns-then-rhs-lt128
returns-then-rhs-lt128 c =
    let a = c.self.inside in
    let n = c.args.rhs in
    let value = shr_small a.high a.low n (omega arith) c.self.invariant.1 ∙ ap (λ x. x / 2 ^ n) c.self.view_is in
    (value, joined-lt _ _ (quotient-lt a.high (2 ^ n) (2 ^ 128) c.self.invariant.0) (shr_small-low a.high a.low n (omega arith) c.self.invariant.1), in_range a c.args.self c.self.invariant c.self.view_is)

pub returns-else-rhs-lt128 : goal.returns-else-rhs-lt128
returns-else-rhs-lt128 c =
    let a = c.self.inside in
    let n = c.args.rhs in
    let value = shr_large a.high a.low n (omega arith) c.self.invariant.1 ∙ ap (λ x. x / 2 ^ n) c.self.view_is in
    (value, joined-lt 0 _ (omega arith) (quotient-lt a.high (2 ^ (n - 128)) (2 ^ 128) c.self.invariant.0), in_range a c.args.self c.self.invariant c.self.view_is)
