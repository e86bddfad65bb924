use Rattle.std.proofs.Common.{◌*◌, ◌%◌, ◌^◌, ap, ◌∙◌, arith}
use Rattle.u256.proofs.ShiftLemmas.{in_range, shl_small, shl_small-high, shl_large, low_bits-lt}
use Rattle.u256.proofs.number.U256ShlU32.shl.Goals as goal

pub invariant_of-t-6 : goal.invariant_of-t-6
invariant_of-t-6 c =
    let a = c.self.inside in
    (shl_small-high a.high a.low c.args.rhs (omega arith) c.self.invariant.1, omega arith)

pub returns-then-rhs-lt128 : goal.returns-then-rhs-lt128
returns-then-rhs-lt128 c =
    let a = c.self.inside in
    let n = c.args.rhs in
    let value = shl_small a.high a.low n (omega arith) c.self.invariant.0 c.self.invariant.1 ∙ ap (λ x. x * 2 ^ n % 2 ^ 256) c.self.view_is in
    (value, low_bits-lt _ _ value, in_range a c.args.self c.self.invariant c.self.view_is)

pub returns-else-rhs-lt128 : goal.returns-else-rhs-lt128
returns-else-rhs-lt128 c =
    let a = c.self.inside in
    let n = c.args.rhs in
    let value = shl_large a.high a.low n (omega arith) c.requires ∙ ap (λ x. x * 2 ^ n % 2 ^ 256) c.self.view_is in
    (value, low_bits-lt _ _ value, in_range a c.args.self c.self.invariant c.self.view_is)
