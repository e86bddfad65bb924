use Rattle.std.proofs.Common.{◌≡◌, ◌*◌, ◌+◌, ◌^◌, sym, ap₂, ◌∙◌}
use Rattle.std.specs.Prelude.{bit_xor}
use Rattle.std.proofs.lemmas.Nat.{xor_lt, xor_block}
use Rattle.u256.proofs.ShiftLemmas.{joined-lt, in_range}
use Rattle.u256.proofs.number.U256BitXor.bitxor.Goals as goal

pub invariant_of-result : goal.invariant_of-result
invariant_of-result c =
    let a = c.self.inside in
    let b = c.rhs.inside in
    (xor_lt 128 a.high b.high c.self.invariant.0 c.rhs.invariant.0, xor_lt 128 a.low b.low c.self.invariant.1 c.rhs.invariant.1)

pub returns : goal.returns
returns c =
    let a = c.self.inside in
    let b = c.rhs.inside in
    let value : bit_xor a.high b.high * 2 ^ 128 + bit_xor a.low b.low ≡ bit_xor c.args.self c.args.rhs =
    (sym (xor_block 128 a.high b.high a.low b.low c.self.invariant.1 c.rhs.invariant.1) ∙ ap₂ bit_xor c.self.view_is c.rhs.view_is) in
    let h = xor_lt 128 a.high b.high c.self.invariant.0 c.rhs.invariant.0 in
    let l = xor_lt 128 a.low b.low c.self.invariant.1 c.rhs.invariant.1 in
    (value, joined-lt (bit_xor a.high b.high) (bit_xor a.low b.low) h l, in_range a c.args.self c.self.invariant c.self.view_is, in_range b c.args.rhs c.rhs.invariant c.rhs.view_is)
