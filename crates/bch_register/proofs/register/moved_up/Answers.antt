use Rattle.std.proofs.Common.{◌∙◌}
use Rattle.bch_register.proofs.RegisterLemmas.{moved-large, moved-small, top_from_bit, below_from_bit}
use Rattle.bch_register.proofs.register.moved_up.Goals as goal

pub returns-then-bit-clause-value : goal.returns-then-bit-clause-value
returns-then-bit-clause-value c =
    let shift = c.shl-moved.ensures in
    let sum = c.bitxor-reduced.ensures in
    sum.0 ∙ moved-large 255 c.args.register c.args.modulus c.shl-moved.result shift.2 sum.3 (top_from_bit 255 c.args.register (c.bit.ensures.0 c.if-bit.true)) shift.0

pub returns-else-bit-clause-value : goal.returns-else-bit-clause-value
returns-else-bit-clause-value c =
    let shift = c.shl-moved.ensures in
    moved-small 255 c.args.register c.args.modulus c.shl-moved.result (below_from_bit 255 c.args.register shift.2 (λ e. let t = c.bit.ensures.1 e in cc)) shift.0
