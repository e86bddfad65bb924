use Rattle.std.proofs.Common.{◌≡◌, ◌<◌, length, arith}
use Rattle.bch_quick.proofs.MaskLemmas.{xor-none, xor_more, xor_all}
use Rattle.bch_quick.proofs.masks.put_mask.Goals as goal

pub loop-i-init : goal.loop-i-init
loop-i-init c = xor-none c.args.parity.now c.args.mask.now

pub loop-i-preserved : goal.loop-i-preserved
loop-i-preserved c =
    let inside : c.loop-i.i < length c.args.parity.now = omega arith in
    xor_more c.args.parity.now c.args.mask.now c.loop-i.parity c.loop-i.i inside c.requires c.loop-i.invariant

pub returns : goal.returns
returns c =
    let end : c.loop-i.i ≡ length c.args.parity.now = omega arith in
    xor_all c.args.parity.now c.args.mask.now c.loop-i.parity c.loop-i.i end c.requires c.loop-i.invariant
