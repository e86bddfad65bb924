use Rattle.std.proofs.Common.{◌∙◌, get_or, ap}
use Rattle.std.specs.Prelude.{bit_xor}
use lib.Bits.{xor_self}
use Rattle.code_model.specs.Binary.{times}
use Rattle.code_model.proofs.BinaryLemmas.{times_assoc, times-one}
use Rattle.bch_solver.proofs.rows.reduce.Goals as goal

pub returns-clause-gone : goal.returns-clause-gone
returns-clause-gone g c =
    let m = g.F.BinaryField.DEGREE in
    let f = g.F.BinaryField.MODULUS in
    let p = g.F.BinaryField.primitive in
    let pivot = c.args.pivot in
    let old = get_or c.args.target.now pivot 0 in
    let there = get_or c.args.source.now pivot 0 in
    c.add_scaled.ensures.sums pivot
    ∙ ap (bit_xor old) (ap (λ x. times m f x there) c.product-factor.ensures.value ∙ times_assoc m f old c.args.inverse there p.low p.high
    ∙ ap (times m f old) c.requires.inverts ∙ times-one m f old (c.requires.small_target pivot))
    ∙ xor_self old
