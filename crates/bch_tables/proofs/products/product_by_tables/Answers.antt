use Rattle.std.proofs.Common.{sym, ap, ◌∙◌}
use Rattle.code_model.specs.Binary.{times}
use Rattle.code_model.proofs.BinaryLemmas.{times-zero}
use Rattle.code_model.proofs.CodeLemmas.{times-zero_left}
use Rattle.bch_tables.proofs.PowerLemmas.{product_by_logarithms, product_small}
use Rattle.bch_tables.proofs.products.product_by_tables.Goals as goal

pub returns-then-a-eq0-clause-value : goal.returns-then-a-eq0-clause-value
returns-then-a-eq0-clause-value g c =
    let m = g.F.BinaryField.DEGREE in
    let f = g.F.BinaryField.MODULUS in
    sym (ap (λ n. times m f n c.args.b) c.if-a-eq0.true ∙ times-zero_left m f c.args.b)

pub returns-then-b-eq0-clause-value : goal.returns-then-b-eq0-clause-value
returns-then-b-eq0-clause-value g c =
    let m = g.F.BinaryField.DEGREE in
    let f = g.F.BinaryField.MODULUS in
    sym (ap (times m f c.args.a) c.if-b-eq0.true ∙ times-zero m f c.args.a)

pub returns-then-second-b-clause-value : goal.returns-then-second-b-clause-value
returns-then-second-b-clause-value g c =
    product_by_logarithms g.F.BinaryField.DEGREE g.F.BinaryField.MODULUS g.F.BinaryField.primitive
    c.args.a c.args.b _ _ c.power_of-first.result c.power_of-second.result c.power_of.result
    c.power_of-first.ensures c.power_of-second.ensures c.power_of.ensures c.if-first-a.true c.if-second-b.true

pub returns-then-second-b-clause-small : goal.returns-then-second-b-clause-small
returns-then-second-b-clause-small g c =
    product_small g.F.BinaryField.DEGREE g.F.BinaryField.MODULUS g.F.BinaryField.primitive
    c.args.a c.args.b c.power_of.result (returns-then-second-b-clause-value g c)
