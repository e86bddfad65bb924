use Rattle.std.proofs.Common.{ap, ◌∙◌}
use Rattle.code_model.specs.Binary.{times, power, value_at}
use Rattle.code_model.specs.Generator.{generator_of}
use Rattle.code_model.proofs.BinaryLemmas.{times-zero}
use Rattle.code_model.proofs.ValueLemmas.{value_at-product}
use Rattle.code_model.proofs.RootLemmas.{generator-roots}
use Rattle.gf2_poly.proofs.laws.generator_roots.Goals as goal

pub returns : goal.returns
returns c = λ m f t j q p z h.
    let x = power m f 2 j in
    value_at-product m f p x q (generator_of m f t) ∙ ap (times m f (value_at m f x q)) (generator-roots m f p t j z h) ∙ times-zero m f (value_at m f x q)
