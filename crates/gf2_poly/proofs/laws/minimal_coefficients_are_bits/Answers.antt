use Rattle.code_model.proofs.MinimalLemmas.{roots_bits}
use Rattle.gf2_poly.proofs.laws.minimal_coefficients_are_bits.Goals as goal

pub returns : goal.returns
returns c = λ m f j p. roots_bits m f p j
