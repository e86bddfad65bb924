use Rattle.std.proofs.Common.{◌*◌}
use Rattle.code_model.specs.Generator.{generator_of}
use Rattle.code_model.proofs.RootLemmas.{generator-degree}
use Rattle.gf2_poly.proofs.DegreeLemmas.{has_degree}
use Rattle.gf2_poly.proofs.laws.generator_degree.Goals as goal

pub returns : goal.returns
returns c = λ m f t p. has_degree (m * t) (generator_of m f t) (generator-degree m f p t)
