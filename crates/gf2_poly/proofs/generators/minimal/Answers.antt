use Rattle.std.proofs.Common.{◌≡◌, ◌<◌, ◌*◌, ◌+◌, ◌/◌, ℕ, arith, ap, sym, subst, ◌∙◌, get_or}
use Rattle.std.specs.Int.{bit_at}
use Rattle.code_model.specs.Binary.{HasDegree}
use Rattle.code_model.specs.Generator.{minimal_of}
use Rattle.code_model.proofs.Instances.{primitive_13}
use Rattle.code_model.proofs.MinimalLemmas.{minimal-degree, roots_bits}
use Rattle.gf2_poly.specs.declared.tables.TheConstants.{MINIMALS}
use Rattle.gf2_poly.specs.Minimal.{minimal_coefficients}
use Rattle.gf2_poly.proofs.DegreeLemmas.{has_degree}
use Rattle.gf2_poly.proofs.CoefficientLemmas.{digit-packed}
use Rattle.gf2_poly.proofs.TableLemmas.{minimal_row}
use Rattle.gf2_poly.proofs.generators.minimal.Goals as goal

pub returns-clause-product : goal.returns-clause-product
returns-clause-product c =
    let i = c.args.j / 2 in
    let odd : 2 * i + 1 ≡ c.args.j = (let h = c.requires.odd in omega arith) in
    let small : i < 16 = (let h = c.requires.range in omega arith) in
    let entry : c.from.result ≡ get_or MINIMALS i 0 = c.from.ensures in
    let z : 0 + c.from.result ≡ c.from.result = omega arith in
    c.from_halves.ensures ∙ z ∙ entry ∙ minimal_row i small ∙ ap (minimal_of 13 0x201b) odd

pub returns-clause-coefficients : goal.returns-clause-coefficients
unfolding minimal_of
returns-clause-coefficients c = λ k.
    digit-packed (minimal_coefficients 13 0x201b c.args.j) k (roots_bits 13 0x201b primitive_13 c.args.j)
    ∙ ap (λ n. bit_at n k) (sym (returns-clause-product c))

pub returns-clause-degree : goal.returns-clause-degree
returns-clause-degree c = subst (λ (n : ℕ). HasDegree 13 n) (sym (returns-clause-product c)) (has_degree 13 (minimal_of 13 0x201b c.args.j) (minimal-degree 13 0x201b primitive_13 c.args.j))
