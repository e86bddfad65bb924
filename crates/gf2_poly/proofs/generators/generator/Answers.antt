use Rattle.std.proofs.Common.{◌≡◌, ◌<◌, ◌*◌, ◌+◌, ◌-◌, ◌^◌, ℕ, suc, [], arith, ap, sym, subst, ◌∙◌, get_or}
use Rattle.code_model.specs.Binary.{HasDegree}
use Rattle.code_model.specs.Generator.{generator_of}
use Rattle.code_model.proofs.Instances.{primitive_13}
use Rattle.code_model.proofs.RootLemmas.{generator-degree}
use Rattle.gf2_poly.specs.declared.tables.TheConstants.{GENERATORS}
use Rattle.gf2_poly.proofs.DegreeLemmas.{has_degree}
use Rattle.gf2_poly.proofs.TableLemmas.{generator_row}
use Rattle.gf2_poly.proofs.generators.generator.Goals as goal

pub returns-clause-product : goal.returns-clause-product
returns-clause-product c =
    let t = c.args.t in
    let i = t - 1 in
    let e : suc i ≡ t = (let h = c.requires.0 in omega arith) in
    let small : i < 16 = (let h = c.requires.0 in let g = c.requires.1 in omega arith) in
    let row = get_or GENERATORS i [] in
    let halves : c.from_halves.result ≡ get_or row 0 0 * 2 ^ 128 + get_or row 1 0 = c.from_halves.ensures in
    halves ∙ generator_row i small ∙ ap (generator_of 13 0x201b) e

pub returns-clause-degree : goal.returns-clause-degree
returns-clause-degree c = subst (λ (n : ℕ). HasDegree (13 * c.args.t) n) (sym (returns-clause-product c)) (has_degree (13 * c.args.t) (generator_of 13 0x201b c.args.t) (generator-degree 13 0x201b primitive_13 c.args.t))
