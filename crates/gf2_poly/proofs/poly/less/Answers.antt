use Rattle.std.proofs.Common.{◌<◌, ◌^◌, ℕ, sym, ◌∙◌, subst}
use Rattle.code_model.proofs.BinaryLemmas.{reduced-large, reduced-small, reduced-lt}
use Rattle.gf2_poly.proofs.DegreeLemmas.{below_twice}
use Rattle.gf2_poly.proofs.DivisionLemmas.{top_from_bit, below_from_bit}
use Rattle.gf2_poly.proofs.poly.less.Goals as goal

pub returns-then-bit-clause-value : goal.returns-then-bit-clause-value
returns-then-bit-clause-value c =
    let d = c.args.degree in
    c.bitxor.ensures.0 ∙ sym (reduced-large d c.args.by c.args.number (top_from_bit d c.args.number (c.bit.ensures.0 c.if-bit.true)))

pub returns-then-bit-clause-small : goal.returns-then-bit-clause-small
returns-then-bit-clause-small c =
    let d = c.args.degree in
    let b = c.requires.by in
    subst (λ (x : ℕ). x < 2 ^ d) (sym (returns-then-bit-clause-value c))
    (reduced-lt d c.args.by c.args.number b.0 (below_twice d c.args.by b.1) (below_twice d c.args.number c.requires.number))

pub returns-else-bit-clause-value : goal.returns-else-bit-clause-value
returns-else-bit-clause-value c =
    let d = c.args.degree in
    let low = below_from_bit d c.args.number (below_twice d c.args.number c.requires.number) (λ e. let t = c.bit.ensures.1 e in cc) in
    sym (reduced-small d c.args.by c.args.number low)

pub returns-else-bit-clause-small : goal.returns-else-bit-clause-small
returns-else-bit-clause-small c =
    let d = c.args.degree in
    below_from_bit d c.args.number (below_twice d c.args.number c.requires.number) (λ e. let t = c.bit.ensures.1 e in cc)
