use Rattle.std.proofs.Common.{◌≡◌, ◌≢◌, ◌*◌, ◌/◌, ◌^◌, ◌∙◌, refl, ap, sym, arith, subst, ℕ, ◌<◌}
use Rattle.std.specs.Prelude.{bit_xor}
use Rattle.code_model.proofs.BinaryLemmas.{reduced-lt}
use Rattle.code_model.proofs.CodeLemmas.{doubled_large, doubled_small}
use Rattle.binary_field.proofs.ShiftLemmas.{top_from_one, below_from_not_one}
use Rattle.binary_field.proofs.field.doubled.Goals as goal

pub returns-then-twice-DEGREE-eq1 : goal.returns-then-twice-DEGREE-eq1
returns-then-twice-DEGREE-eq1 g c =
    let m = g.F.BinaryField.DEGREE in
    let f = g.F.BinaryField.MODULUS in
    let p = g.F.BinaryField.primitive in
    let top : c.args.a * 2 / 2 ^ m ≡ 1 = ap (λ i. c.args.a * 2 / 2 ^ i) (sym c.DEGREE.ensures) ∙ c.if-twice-DEGREE-eq1.true in
    let value = ap (bit_xor (c.args.a * 2)) c.MODULUS.ensures
    ∙ doubled_large m f c.args.a (c.args.a * 2) refl (top_from_one m (c.args.a * 2) top) in
    let h = c.requires in
    record { value = value; small = subst (λ (x : ℕ). x < 2 ^ m) (sym value) (reduced-lt m f (2 * c.args.a) p.low p.high (omega arith)) }

pub returns-else-twice-DEGREE-eq1 : goal.returns-else-twice-DEGREE-eq1
returns-else-twice-DEGREE-eq1 g c =
    let m = g.F.BinaryField.DEGREE in
    let f = g.F.BinaryField.MODULUS in
    let top : c.args.a * 2 / 2 ^ m ≢ 1 = (λ e. c.if-twice-DEGREE-eq1.false (ap (λ i. c.args.a * 2 / 2 ^ i) c.DEGREE.ensures ∙ e)) in
    let h = c.requires in
    let below = below_from_not_one m (c.args.a * 2) (omega arith) top in
    record { value = doubled_small m f c.args.a (c.args.a * 2) refl below; small = below }
