use Rattle.std.proofs.Common.{◌^◌, ◌≡◌, ◌<◌, get_or, length, sym, ap, ap₂, ◌∙◌, arith, inl, inr}
use Rattle.std.specs.Prelude.{bit_xor}
use Rattle.std.proofs.lemmas.Bool.{cases_lt}
use Rattle.std.proofs.lemmas.Nat.{xor_lt}
use Rattle.std.proofs.lemmas.List.{get_or_past}
use Rattle.code_model.specs.Binary.{times}
use lib.Bits.{xor_zero_r}
use Rattle.code_model.proofs.BinaryLemmas.{times-zero}
use Rattle.bch_solver.proofs.RowLemmas.{read_set}
use Rattle.bch_solver.proofs.rows.add_scaled.Goals as goal

pub loop-i-preserved : goal.loop-i-preserved
loop-i-preserved g c =
    let m = g.F.BinaryField.DEGREE in
    let f = g.F.BinaryField.MODULUS in
    let p = g.F.BinaryField.primitive in
    let i = c.loop-i.i in
    let now = c.loop-i.target in
    let old = c.args.target.now in
    let src = c.args.source.now in
    let room : i < length now = omega arith in
    record {
      done = λ k h. read_set (λ x. x ≡ bit_xor (get_or old k 0) (times m f c.args.factor (get_or src k 0))) now i k _ room
          (λ e. ap₂ bit_xor (c.loop-i.invariant.rest i (omega arith) ∙ ap (λ x. get_or old x 0) (sym e)) (c.product.ensures.value ∙ ap (λ x. times m f c.args.factor (get_or src x 0)) (sym e)))
          (λ ne. c.loop-i.invariant.done k (omega arith));
      rest = λ k h. read_set (λ x. x ≡ get_or old k 0) now i k _ room (λ e. absurd (omega arith)) (λ ne. c.loop-i.invariant.rest k (omega arith));
      small = λ k. read_set (λ x. x < 2 ^ m) now i k _ room (λ e. xor_lt m _ _ (c.loop-i.invariant.small i) c.product.ensures.small) (λ ne. c.loop-i.invariant.small k);
    }

pub returns-clause-sums : goal.returns-clause-sums
returns-clause-sums g c =
    let m = g.F.BinaryField.DEGREE in
    let f = g.F.BinaryField.MODULUS in
    let p = g.F.BinaryField.primitive in
    λ i. elim (cases_lt i 33) [
      | inl h ↦ c.loop-i.invariant.done i (omega arith)
      | inr h ↦
          let none : get_or c.args.source.now i 0 ≡ 0 = get_or_past c.args.source.now i 0 (omega arith) in
          c.loop-i.invariant.rest i (omega arith) ∙ sym (xor_zero_r (get_or c.args.target.now i 0))
          ∙ ap (bit_xor (get_or c.args.target.now i 0)) (sym (ap (times m f c.args.factor) none ∙ times-zero m f c.args.factor))
    ]
