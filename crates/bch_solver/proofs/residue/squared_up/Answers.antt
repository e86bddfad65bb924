use Rattle.std.proofs.Common.{◌≡◌, ◌<◌, ◌^◌, suc, ◌+◌, ◌-◌, length, get_or, set, replicate, refl, sym, ap, ap₂, ◌∙◌, arith, length-set, get_or-set_same, get_or-set_other}
use Rattle.std.specs.Prelude.{bit_xor}
use Rattle.std.proofs.lemmas.Nat.{xor_lt}
use Rattle.code_model.specs.Binary.{times}
use Rattle.code_model.specs.Poly.{value}
use Rattle.code_model.proofs.BinaryLemmas.{times-zero}
use Rattle.bch_solver.specs.Rows.{listed}
use Rattle.bch_solver.proofs.FirstLemmas.{zeros}
use Rattle.bch_solver.proofs.PolynomialLemmas.{value_none, value_more, value_whole}
use Rattle.bch_solver.proofs.RowLemmas.{read_set}
use Rattle.bch_solver.proofs.ResidueLemmas.{value-first, value-zeros, value-degree, square_more, zeros_small}
use Rattle.bch_solver.proofs.residue.squared_up.Goals as goal

pub loop-i-init : goal.loop-i-init
loop-i-init g c =
    let m = g.F.BinaryField.DEGREE in
    let f = g.F.BinaryField.MODULUS in
    let p = g.F.BinaryField.primitive in
    record {
      long = refl;
      residue = record { small = λ k. zeros_small m f p k; above = λ k h. zeros 17 k };
      value = λ x z. value-zeros m f p (replicate 17 0) x (zeros 17)
          ∙ sym (ap₂ (times m f) (value_none (times m f) _ x) (value_none (times m f) _ x) ∙ times-zero m f 0);
    }

pub moved_up-sum-requires-clause-residue : goal.moved_up-sum-requires-clause-residue
moved_up-sum-requires-clause-residue g c = c.loop-i.invariant.residue

pub loop-i-preserved : goal.loop-i-preserved
loop-i-preserved g c =
    let m = g.F.BinaryField.DEGREE in
    let f = g.F.BinaryField.MODULUS in
    let p = g.F.BinaryField.primitive in
    let inv = c.loop-i.invariant in
    let i = c.loop-i.i in
    let e = c.args.locator.now.degree in
    let r = c.args.residue.now in
    let sum = c.moved_up-sum-in-loop-i.result in
    let q = c.product.result in
    let v = bit_xor (get_or sum 0 0) q in
    let room : 0 < length sum = omega arith in
    let some = c.requires.locator.some in
    let low = e - 1 - i in
    let k = e - i in
    let before : k ≡ suc low = omega arith in
    let after : low ≡ e - (i + 1) = omega arith in
    let next : suc i ≡ i + 1 = omega arith in
    record {
      long = (let whole : length sum ≡ 17 = omega arith in length-set sum 0 v ∙ whole);
      residue = record {
        small = λ l. read_set (λ x. x < 2 ^ m) sum 0 l v room (λ _. xor_lt m (get_or sum 0 0) q (c.moved_up-sum-in-loop-i.ensures.residue.small 0) c.product.ensures.small) (λ _. c.moved_up-sum-in-loop-i.ensures.residue.small l);
        above = λ l h. read_set (λ x. x ≡ 0) sum 0 l v room (λ q. absurd (omega arith)) (λ _. c.moved_up-sum-in-loop-i.ensures.residue.above l h);
      };
      value = λ x z.
          let w = value (times m f) (listed (λ j. get_or r (j + (e - i)) 0) i) x in
          value-first m f p sum (set sum 0 v) q x (get_or-set_same sum 0 v 0 room) (λ l ne. get_or-set_other sum 0 l v 0 ne)
          ∙ square_more m f p x w _ (get_or r low 0) q _ _ (inv.value x z) (c.moved_up-sum.ensures.value x z) (c.moved_up-sum-in-loop-i.ensures.value x z) c.product.ensures.value
          ∙ ap (λ y. times m f y y)
          (value_more (times m f) (λ j. get_or r j 0) x i k low w before refl
          ∙ ap (λ n. value (times m f) (listed (λ j. get_or r (j + n) 0) (suc i)) x) after
          ∙ ap (λ n. value (times m f) (listed (λ j. get_or r (j + (e - (i + 1))) 0) n) x) next);
    }

pub moved_up-requires-clause-residue : goal.moved_up-requires-clause-residue
moved_up-requires-clause-residue g c = c.loop-i.invariant.residue

pub returns-clause-value : goal.returns-clause-value
returns-clause-value g c = λ x z.
    let m = g.F.BinaryField.DEGREE in
    let f = g.F.BinaryField.MODULUS in
    let p = g.F.BinaryField.primitive in
    let inv = c.loop-i.invariant in
    let i = c.loop-i.i in
    let e = c.args.locator.now.degree in
    let r = c.args.residue.now in
    let few = c.requires.locator.few in
    let all : i ≡ e = omega arith in
    let none : e - i ≡ 0 = omega arith in
    c.moved_up.ensures.value x z
    ∙ ap (times m f x) (inv.value x z ∙ ap (λ y. times m f y y)
    (value_whole (times m f) (λ j. get_or r j 0) x i e (e - i) all none ∙ sym (value-degree m f p r e x (omega arith) (λ l h. c.requires.residue.above l h))))
