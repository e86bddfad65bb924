use Rattle.std.proofs.Common.{◌≡◌, ◌<◌, ◌^◌, ◌-◌, length, get_or, refl, sym, ap, ◌∙◌, arith, length-set}
use Rattle.std.specs.Prelude.{bit_xor}
use Rattle.std.proofs.lemmas.Nat.{xor_lt}
use Rattle.code_model.specs.Binary.{times}
use Rattle.bch_solver.proofs.RowLemmas.{read_set}
use Rattle.bch_solver.proofs.ResidueLemmas.{unit_above, unit_small, moved_up_value}
use Rattle.bch_solver.proofs.residue.moved_up.Goals as goal

pub loop-i-init : goal.loop-i-init
loop-i-init g c =
    let m = g.F.BinaryField.DEGREE in
    let f = g.F.BinaryField.MODULUS in
    let p = g.F.BinaryField.primitive in
    record {
      long = refl;
      first = c.product.ensures.value;
      done = λ k h q. absurd (omega arith);
      rest = λ k h. unit_above m f p c.product.result k h;
      small = λ k. unit_small m f p c.product.result k c.product.ensures.small;
    }

pub loop-i-preserved : goal.loop-i-preserved
loop-i-preserved g c =
    let m = g.F.BinaryField.DEGREE in
    let f = g.F.BinaryField.MODULUS in
    let inv = c.loop-i.invariant in
    let i = c.loop-i.i in
    let next = c.loop-i.next in
    let cs = c.args.locator.now.coefficients in
    let r = c.args.residue.now in
    let lead = get_or r (c.args.locator.now.degree - 1) 0 in
    let v = bit_xor (get_or r (i - 1) 0) c.product-in-loop-i.result in
    let few = c.requires.locator.few in
    let room : i < length next = omega arith in
    record {
      long = length-set next i v ∙ inv.long;
      first = read_set (λ x. x ≡ times m f lead (get_or cs 0 0)) next i 0 v room (λ e. absurd (omega arith)) (λ ne. inv.first);
      done = λ k h q. read_set (λ x. x ≡ bit_xor (get_or r (k - 1) 0) (times m f lead (get_or cs k 0))) next i k v room
          (λ e. ap (bit_xor (get_or r (i - 1) 0)) c.product-in-loop-i.ensures.value ∙ ap (λ j. bit_xor (get_or r (j - 1) 0) (times m f lead (get_or cs j 0))) (sym e))
          (λ ne. inv.done k h (omega arith));
      rest = λ k h. read_set (λ x. x ≡ 0) next i k v room (λ e. absurd (omega arith)) (λ ne. inv.rest k (omega arith));
      small = λ k. read_set (λ x. x < 2 ^ m) next i k v room (λ e. xor_lt m (get_or r (i - 1) 0) c.product-in-loop-i.result (c.requires.residue.small (i - 1)) c.product-in-loop-i.ensures.small) (λ ne. inv.small k);
    }

pub returns-clause-residue : goal.returns-clause-residue
returns-clause-residue g c = record {
  small = c.loop-i.invariant.small;
  above = λ l h. (let some = c.requires.locator.some in c.loop-i.invariant.rest l (omega arith));
}

pub returns-clause-value : goal.returns-clause-value
returns-clause-value g c =
    let m = g.F.BinaryField.DEGREE in
    let f = g.F.BinaryField.MODULUS in
    let p = g.F.BinaryField.primitive in
    let inv = c.loop-i.invariant in
    let e = c.args.locator.now.degree in
    let r = c.args.residue.now in
    let some = c.requires.locator.some in
    moved_up_value m f p e (get_or r (e - 1) 0) c.args.locator.now.coefficients r c.loop-i.next c.requires.locator c.requires.residue refl (c.requires.residue.small (e - 1))
    inv.first (λ i h q. inv.done i h (omega arith)) (λ i h. inv.rest i (omega arith))
