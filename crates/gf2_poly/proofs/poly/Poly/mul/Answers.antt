use Rattle.std.proofs.Common.{◌≡◌, ◌<◌, ◌%◌, ◌/◌, ◌+◌, ◌*◌, ◌-◌, ◌^◌, ℕ, suc, arith, subst, sym, ap, ap₂, ◌∙◌}
use Rattle.std.specs.Prelude.{bit_xor}
use lib.Bits.{xor_zero_r}
use Rattle.code_model.specs.Binary.{product}
use Rattle.code_model.proofs.BinaryLemmas.{product-zero_left}
use Rattle.gf2_poly.proofs.DivisionLemmas.{all_shifted, product-room, product-more}
use Rattle.gf2_poly.proofs.poly.Poly.mul.Goals as goal
use Rattle.gf2_poly.proofs.poly.Poly.mul.Goals.{then-bit, else-bit}

pub loop-i-init : goal.loop-i-init
loop-i-init c =
    let a = c.self.inside.bits in
    let b = c.other.inside.bits in
    record {
      value = c.from_halves-sum.ensures.value ∙ sym (ap (λ x. product x b) (all_shifted a 256 c.self.invariant) ∙ product-zero_left b);
      small = c.from_halves-sum.ensures.small;
    }

pub loop-i-preserved : goal.loop-i-preserved
loop-i-preserved c =
    let a = c.self.inside.bits in
    let b = c.other.inside.bits in
    let i = c.loop-i.i in
    let k = 255 - i in
    let before : 256 - i ≡ suc k = omega arith in
    let after : k ≡ 256 - (i + 1) = omega arith in
    let r = c.requires in
    let old = product (a / 2 ^ suc k) b in
    let room : old < 2 ^ 255 =
    product-room a b r.left r.right k 255 (subst (λ (x : ℕ). x < 2 ^ (r.left + 1)) (sym c.self.view_is) r.left_bound) (subst (λ (x : ℕ). x < 2 ^ (r.right + 1)) (sym c.other.view_is) r.right_bound) r.within in
    let was : c.loop-i.sum ≡ old = c.loop-i.invariant.value ∙ ap (λ n. product (a / 2 ^ n) b) before in
    let shift = c.shl-sum.ensures.0 in
    let moved : c.shl-sum.result ≡ 2 * old = omega arith in
    let done = λ (n : ℕ) (e : n ≡ product (a / 2 ^ k) b). e ∙ ap (λ m. product (a / 2 ^ m) b) after in
    elim c.if-bit.branch [
      | then-bit w ↦
          (let bit : a / 2 ^ k % 2 ≡ 1 = c.bit.ensures.0 w.if-bit.true in
          let one : b ≡ 1 * b = omega arith in
          let value : w.bitxor-sum.result ≡ product (a / 2 ^ k) b =
          (w.bitxor-sum.ensures.0 ∙ ap₂ bit_xor moved (one ∙ ap (λ x. x * b) (sym bit)) ∙ sym (product-more a b k)) in
          record { value = w.sum-is ∙ done _ value; small = subst (λ (x : ℕ). x < 2 ^ 256) (sym w.sum-is) w.bitxor-sum.ensures.1 })
      | else-bit w ↦
          (let ne : a / 2 ^ k % 2 ≡ 1 → ⊥ = (λ e. let t = c.bit.ensures.1 e in let f = w.if-bit.false in cc) in
          let bit : a / 2 ^ k % 2 ≡ 0 = omega arith in
          let none : 0 ≡ 0 * b = omega arith in
          let value : c.shl-sum.result ≡ product (a / 2 ^ k) b =
          (moved ∙ sym (xor_zero_r (2 * old)) ∙ ap (bit_xor (2 * old)) (none ∙ ap (λ x. x * b) (sym bit)) ∙ sym (product-more a b k)) in
          record { value = w.sum-is ∙ done _ value; small = subst (λ (x : ℕ). x < 2 ^ 256) (sym w.sum-is) c.shl-sum.ensures.1 })
    ]
