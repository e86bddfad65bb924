use Rattle.std.proofs.Common.{◌≡◌, ◌<◌, ◌≤◌, ◌%◌, ◌/◌, ◌+◌, ◌*◌, ◌-◌, ◌^◌, ℕ, suc, arith, refl, subst, sym, ap, ap₂, ◌∙◌, lit<, Bool, true, false, cond}
use Rattle.std.specs.Prelude.{IfSome, Some, Option, IsTrue}
use Rattle.std.proofs.lemmas.Nat.{pow_pos}
use Rattle.std.proofs.Math.Nat.{pow-le-pow_right}
use Rattle.code_model.specs.Binary.{remainder, reduced, HasDegree}
use Rattle.code_model.proofs.BinaryLemmas.{remainder-zero}
use Rattle.gf2_poly.specs.Division.{IsRemainder}
use Rattle.gf2_poly.proofs.DegreeLemmas.{plus_power}
use Rattle.gf2_poly.proofs.DivisionLemmas.{all_shifted, remainder-more, remainder_is, remainder_only}
use Rattle.gf2_poly.proofs.poly.Poly.remainder.Goals as goal

-- the divisor's degree
found : (o : Option ℕ) (d b : ℕ) → o ≡ Some d → IfSome o (λ d. (d < 256) × HasDegree d b) → (d < 256) × HasDegree d b
found o d b e s = let P : Option ℕ → Type 0 = λ o. IfSome o (λ d. (d < 256) × HasDegree d b) in subst P e s

-- one more coefficient has room
rest-lt : (d n : ℕ) → d < 256 → n < 2 ^ d → n < 2 ^ 255
rest-lt d n h l = let w : 2 ^ d ≤ 2 ^ 255 = pow-le-pow_right (lit< tt) {i = d} {j = 255} (omega arith) in omega arith

digit-lt : (d n : ℕ) (digit : Bool) → n < 2 ^ d → 2 * n + cond digit 1 0 < 2 ^ (d + 1)
digit-lt d n true h = let e = plus_power d in omega arith
digit-lt d n false h = let e = plus_power d in omega arith

digit_from_bit : (n : ℕ) (digit : Bool) → (IsTrue digit → n % 2 ≡ 1) × (n % 2 ≡ 1 → IsTrue digit) → cond digit 1 0 ≡ n % 2
digit_from_bit n true e = sym (e.0 refl)
digit_from_bit n false e = let ne : n % 2 ≡ 1 → ⊥ = (λ h. let t = e.1 h in cc) in omega arith

pub loop-i-init : goal.loop-i-init
loop-i-init c =
    let a = c.self.inside.bits in
    let b = c.by.inside.bits in
    let d = c.unwrap-degree.result in
    record {
      value = c.from_halves-rest.ensures.value ∙ sym (ap (remainder d b) (all_shifted a 256 c.self.invariant) ∙ remainder-zero d b);
      small = subst (λ (x : ℕ). x < 2 ^ d) (sym c.from_halves-rest.ensures.value) (pow_pos d);
    }

pub with_digit-next-requires : goal.with_digit-next-requires
with_digit-next-requires c =
    let g = found c.degree.result c.unwrap-degree.result c.args.by.now c.unwrap-degree.ensures c.degree.ensures.some in
    rest-lt c.unwrap-degree.result c.loop-i.rest g.0 c.loop-i.invariant.small

pub less-rest-requires : goal.less-rest-requires
less-rest-requires c =
    let g = found c.degree.result c.unwrap-degree.result c.args.by.now c.unwrap-degree.ensures c.degree.ensures.some in
    let d = c.unwrap-degree.result in
    record {
      degree = g.0;
      by = subst (λ (b : ℕ). HasDegree d b) (sym c.by.view_is) g.1;
      number = subst (λ (n : ℕ). n < 2 ^ (d + 1)) (sym c.with_digit-next.ensures.value) (digit-lt d c.loop-i.rest c.bit.result c.loop-i.invariant.small);
    }

pub loop-i-preserved : goal.loop-i-preserved
loop-i-preserved c =
    let a = c.self.inside.bits in
    let b = c.by.inside.bits in
    let d = c.unwrap-degree.result in
    let i = c.loop-i.i in
    let k = 255 - i in
    let before : 256 - i ≡ suc k = omega arith in
    let after : k ≡ 256 - (i + 1) = omega arith in
    let was : c.loop-i.rest ≡ remainder d b (a / 2 ^ suc k) = c.loop-i.invariant.value ∙ ap (λ n. remainder d b (a / 2 ^ n)) before in
    let digit : cond c.bit.result 1 0 ≡ a / 2 ^ k % 2 = digit_from_bit (a / 2 ^ k) c.bit.result c.bit.ensures in
    record {
      value =
          c.less-rest.ensures.value ∙ ap (reduced d b) (c.with_digit-next.ensures.value ∙ ap₂ (λ r n. 2 * r + n) was digit)
          ∙ sym (remainder-more d b a k) ∙ ap (λ n. remainder d b (a / 2 ^ n)) after;
      small = c.less-rest.ensures.small;
    }

-- the rest at the end
all_taken : (a b d i r : ℕ) → 256 ≤ i → r ≡ remainder d b (a / 2 ^ (256 - i)) → r ≡ remainder d b a
all_taken a b d i r h e = let z : 256 - i ≡ 0 = omega arith in let one : a / 1 ≡ a = omega arith in e ∙ ap (λ n. remainder d b (a / 2 ^ n)) z ∙ ap (remainder d b) one

pub returns-clause-remainder : goal.returns-clause-remainder
returns-clause-remainder c =
    let d = c.unwrap-degree.result in
    let a = c.args.self.now in
    let b = c.args.by.now in
    let g = found c.degree.result d b c.unwrap-degree.ensures c.degree.ensures.some in
    let value : c.loop-i.rest ≡ remainder d b a =
    (all_taken c.self.inside.bits c.by.inside.bits d c.loop-i.i c.loop-i.rest c.loop-i-test.false c.loop-i.invariant.value ∙ ap₂ (remainder d) c.by.view_is c.self.view_is) in
    subst (λ (r : ℕ). IsRemainder a b r) (sym value) (remainder_is d a b g.1)

pub returns-clause-only : goal.returns-clause-only
returns-clause-only c =
    let d = c.unwrap-degree.result in
    let a = c.args.self.now in
    let b = c.args.by.now in
    let g = found c.degree.result d b c.unwrap-degree.ensures c.degree.ensures.some in
    let value : c.loop-i.rest ≡ remainder d b a =
    (all_taken c.self.inside.bits c.by.inside.bits d c.loop-i.i c.loop-i.rest c.loop-i-test.false c.loop-i.invariant.value ∙ ap₂ (remainder d) c.by.view_is c.self.view_is) in
    λ r s. remainder_only d a b r g.1 s ∙ sym value
