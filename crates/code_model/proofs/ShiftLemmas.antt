use Rattle.std.proofs.Common.{◌≡◌, ℕ, zero, suc, ◌+◌, ◌*◌, ◌^◌, ◌<◌, ◌≤◌, sym, ap, ap₂, ◌∙◌, subst, arith, mul_assoc, mul_comm}
use Rattle.std.specs.Prelude.{bit_xor}
use Rattle.std.proofs.lemmas.Nat.{xor_block, pow_pos, pow-add, shl_below}
use Rattle.std.proofs.Math.Nat.{pow-suc}
use Rattle.code_model.specs.Binary.{product, remainder}
use Rattle.code_model.proofs.BinaryLemmas.{product-double_right, remainder-unique, quotient, remainder-lt}

shift_suc : (b s : ℕ) → b * 2 ^ suc s ≡ 2 * (b * 2 ^ s)
shift_suc b s = ap (λ x. b * x) (pow-suc 2 s) ∙ sym (mul_assoc b (2 ^ s) 2) ∙ mul_comm (b * 2 ^ s) 2

pub product-shift_right : (a b s : ℕ) → product a (b * 2 ^ s) ≡ product a b * 2 ^ s
product-shift_right a b zero = let e : (n : ℕ) → n * 2 ^ 0 ≡ n = (λ n. omega arith) in ap (product a) (e b) ∙ sym (e (product a b))
product-shift_right a b (suc s) =
    ap (product a) (shift_suc b s) ∙ product-double_right a (b * 2 ^ s) ∙ ap (λ x. 2 * x) (product-shift_right a b s) ∙ sym (shift_suc (product a b) s)

pub xor-shift : (a b s : ℕ) → bit_xor (a * 2 ^ s) (b * 2 ^ s) ≡ bit_xor a b * 2 ^ s
xor-shift a b s =
    let e : (n : ℕ) → n * 2 ^ s + 0 ≡ n * 2 ^ s = (λ n. omega arith) in
    ap₂ bit_xor (sym (e a)) (sym (e b)) ∙ xor_block s a b 0 0 (pow_pos s) (pow_pos s) ∙ e (bit_xor a b)

-- a remainder moved up by s places, by the modulus moved up as far
pub remainder-shift : (d s f a : ℕ) → 2 ^ d ≤ f → f < 2 * 2 ^ d → remainder (d + s) (f * 2 ^ s) (a * 2 ^ s) ≡ remainder d f a * 2 ^ s
remainder-shift d s f a lo hi =
    let q = quotient d f a lo hi in
    let r = remainder d f a in
    let parts : a * 2 ^ s ≡ bit_xor (product q.0 (f * 2 ^ s)) (r * 2 ^ s) =
    (ap (λ x. x * 2 ^ s) q.1 ∙ sym (xor-shift (product q.0 f) r s) ∙ ap (λ x. bit_xor x (r * 2 ^ s)) (sym (product-shift_right q.0 f s))) in
    let low : 2 ^ (d + s) ≤ f * 2 ^ s = subst (λ (x : ℕ). x ≤ f * 2 ^ s) (sym (pow-add 2 d s)) (grind arith) in
    let high : f * 2 ^ s < 2 * 2 ^ (d + s) =
    (let b = shl_below f (suc d) s (let e = pow-suc 2 d in omega arith) in
    let e : 2 ^ (suc d + s) ≡ 2 ^ (d + s) * 2 = (let i : suc d + s ≡ suc (d + s) = omega arith in ap (λ x. 2 ^ x) i ∙ pow-suc 2 (d + s)) in
    omega arith) in
    ap (remainder (d + s) (f * 2 ^ s)) parts
    ∙ remainder-unique (d + s) (f * 2 ^ s) q.0 (r * 2 ^ s) low high (shl_below r d s (remainder-lt d f a lo hi))
