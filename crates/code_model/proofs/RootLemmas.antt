-- The generator: its degree, and its roots, which are neighbouring powers of x.
use Rattle.std.proofs.Common.{◌≡◌, ℕ, zero, suc, ◌+◌, ◌*◌, ◌/◌, ◌%◌, ◌^◌, ◌<◌, ◌≤◌, sym, ap, ap₂, ◌∙◌, subst, arith, inl, inr}
use Rattle.std.specs.Prelude.{bit_xor}
use Rattle.std.proofs.lemmas.Bool.{cases_eq}
use Rattle.std.proofs.lemmas.Nat.{pow_pos}
use Rattle.std.proofs.Math.Nat.{pow-suc}
use Rattle.std.proofs.Math.Pow.{pow_mono}
use Rattle.code_model.specs.Binary.{product, times, power, value_at, IsPrimitive}
use Rattle.code_model.specs.Generator.{minimal_of, generator_of}
use Rattle.code_model.proofs.BitsLemmas.{by_bits}
use Rattle.code_model.proofs.BinaryLemmas.{times-zero, times-one, product-digit, product-zero_left, xor_top_one}
use Rattle.code_model.proofs.ValueLemmas.{value_at-zero, value_at-digit, generator-root}
use Rattle.code_model.proofs.PowerLemmas.{power-double}
use Rattle.code_model.proofs.MinimalLemmas.{square-xor, square-mul, minimal-root, minimal-degree}
use Rattle.code_model.proofs.Instances.{domain_from_primitive}

-- a product of two polynomials of known degrees
pub product-degree : (p q a b : ℕ) → 2 ^ a ≤ p → p < 2 * 2 ^ a → 2 ^ b ≤ q → q < 2 * 2 ^ b → (2 ^ (a + b) ≤ product p q) × (product p q < 2 * 2 ^ (a + b))
product-degree p q a b lo hi low high =
    by_bits (λ n. (a : ℕ) → 2 ^ a ≤ n → n < 2 * 2 ^ a → (2 ^ (a + b) ≤ product n q) × (product n q < 2 * 2 ^ (a + b)))
    (λ a l h. absurd (let z = pow_pos a in omega arith))
    (λ n c c_lt ih a l h. digit n c a c_lt ih l h)
    p a lo hi
  where
    one_digit : (n c : ℕ) → n ≡ 0 → c ≡ 1 → product (2 * n + c) q ≡ q
    one_digit n c en ec =
        let whole : c * q ≡ q = ap (λ x. x * q) ec ∙ omega arith in
        product-digit n c q (omega arith) ∙ ap₂ bit_xor (ap (λ x. 2 * product x q) en ∙ ap (λ x. 2 * x) (product-zero_left q)) whole

    digit_le : (c : ℕ) → c < 2 → c * q ≤ q
    digit_le zero h = omega arith
    digit_le (suc zero) h = omega arith
    digit_le (suc (suc c)) h = absurd (omega arith)

    digit : (n c a : ℕ) → c < 2 → ((a : ℕ) → 2 ^ a ≤ n → n < 2 * 2 ^ a → (2 ^ (a + b) ≤ product n q) × (product n q < 2 * 2 ^ (a + b)))
        → 2 ^ a ≤ 2 * n + c → 2 * n + c < 2 * 2 ^ a → (2 ^ (a + b) ≤ product (2 * n + c) q) × (product (2 * n + c) q < 2 * 2 ^ (a + b))
    digit n c zero c_lt ih l h =
        let same = one_digit n c (omega arith) (omega arith) in
        let size : 2 ^ (0 + b) ≡ 2 ^ b = ap (λ k. 2 ^ k) (omega arith) in
        (omega arith, omega arith)
    digit n c (suc a) c_lt ih l h =
        let e = pow-suc 2 a in
        let below = ih a (omega arith) (omega arith) in
        let size : 2 ^ (suc a + b) ≡ 2 ^ (a + b) * 2 = (let i : suc a + b ≡ suc (a + b) = omega arith in ap (λ k. 2 ^ k) i ∙ pow-suc 2 (a + b)) in
        let wide : 2 ^ b ≤ 2 ^ (a + b) = pow_mono (omega arith) in
        let last = digit_le c c_lt in
        let parts = below.0 in
        let parts' = below.1 in
        let top = xor_top_one (suc a + b) (2 * product n q) (c * q) (omega arith) (omega arith) (omega arith) in
        let digits = product-digit n c q c_lt in
        let low' = top.0 in
        let high' = top.1 in
        (omega arith, omega arith)

module _ (m f : ℕ) (p : IsPrimitive m f) where
  digit_square : (c : ℕ) → c < 2 → times m f c c ≡ c
  digit_square zero h = times-zero m f 0
  digit_square (suc zero) h = times-one m f 1 (omega (arith, p.wide))
  digit_square (suc (suc c)) h = absurd (omega arith)

  -- the value at a square is the square of the value
  pub value_at-square : (x n : ℕ) → value_at m f (times m f x x) n ≡ times m f (value_at m f x n) (value_at m f x n)
  value_at-square x n =
      let dom = domain_from_primitive m f p in
      by_bits (λ n. value_at m f (times m f x x) n ≡ times m f (value_at m f x n) (value_at m f x n))
      (value_at-zero m f (times m f x x) ∙ sym (ap₂ (times m f) (value_at-zero m f x) (value_at-zero m f x) ∙ times-zero m f 0))
      (λ n c c_lt ih.
      let v = value_at m f x n in
      value_at-digit m f (times m f x x) n c c_lt ∙ ap (λ y. bit_xor (times m f y (times m f x x)) c) ih
      ∙ ap₂ bit_xor (sym (square-mul (2 ^ m) (times m f) dom v x)) (sym (digit_square c c_lt))
      ∙ sym (square-xor (2 ^ m) (times m f) dom (times m f v x) c)
      ∙ sym (ap₂ (times m f) (value_at-digit m f x n c c_lt) (value_at-digit m f x n c c_lt)))
      n

  odd_root : (t j : ℕ) → j ≤ 2 * t → j % 2 ≡ 1 → value_at m f (power m f 2 j) (generator_of m f t) ≡ 0
  odd_root t j b e =
      let half : j ≡ 2 * (j / 2) + 1 = omega arith in
      generator-root m f p (power m f 2 j) t (j / 2) (omega arith) (ap (λ k. value_at m f (power m f 2 j) (minimal_of m f k)) (sym half) ∙ minimal-root m f p j)

  root_below : (t k j : ℕ) → j ≤ k → 0 < j → j ≤ 2 * t → value_at m f (power m f 2 j) (generator_of m f t) ≡ 0
  root_below t zero j h a b = absurd (omega arith)
  root_below t (suc k) j h a b = elim (cases_eq (j % 2) 1) [
    | inl e ↦ odd_root t j b e
    | inr ne ↦ (let half : j ≡ 2 * (j / 2) = omega arith in
        let g = generator_of m f t in
        ap (λ i. value_at m f (power m f 2 i) g) half ∙ ap (λ x. value_at m f x g) (power-double m f p 2 (j / 2))
        ∙ value_at-square (power m f 2 (j / 2)) g
        ∙ ap (λ v. times m f v v) (root_below t k (j / 2) (omega arith) (omega arith) (omega arith)) ∙ times-zero m f 0)
  ]

  -- x, x^2 and so on up to x^(2t) are roots of the generator
  pub generator-roots : (t j : ℕ) → 0 < j → j ≤ 2 * t → value_at m f (power m f 2 j) (generator_of m f t) ≡ 0
  generator-roots t j a b = root_below t j j (omega arith) a b

  -- the generator has the degree m t
  pub generator-degree : (t : ℕ) → (2 ^ (m * t) ≤ generator_of m f t) × (generator_of m f t < 2 * 2 ^ (m * t))
  unfolding generator_of
  generator-degree zero =
      let e : 2 ^ (m * 0) ≡ 2 ^ 0 = (let z : m * 0 ≡ 0 = omega arith in ap (λ k. 2 ^ k) z) in (omega arith, omega arith)
  generator-degree (suc t) =
      let ih = generator-degree t in
      let d = minimal-degree m f p (2 * t + 1) in
      let whole = product-degree (generator_of m f t) (minimal_of m f (2 * t + 1)) (m * t) m ih.0 ih.1 d.0 d.1 in
      let size : m * t + m ≡ m * suc t = omega arith in
      subst (λ (k : ℕ). (2 ^ k ≤ product (generator_of m f t) (minimal_of m f (2 * t + 1))) × (product (generator_of m f t) (minimal_of m f (2 * t + 1)) < 2 * 2 ^ k)) size whole
