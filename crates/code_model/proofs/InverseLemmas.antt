use Rattle.std.proofs.Common.{◌≡◌, ℕ, suc, ◌+◌, ◌-◌, ◌*◌, ◌^◌, ◌<◌, refl, sym, ap, ap₂, ◌∙◌, arith}
use Rattle.code_model.specs.Binary.{times, power, IsPrimitive}
use Rattle.code_model.proofs.BinaryLemmas.{times_comm, times_assoc, times-one}
use Rattle.code_model.proofs.FieldLemmas.{power-add, power-order}
use Rattle.std.proofs.Math.Nat.{pow-suc}
use Rattle.std.proofs.lemmas.Nat.{pow_pos}

module _ (m f : ℕ) (p : IsPrimitive m f) where
  pub power-first : (a : ℕ) → a < 2 ^ m → a ≡ power m f a 1
  unfolding power
  power-first a h = sym (times_comm m f 1 a ∙ times-one m f a h)

  pub power-none : (a : ℕ) → 1 ≡ power m f a 0
  unfolding power
  power-none a = refl

  pub square_step : (a i s : ℕ) → s ≡ power m f a (2 ^ i) → times m f s s ≡ power m f a (2 ^ (i + 1))
  square_step a i s e =
      let t : 2 ^ i + 2 ^ i ≡ 2 ^ (i + 1) = (let q = pow-suc 2 i in ap (λ x. x) (omega arith) ∙ sym q ∙ ap (λ x. 2 ^ x) (omega arith)) in
      ap₂ (times m f) e e ∙ sym (power-add m f p a (2 ^ i) (2 ^ i)) ∙ ap (power m f a) t

  pub all_step : (a i s r : ℕ) → r ≡ power m f a (2 ^ (i + 1) - 2) → s ≡ power m f a (2 ^ (i + 1)) → times m f r s ≡ power m f a (2 ^ (i + 1 + 1) - 2)
  all_step a i s r er es =
      let j = i + 1 in
      let q : 2 ^ (j + 1) ≡ 2 ^ j * 2 = ap (λ x. 2 ^ x) (omega arith) ∙ pow-suc 2 j in
      let q' : 2 ^ j ≡ 2 ^ i * 2 = ap (λ x. 2 ^ x) (omega arith) ∙ pow-suc 2 i in
      let pos = pow_pos i in
      let t : 2 ^ j - 2 + 2 ^ j ≡ 2 ^ (j + 1) - 2 = omega arith in
      ap₂ (times m f) er es ∙ sym (power-add m f p a (2 ^ j - 2) (2 ^ j)) ∙ ap (power m f a) t

  -- the power 2^m - 2 is the inverse
  pub times-inverse : (a r n : ℕ) → 0 < a → a < 2 ^ m → n + 1 ≡ 2 ^ m - 1 → r ≡ power m f a n → times m f a r ≡ 1
  unfolding power
  times-inverse a r n h k e er =
      let s : suc n ≡ 2 ^ m - 1 = omega arith in
      times_comm m f a r ∙ ap (λ x. times m f x a) er ∙ ap (power m f a) s ∙ power-order m f p a h k

  pub inverse_unique : (a b d : ℕ) → b < 2 ^ m → d < 2 ^ m → times m f a b ≡ 1 → times m f a d ≡ 1 → b ≡ d
  inverse_unique a b d h k e e' =
      sym (times-one m f b h) ∙ ap (times m f b) (sym e') ∙ sym (times_assoc m f b a d p.low p.high) ∙ ap (λ x. times m f x d) (times_comm m f b a ∙ e)
      ∙ times_comm m f 1 d ∙ times-one m f d k
