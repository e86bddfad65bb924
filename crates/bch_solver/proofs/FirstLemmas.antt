use Rattle.std.proofs.Common.{◌≡◌, ◌≢◌, ℕ, zero, suc, ◌+◌, ◌^◌, ◌<◌, List, get_or, replicate, refl, sym, ap, ap₂, ◌∙◌, subst, arith}
use Rattle.std.specs.Prelude.{bit_xor}
use lib.Bits.{xor_zero_r}
use Rattle.code_model.specs.Binary.{times}
use Rattle.code_model.specs.Poly.{against}
use Rattle.code_model.proofs.BinaryLemmas.{times-zero, times_comm, times-one}
use Rattle.bch_solver.specs.Rows.{syndrome_at}
use Rattle.code_model.specs.Binary.{IsPrimitive}

pub zeros : (n k : ℕ) → get_or {A = ℕ} (replicate n 0) k 0 ≡ 0
zeros zero k = refl
zeros (suc n) zero = refl
zeros (suc n) (suc k) = zeros n k

pub zeros_33 : (k : ℕ) → get_or {A = ℕ} (replicate 33 0) k 0 ≡ 0
zeros_33 k = zeros 33 k

module _ (m f : ℕ) (p : IsPrimitive m f) where
  none : (s : ℕ → ℕ) (n : ℕ) (j : ℕ) (c : ℕ → ℕ) → ((i : ℕ) → c i ≡ 0) → against (times m f) s n c j ≡ 0
  unfolding against
  none s zero j c z = refl
  none s (suc n) j c z =
      ap₂ bit_xor (ap (λ x. times m f x (s j)) (z 0) ∙ times_comm m f 0 (s j) ∙ times-zero m f (s j)) (none s n (suc j) (λ i. c (suc i)) (λ i. z (suc i)))

  unit : (s : ℕ → ℕ) (n d j : ℕ) (c : ℕ → ℕ) → s (j + d) < 2 ^ m → d < n → c d ≡ 1 → ((i : ℕ) → i ≢ d → c i ≡ 0) → s (j + d) ≡ against (times m f) s n c j
  unfolding against
  unit s zero d j c l h one other = absurd (omega arith)
  unit s (suc n) zero j c l h one other =
      let here : j + 0 ≡ j = omega arith in
      let l' : s j < 2 ^ m = subst (λ (x : ℕ). s x < 2 ^ m) here l in
      ap s here ∙ sym (xor_zero_r (s j))
      ∙ ap₂ bit_xor (sym (ap (λ x. times m f x (s j)) one ∙ times_comm m f 1 (s j) ∙ times-one m f (s j) l'))
      (sym (none s n (suc j) (λ i. c (suc i)) (λ i. other (suc i) (omega arith))))
  unit s (suc n) (suc d) j c l h one other =
      let e : j + suc d ≡ suc j + d = omega arith in
      ap s e ∙ unit s n d (suc j) (λ i. c (suc i)) (subst (λ (x : ℕ). s x < 2 ^ m) e l) (omega arith) one (λ i ne. other (suc i) (omega arith))
      ∙ ap (λ x. bit_xor x (against (times m f) s n (λ i. c (suc i)) (suc j)))
      (sym (ap (λ x. times m f x (s j)) (other 0 (omega arith)) ∙ times_comm m f 0 (s j) ∙ times-zero m f (s j)))

  pub against_unit : (syn : List ℕ) (n d j : ℕ) (c : ℕ → ℕ) → syndrome_at syn (j + d) < 2 ^ m → d < n → c d ≡ 1 → ((i : ℕ) → i ≢ d → c i ≡ 0) → syndrome_at syn (j + d) ≡ against (times m f) (syndrome_at syn) n c j
  against_unit syn n d j c l h one other = unit (syndrome_at syn) n d j c l h one other
