-- Tables of powers that pass their test, and products by them.
use Rattle.std.proofs.Common.{◌≡◌, ℕ, zero, suc, ◌+◌, ◌*◌, ◌<◌, ◌^◌, sym, ap, ap₂, ◌∙◌, subst, arith, List, [], ◌∷◌, length, get_or, true}
use Rattle.std.specs.Prelude.{nat_eq}
use Rattle.code_model.specs.Binary.{reduced, times, power, IsPrimitive}
use Rattle.code_model.proofs.BinaryLemmas.{times-lt}
use Rattle.code_model.proofs.FieldLemmas.{power-add}
use Rattle.code_model.proofs.PowerLemmas.{power_x-suc}
use Rattle.code_model.proofs.InverseLemmas.{power-none}
use Rattle.bch_tables.specs.Tests.{powers_pass}
use Rattle.bch_tables.proofs.RowLemmas.{cond_parts, same_from_eq}

module _ (m f : ℕ) (p : IsPrimitive m f) where
  power_from_pass : (k i a : ℕ) (xs : List ℕ) → powers_pass m f a xs ≡ true → a ≡ power m f 2 k → i < length xs → get_or xs i 0 ≡ power m f 2 (k + i)
  unfolding powers_pass
  power_from_pass k i a [] pass e h = absurd (omega arith)
  power_from_pass k zero a (x ∷ xs) pass e h =
      let z : k ≡ k + 0 = omega arith in
      same_from_eq _ _ (cond_parts (nat_eq x a) (powers_pass m f (reduced m f (2 * a)) xs) pass).0 ∙ e ∙ ap (power m f 2) z
  power_from_pass k (suc i) a (x ∷ xs) pass e h =
      let z : k + 1 + i ≡ k + suc i = omega arith in
      power_from_pass (k + 1) i (reduced m f (2 * a)) xs (cond_parts (nat_eq x a) (powers_pass m f (reduced m f (2 * a)) xs) pass).1
      (ap (λ n. reduced m f (2 * n)) e ∙ sym (power_x-suc m f p k)) (omega arith)
      ∙ ap (power m f 2) z

  pub power_entry : (powers : List ℕ) (i : ℕ) → powers_pass m f 1 powers ≡ true → i < length powers → get_or powers i 0 ≡ power m f 2 i
  power_entry powers i pass h =
      let z : 0 + i ≡ i = omega arith in
      power_from_pass 0 i 1 powers pass (power-none m f p 2) h ∙ ap (power m f 2) z

  -- the product by logarithms
  pub product_by_logarithms : (a b i j x y z : ℕ) → x ≡ power m f 2 i → y ≡ power m f 2 j → z ≡ power m f 2 (i + j) → x ≡ a → y ≡ b → z ≡ times m f a b
  product_by_logarithms a b i j x y z ex ey ez ea eb =
      ez ∙ power-add m f p 2 i j ∙ ap₂ (times m f) (sym ex ∙ ea) (sym ey ∙ eb)

  pub product_small : (a b n : ℕ) → n ≡ times m f a b → n < 2 ^ m
  product_small a b n e = subst (λ (x : ℕ). x < 2 ^ m) (sym e) (times-lt m f a b p.low p.high)
