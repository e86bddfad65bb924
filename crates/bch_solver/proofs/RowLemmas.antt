use Rattle.std.proofs.Common.{◌≡◌, ◌≢◌, ℕ, suc, ◌+◌, ◌^◌, ◌<◌, List, length, get_or, set, sym, ap, ap₂, ◌∙◌, subst, arith, inl, inr, get_or-set_same, get_or-set_other}
use Rattle.std.specs.Prelude.{bit_xor}
use Rattle.std.proofs.lemmas.Bool.{cases_eq}
use lib.Bits.{xor_zero_r}
use Rattle.std.proofs.lemmas.Nat.{xor_comm}
use Rattle.code_model.specs.Binary.{times}
use Rattle.code_model.specs.Poly.{against}
use Rattle.code_model.proofs.BinaryLemmas.{times-zero}
use Rattle.code_model.proofs.Elimination.{against-sum, against-same}
use Rattle.bch_solver.specs.Rows.{Reduces, Holds, HasMonic}
use Rattle.code_model.specs.Binary.{IsPrimitive}
use Rattle.code_model.proofs.Instances.{domain_from_primitive}

-- what a read gives after a write
pub read_set : (P : ℕ → Type 0) (xs : List ℕ) (i k v : ℕ) → i < length xs → (k ≡ i → P v) → (k ≢ i → P (get_or xs k 0)) → P (get_or (set xs i v) k 0)
read_set P xs i k v h same other = elim (cases_eq k i) [
  | inl e ↦ subst P (sym (ap (λ x. get_or (set xs i v) x 0) e ∙ get_or-set_same xs i v 0 h)) (same e)
  | inr ne ↦ subst P (sym (get_or-set_other xs i k v 0 ne)) (other ne)
]

pub one_below : (m f : ℕ) → IsPrimitive m f → 1 < 2 ^ m
one_below m f p = omega (arith, p.wide)

module _ (m f : ℕ) (p : IsPrimitive m f) where
  -- where the source has 0, the target keeps its value
  pub kept_where_zero : (old new source : List ℕ) (i : ℕ) → Reduces m f old new source → get_or source i 0 ≡ 0 → get_or new i 0 ≡ get_or old i 0
  kept_where_zero old new source i r z =
      r.2 i ∙ ap (bit_xor (get_or old i 0)) (ap (times m f r.0) z ∙ times-zero m f r.0) ∙ xor_zero_r (get_or old i 0)

  pub holds_step : (s : ℕ → ℕ) (t : ℕ) (old new source : List ℕ) → Reduces m f old new source → Holds m f s t source → Holds m f s t old → Holds m f s t new
  holds_step s t old new source r hs ho = λ j h.
      let co = λ (i : ℕ). get_or old (16 + i) 0 in
      let cs = λ (i : ℕ). get_or source (16 + i) 0 in
      let vo = against (times m f) s 17 co (suc j) in
      let vs = times m f r.0 (against (times m f) s 17 cs (suc j)) in
      r.2 j ∙ ap₂ bit_xor (ho j h) (ap (times m f r.0) (hs j h))
      ∙ xor_comm vo vs
      ∙ sym (against-sum (2 ^ m) (times m f) (domain_from_primitive m f p) s 17 r.0 cs co (suc j))
      ∙ against-same (2 ^ m) (times m f) (domain_from_primitive m f p) s 17 (λ i. bit_xor (times m f r.0 (cs i)) (co i)) (λ i. get_or new (16 + i) 0) (suc j)
      (λ i. xor_comm (times m f r.0 (cs i)) (co i) ∙ sym (r.2 (16 + i)))

  pub monic_step : (k e : ℕ) (old new source : List ℕ) → Reduces m f old new source → HasMonic k source → k < e → HasMonic e old → HasMonic e new
  monic_step k e old new source r ms h mo = (
    kept_where_zero old new source (16 + e) r (ms.1 e h) ∙ mo.0,
    λ l g. kept_where_zero old new source (16 + l) r (ms.1 l (omega arith)) ∙ mo.1 l g,
  )
