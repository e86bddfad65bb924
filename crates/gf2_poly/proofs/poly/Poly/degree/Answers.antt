use Rattle.std.proofs.Common.{◌≡◌, ◌<◌, ◌%◌, ◌+◌, ◌^◌, ℕ, arith, subst, sym, Some, None}
use Rattle.std.specs.Prelude.{MatchOption, Option}
use Rattle.code_model.specs.Binary.{HasDegree}
use Rattle.gf2_poly.proofs.DivisionLemmas.{degree_with_bit, same_without_bit}
use Rattle.gf2_poly.proofs.poly.Poly.degree.Goals as goal
use Rattle.gf2_poly.proofs.poly.Poly.degree.Goals.{then-bit, else-bit}

-- one more bit that is 0
kept : (degree : Option ℕ) (n r s : ℕ) → s ≡ r → MatchOption degree (r ≡ 0) (λ d. (d < n) × HasDegree d r) → MatchOption degree (s ≡ 0) (λ d. (d < n + 1) × HasDegree d s)
kept None n r s e m = omega arith
kept (Some d) n r s e m = (let l = m.0 in omega arith, subst (λ (x : ℕ). HasDegree d x) (sym e) m.1)

pub loop-n-preserved : goal.loop-n-preserved
loop-n-preserved c =
    let bits = c.self.inside.bits in
    let n = c.loop-n.n in
    let P : Option ℕ → Type 0 = λ degree. MatchOption degree (bits % 2 ^ (n + 1) ≡ 0) (λ d. (d < n + 1) × HasDegree d (bits % 2 ^ (n + 1))) in
    elim c.if-bit.branch [
      | then-bit w ↦ subst P (sym w.degree-is) (omega arith, degree_with_bit bits n (c.bit.ensures.0 w.if-bit.true))
      | else-bit w ↦ subst P (sym w.degree-is) (kept c.loop-n.degree n (bits % 2 ^ n) (bits % 2 ^ (n + 1)) (same_without_bit bits n (λ e. let t = c.bit.ensures.1 e in let f = w.if-bit.false in cc)) c.loop-n.invariant)
    ]
