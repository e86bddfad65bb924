-- Coefficients of polynomials over two elements.
use Rattle.std.proofs.Common.{◌≡◌, ℕ, zero, suc, ◌+◌, ◌*◌, ◌/◌, ◌%◌, ◌^◌, List, [], ◌∷◌, get_or, sym, ap, ◌∙◌, arith}
use Rattle.std.proofs.lemmas.Nat.Bits.{bit_at-zero, bit_at-suc}
use Rattle.code_model.specs.Generator.{packed}
use Rattle.code_model.specs.Word.{AreBits}

-- a digit of a packed list
pub digit-packed : (cs : List ℕ) (k : ℕ) → AreBits cs → get_or cs k 0 ≡ packed cs / 2 ^ k % 2
unfolding packed
digit-packed [] k s = sym (bit_at-zero k)
digit-packed (c ∷ cs) zero s = let h = s.0 in omega arith
digit-packed (c ∷ cs) (suc k) s =
    let half : (2 * packed cs + c) / 2 ≡ packed cs = (let h = s.0 in omega arith) in
    digit-packed cs k s.1 ∙ ap (λ n. n / 2 ^ k % 2) (sym half) ∙ sym (bit_at-suc (2 * packed cs + c) k)
