use Rattle.std.proofs.Common.{◌≡◌, ℕ, zero, suc, ◌≤◌, List, [], ◌∷◌, length, take, map, replicate, refl, sym, ap, ap₂, ◌∙◌, arith}
use Rattle.std.specs.Prelude.{bit_xor}
use Rattle.code_model.specs.Bits.{xor_bytes}
use Rattle.code_model.specs.Code.{code_1024, mask_of, parity_of}
use Rattle.bch14.proofs.code.mask14.Goals as goal

take-replicate : (k n a : ℕ) → k ≤ n → take k (replicate n a) ≡ replicate k a
take-replicate zero n a h = refl
take-replicate (suc k) zero a h = absurd (omega arith)
take-replicate (suc k) (suc n) a h = ap (λ xs. a ∷ xs) (take-replicate k n a (omega arith))

-- bytes summed with 0xFF each
xor_bytes-ones : (xs : List ℕ) → xor_bytes xs (replicate (length xs) 0xff) ≡ map (λ byte. bit_xor byte 0xff) xs
unfolding xor_bytes
xor_bytes-ones [] = refl
xor_bytes-ones (x ∷ xs) = ap (λ ys. bit_xor x 0xff ∷ ys) (xor_bytes-ones xs)

pub returns : goal.returns
unfolding mask_of
returns c =
    let room = c.requires.room in
    let out = c.parity14_of_slice.new.out in
    c.put_mask.ensures
    ∙ ap (xor_bytes out) (take-replicate (length out) 1024 0xff (omega arith))
    ∙ xor_bytes-ones out
    ∙ ap (map (λ byte. bit_xor byte 0xff)) c.parity14_of_slice.ensures
