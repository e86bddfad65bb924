-- Texts of a stream, unit by unit.
use Rattle.std.proofs.Common.{◌≡◌, ℕ, suc, ◌+◌, ◌-◌, ◌*◌, ◌<◌, List, ◌++◌, take, drop, append_assoc, sym, ap, ◌∙◌, arith}
use Rattle.std.specs.Prelude.{flat_map}
use Rattle.std.proofs.Math.Nat.{suc-mul}
use Rattle.code_words.specs.Units.{pieces_of, unit_of, unit_read, unit_text, units_text}

-- what is left after a piece
pub left_after : (size n i long : ℕ) → i < n → long ≡ (n - i) * size → long - size ≡ (n - (i + 1)) * size
left_after size n i long h e =
    let one : n - i ≡ suc (n - (i + 1)) = omega arith in
    let whole = suc-mul (n - (i + 1)) size in
    let there : (n - i) * size ≡ (n - (i + 1)) * size + size = ap (λ k. k * size) one ∙ whole in
    omega arith

-- one more step is encoded
pub encoded_more : (t n i : ℕ) (out rest whole : List ℕ) → i < n → out ++ flat_map (unit_of t) (pieces_of 1024 (n - i) rest) ≡ whole
    → (out ++ unit_of t (take 1024 rest)) ++ flat_map (unit_of t) (pieces_of 1024 (n - (i + 1)) (drop 1024 rest)) ≡ whole
encoded_more t n i out rest whole h e =
    let one : n - i ≡ suc (n - (i + 1)) = omega arith in
    append_assoc out (unit_of t (take 1024 rest)) (flat_map (unit_of t) (pieces_of 1024 (n - (i + 1)) (drop 1024 rest)))
    ∙ ap (λ k. out ++ flat_map (unit_of t) (pieces_of 1024 k rest)) (sym one) ∙ e

-- one more unit is read
pub decoded_more : (t size n i : ℕ) (out rest whole : List ℕ) → i < n → out ++ units_text t i (pieces_of size (n - i) rest) ≡ whole
    → (out ++ unit_text i (unit_read t (take size rest))) ++ units_text t (i + 1) (pieces_of size (n - (i + 1)) (drop size rest)) ≡ whole
decoded_more t size n i out rest whole h e =
    let one : n - i ≡ suc (n - (i + 1)) = omega arith in
    append_assoc out (unit_text i (unit_read t (take size rest))) (units_text t (i + 1) (pieces_of size (n - (i + 1)) (drop size rest)))
    ∙ ap (λ k. out ++ units_text t i (pieces_of size k rest)) (sym one) ∙ e
