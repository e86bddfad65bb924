use Rattle.std.proofs.Common.{◌≡◌, ℕ, ◌+◌, ◌-◌, ◌≤◌, List, ◌++◌, length, take, drop, sym, ap, ap₂, ◌∙◌, arith}
use Rattle.std.proofs.lemmas.List.{length-append, length-drop, take-append-drop}
use Rattle.std.proofs.lemmas.Slice.{take-put_mid}
use Rattle.std.proofs.Math.Seq.{take-append_seam, take-length}
use borrow.Rule.Slice.PartMut.{put_mid}

-- a step and its parity, written into a buffer one after the other
pub joined_bytes : (b : ℕ) (s s' zs p p' : List ℕ) (k : ℕ) → length s ≡ b → s' ≡ s → p' ≡ p → take (b + length p) (put_mid b k (s' ++ zs) p') ≡ s ++ p
joined_bytes b s s' zs p p' k len es ep =
    let long : length s' ≡ b = ap length es ∙ len in
    let room : b ≤ length (s' ++ zs) = omega (arith, length-append s' zs) in
    let end : b + length p ≡ b + length p' = ap (λ xs. b + length xs) (sym ep) in
    take-put_mid b k (s' ++ zs) p' (b + length p) end room
    ∙ ap₂ (λ xs ys. xs ++ ys) (ap (λ n. take n (s' ++ zs)) (sym long) ∙ take-append_seam s' zs ∙ es) ep

-- the two parts of a word make the word
pub parts_joined : (b : ℕ) (w s p : List ℕ) (n : ℕ) → s ≡ take b w → p ≡ take n (drop b w) → n ≡ length w - b → s ++ p ≡ w
parts_joined b w s p n es ep en =
    let rest : take n (drop b w) ≡ drop b w = ap (λ k. take k (drop b w)) (en ∙ sym (length-drop b w)) ∙ take-length (drop b w) in
    ap₂ (λ xs ys. xs ++ ys) es (ep ∙ rest) ∙ take-append-drop b w
