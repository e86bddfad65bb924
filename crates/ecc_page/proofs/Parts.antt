-- Parts of lists.
use Rattle.std.proofs.Common.{◌≡◌, ℕ, zero, suc, ◌+◌, ◌-◌, ◌≤◌, List, [], ◌∷◌, ◌++◌, length, take, drop, sym, ap, ap₂, ◌∙◌, arith}
use Rattle.std.specs.Prelude.{slice_range}
use Rattle.std.proofs.Math.ListN.{set}
use Rattle.std.proofs.lemmas.List.{take-take, drop-take, drop-drop}
use borrow.Rule.Slice.PartMut.{put_mid}
use Rattle.std.proofs.lemmas.Slice.{take-put_mid, drop-put_mid}

-- a part of the front
pub slice-take : (xs : List ℕ) (a b p : ℕ) → a ≤ b → b ≤ p → slice_range (take p xs) a b ≡ slice_range xs a b
slice-take xs a b p low high =
    let e : p ≡ a + (p - a) = omega arith in
    ap (λ n. take (b - a) (drop a (take n xs))) e ∙ ap (take (b - a)) (drop-take a (p - a) xs) ∙ take-take (b - a) (p - a) (drop a xs) (omega arith)

-- a part of the rest
pub slice-drop : (xs : List ℕ) (a b p : ℕ) → slice_range (drop p xs) a b ≡ slice_range xs (p + a) (p + b)
slice-drop xs a b p =
    let e : b - a ≡ (p + b) - (p + a) = omega arith in
    ap₂ take e (drop-drop a p xs)

-- the first two values written over
pub take-two_set : (xs : List ℕ) (x y n : ℕ) → 2 ≤ length xs → 2 ≤ n → take n (set (set xs 0 x) 1 y) ≡ x ∷ y ∷ take (n - 2) (drop 2 xs)
take-two_set [] x y n long two = absurd (omega arith)
take-two_set (a ∷ []) x y n long two = absurd (omega arith)
take-two_set (a ∷ b ∷ xs) x y zero long two = absurd (omega arith)
take-two_set (a ∷ b ∷ xs) x y (suc zero) long two = absurd (omega arith)
take-two_set (a ∷ b ∷ xs) x y (suc (suc n)) long two = let e : n ≡ suc (suc n) - 2 = omega arith in ap (λ k. x ∷ y ∷ take k xs) e

-- a part written over, behind what is done
pub part_done : (xs new done : List ℕ) (a b : ℕ) → a ≤ b → b ≤ length xs → length new ≡ b - a → take a xs ≡ done
    → take b (put_mid a (b - a) xs new) ≡ done ++ new
part_done xs new done a b low high long e =
    let n : b ≡ a + length new = omega arith in
    take-put_mid a (b - a) xs new b n (omega arith) ∙ ap (λ ys. ys ++ new) e

-- and before what is left
pub part_left : (xs old new : List ℕ) (a b : ℕ) → a ≤ b → b ≤ length xs → length new ≡ b - a → drop a xs ≡ drop a old
    → drop b (put_mid a (b - a) xs new) ≡ drop b old
part_left xs old new a b low high long e =
    let n : a + (b - a) ≡ b = omega arith in
    drop-put_mid a (b - a) xs new b (omega arith) (omega arith) long
    ∙ ap (λ k. drop k xs) (sym n) ∙ sym (drop-drop (b - a) a xs) ∙ ap (drop (b - a)) e ∙ drop-drop (b - a) a old ∙ ap (λ k. drop k old) n
