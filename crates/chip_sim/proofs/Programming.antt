-- Cells of which the first ones have an image ANDed into them.
use Rattle.std.proofs.Common.{◌≡◌, ◌<◌, ◌≤◌, ℕ, zero, suc, ◌+◌, List, [], ◌∷◌, ◌++◌, length, take, drop, refl, ap, arith, slice_set, slice_index, add-zero, add-one, zero-add, sym}
use Rattle.nand_model.specs.Chip.{map_from}

-- one more of the first elements is changed
pub map_from_step : (f : ℕ → ℕ → ℕ) (xs : List ℕ) (k i : ℕ) → k < length xs
    → take (suc k) (map_from i f xs) ++ drop (suc k) xs ≡ slice_set (take k (map_from i f xs) ++ drop k xs) k (f (i + k) (slice_index xs k))
map_from_step f [] k i h = absurd (omega (arith, h))
map_from_step f (x ∷ xs) zero i h = rw add-zero
map_from_step f (x ∷ xs) (suc k) i h =
    let e : (i + 1) + k ≡ i + suc k = omega arith in
    let less : k < length xs = omega (arith, h) in
    rw (← e) (ap (λ ys. f i x ∷ ys) (map_from_step f xs k (i + 1) less))

-- the next element is still as it was
pub map_from_edge : (f : ℕ → ℕ → ℕ) (xs : List ℕ) (k i : ℕ) → k < length xs
    → slice_index (take k (map_from i f xs) ++ drop k xs) k ≡ slice_index xs k
map_from_edge f [] k i h = absurd (omega (arith, h))
map_from_edge f (x ∷ xs) zero i h = refl
map_from_edge f (x ∷ xs) (suc k) i h = let less : k < length xs = omega (arith, h) in map_from_edge f xs k (i + 1) less

-- the next element of cells of which the first ones are changed
pub map_from_next : (f : ℕ → ℕ → ℕ) (xs cells : List ℕ) (k : ℕ) → k < length xs → cells ≡ take k (map_from 0 f xs) ++ drop k xs
    → slice_set cells k (f k (slice_index cells k)) ≡ take (k + 1) (map_from 0 f xs) ++ drop (k + 1) xs
map_from_next f xs cells k h so_far =
    let here : slice_index cells k ≡ slice_index xs k = rw so_far (map_from_edge f xs k 0 h) in
    let step = map_from_step f xs k 0 h in
    rw (here, so_far, add-one) (sym (rw zero-add at step))

-- all elements are changed
pub map_from_done : (f : ℕ → ℕ → ℕ) (xs : List ℕ) (k i : ℕ) → length xs ≤ k → take k (map_from i f xs) ++ drop k xs ≡ map_from i f xs
map_from_done f [] zero i h = refl
map_from_done f [] (suc k) i h = refl
map_from_done f (x ∷ xs) zero i h = absurd (omega (arith, h))
map_from_done f (x ∷ xs) (suc k) i h =
    let less : length xs ≤ k = omega (arith, h) in ap (λ ys. f i x ∷ ys) (map_from_done f xs k (i + 1) less)
