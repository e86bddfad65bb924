-- Flags of places.
use Rattle.std.specs.Prelude.{◌≡◌, ℕ, ◌+◌, ◌<◌, ◌≤◌, Bool, true, false, ◌&&◌, ◌||◌, nat_lt, nat_le, List, length, slice_index_or}

-- the flag of a place; there is none past the end
abbrev pub flag_at : List Bool → ℕ → Bool
flag_at flags n = slice_index_or flags n false

-- flags of so many places, each of which tells whether a test holds there
pub record Tells (flags : List Bool) (count : ℕ) (test : ℕ → Bool) : Type 0 where
  pub count_is : length flags ≡ count
  pub flag_is : (n : ℕ) → flag_at flags n ≡ test n

-- so many places from one on have no flag
abbrev pub IsFreeRun : List Bool → (start count : ℕ) → Type 0
IsFreeRun flags start count = (n : ℕ) → start ≤ n → n < start + count → flag_at flags n ≡ false

-- one of them has its flag
abbrev pub IsTakenRun : List Bool → (start count : ℕ) → Type 0
IsTakenRun flags start count = (n : ℕ) × (start ≤ n) × (n < start + count) × (flag_at flags n ≡ true)

-- the places from one on before an end have their flags too
abbrev pub HasRun : (old new : List Bool) (start end : ℕ) → Type 0
HasRun old new start end = (n : ℕ) → flag_at new n ≡ (flag_at old n || (nat_le start n && nat_lt n end))
