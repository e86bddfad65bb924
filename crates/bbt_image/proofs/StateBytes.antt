-- The bytes of a table one by one.
use Rattle.std.proofs.Common.{◌≡◌, ℕ, zero, suc, ◌+◌, ◌-◌, ◌*◌, ◌/◌, ◌<◌, ◌≤◌, List, [], ◌∷◌, ◌++◌, length, take, drop, map, get_or, refl, sym, ap, ap₂, ◌∙◌, arith}
use Rattle.std.specs.Prelude.{slice_index, slice_range}
use Rattle.std.proofs.lemmas.List.{length-append, length-take-le, length-drop, take_at, take_more, take_more_set}
use Rattle.nand_model.specs.Table.{entries_of, state_read, states_in, table_bytes}

pub length-table_bytes : (states : List ℕ) → length (table_bytes states) ≡ length states / 4
length-table_bytes (a ∷ b ∷ c ∷ d ∷ states) = let rest = length-table_bytes states in omega arith
length-table_bytes [] = refl
length-table_bytes (a ∷ []) = refl
length-table_bytes (a ∷ b ∷ []) = refl
length-table_bytes (a ∷ b ∷ c ∷ []) = refl

-- the n-th byte has the states from 4 n on
pub table_byte : (states : List ℕ) (n : ℕ) → n < length states / 4 → slice_index (table_bytes states) n ∷ [] ≡ table_bytes (slice_range states (4 * n) (4 * n + 4))
table_byte (a ∷ b ∷ c ∷ d ∷ states) zero there = refl
table_byte (a ∷ b ∷ c ∷ d ∷ states) (suc n) there =
    let start : 4 * suc n ≡ suc (suc (suc (suc (4 * n)))) = omega arith in
    let count : (4 * n + 4) - 4 * n ≡ (4 * suc n + 4) - 4 * suc n = omega arith in
    table_byte states n (omega arith)
    ∙ sym (ap₂ (λ i j. table_bytes (take i (drop j (a ∷ b ∷ c ∷ d ∷ states)))) (sym count) start)
table_byte [] n there = absurd (omega arith)
table_byte (a ∷ []) n there = absurd (omega arith)
table_byte (a ∷ b ∷ []) n there = absurd (omega arith)
table_byte (a ∷ b ∷ c ∷ []) n there = absurd (omega arith)

-- one more byte is written
pub byte_more : (states out : List ℕ) (n packed byte : ℕ) → n < length out → n < length states / 4
    → entries_of packed ≡ slice_range states (4 * n) (4 * n + 4) → byte ∷ [] ≡ table_bytes (entries_of packed)
    → take n out ≡ take n (table_bytes states)
    → take (n + 1) (Rattle.std.specs.Prelude.slice_set out n byte) ≡ take (n + 1) (table_bytes states)
byte_more states out n packed byte inside there is written done =
    let long = length-table_bytes states in
    let one : byte ∷ [] ≡ slice_index (table_bytes states) n ∷ [] = written ∙ ap table_bytes is ∙ sym (table_byte states n there) in
    take_more_set out n byte inside ∙ ap₂ (λ xs ys. xs ++ ys) done one ∙ sym (take_more (table_bytes states) n 0 (omega arith))

-- the states of one more byte
states_in-push : (bytes : List ℕ) (byte : ℕ) → states_in (bytes ++ byte ∷ []) ≡ states_in bytes ++ map state_read (entries_of byte)
states_in-push [] byte = refl
states_in-push (first ∷ bytes) byte = ap (λ states. map state_read (entries_of first) ++ states) (states_in-push bytes byte)

pub length-states_in : (bytes : List ℕ) → length (states_in bytes) ≡ 4 * length bytes
length-states_in [] = refl
length-states_in (byte ∷ bytes) = let rest = length-states_in bytes in omega arith

-- one more byte is read
pub states_more : (bytes table : List ℕ) (n changed : ℕ) → n < length bytes → length table ≡ 4 * length bytes
    → entries_of changed ≡ map state_read (entries_of (get_or bytes n 0))
    → take (4 * n) table ≡ states_in (take n bytes)
    → take (4 * (n + 1)) (take (4 * n) table ++ entries_of changed ++ drop (4 * n + 4) table) ≡ states_in (take (n + 1) bytes)
states_more bytes table n changed inside long is done =
    let front : length (take (4 * n) table) ≡ 4 * n = length-take-le (4 * n) table (omega arith) in
    let place : length (take (4 * n) table ++ entries_of changed) ≡ 4 * (n + 1) =
    length-append (take (4 * n) table) (entries_of changed) ∙ omega arith in
    take_at (take (4 * n) table ++ entries_of changed) (drop (4 * n + 4) table) (4 * (n + 1)) place
    ∙ ap₂ (λ xs ys. xs ++ ys) done is
    ∙ sym (ap states_in (take_more bytes n 0 inside) ∙ states_in-push (take n bytes) (get_or bytes n 0))

pub states_long : (table : List ℕ) (n changed : ℕ) → 4 * n + 4 ≤ length table
    → length (take (4 * n) table ++ entries_of changed ++ drop (4 * n + 4) table) ≡ length table
states_long table n changed inside =
    let front : length (take (4 * n) table) ≡ 4 * n = length-take-le (4 * n) table (omega arith) in
    length-append (take (4 * n) table ++ entries_of changed) (drop (4 * n + 4) table)
    ∙ ap₂ (λ a b. a + b) (length-append (take (4 * n) table) (entries_of changed) ∙ ap (λ a. a + 4) front) (length-drop (4 * n + 4) table)
    ∙ omega arith
