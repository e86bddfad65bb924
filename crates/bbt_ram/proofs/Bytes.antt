-- The four entries of a byte, by shifts and masks.
use Rattle.std.proofs.Common.{◌≡◌, ℕ, zero, suc, ◌+◌, ◌-◌, ◌*◌, ◌/◌, ◌%◌, ◌^◌, ◌<◌, ◌≤◌, Bool, true, List, [], ◌∷◌, refl, ap, ap₂, sym, ◌∙◌, arith}
use Rattle.std.specs.Prelude.{slice_index, slice_set, bit_and, bit_or, bytes_eq}
use Rattle.std.specs.List.{list_all}
use Rattle.std.proofs.lemmas.Nat.{and_mask}
use Rattle.std.proofs.lemmas.Slice.Eq.{bytes_eq-Decides}
use Rattle.std.proofs.lemmas.Bool.{and_parts}
use Rattle.nand_model.specs.Sizes.{numbers_from}
use Rattle.nand_model.specs.Table.{entries_of}

-- the entry at a place
pub entry_is : (byte place : ℕ) → place < 4 → bit_and (byte / 2 ^ (2 * place)) 3 ≡ slice_index (entries_of byte) place
entry_is byte zero h = and_mask (byte / 1) 2 ∙ omega arith
entry_is byte (suc zero) h = and_mask (byte / 4) 2
entry_is byte (suc (suc zero)) h = and_mask (byte / 16) 2
entry_is byte (suc (suc (suc zero))) h = and_mask (byte / 64) 2
entry_is byte (suc (suc (suc (suc place)))) h = absurd (omega arith)

-- a byte with another entry at a place
abbrev changed : ℕ → ℕ → ℕ → ℕ
changed place state byte = bit_or (bit_and byte (255 - 3 * 2 ^ (2 * place) % 256)) (state * 2 ^ (2 * place) % 256)

abbrev changes_one : ℕ → ℕ → ℕ → Bool
changes_one place state byte = bytes_eq (entries_of (changed place state byte)) (slice_set (entries_of byte) place state)

in_list : (test : ℕ → Bool) (first n k : ℕ) → list_all test (numbers_from first n) ≡ true → k < n → test (first + k) ≡ true
in_list test first zero k all h = absurd (omega arith)
in_list test first (suc n) zero all h = let z : first + 0 ≡ first = omega arith in ap test z ∙ (and_parts (test first) (list_all test (numbers_from (first + 1) n)) all).0
in_list test first (suc n) (suc k) all h =
    let z : first + suc k ≡ (first + 1) + k = omega arith in
    ap test z ∙ in_list test (first + 1) n k (and_parts (test first) (list_all test (numbers_from (first + 1) n)) all).1 (omega arith)

in_first : (test : ℕ → Bool) (n k : ℕ) → list_all test (numbers_from 0 n) ≡ true → k < n → test k ≡ true
in_first test n k all h = let z : 0 + k ≡ k = omega arith in ap test (sym z) ∙ in_list test 0 n k all h

abbrev each_state : ℕ → ℕ → Bool
each_state place byte = list_all (λ state. changes_one place state byte) (numbers_from 0 4)

abbrev each_place : ℕ → Bool
each_place byte = list_all (λ place. each_state place byte) (numbers_from 0 4)

-- all places, all states and all bytes
each_byte : list_all each_place (numbers_from 0 256) ≡ true
each_byte = refl

pub with_entry_changes : (byte place state : ℕ) → byte < 256 → place < 4 → state < 4 → entries_of (changed place state byte) ≡ slice_set (entries_of byte) place state
with_entry_changes byte place state hb hp hs =
    (bytes_eq-Decides (entries_of (changed place state byte)) (slice_set (entries_of byte) place state)).0
    (in_first (λ s. changes_one place s byte) 4 state (in_first (λ p. each_state p byte) 4 place (in_first each_place 256 byte each_byte hb) hp) hs)
