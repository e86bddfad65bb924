-- The bytes of states as they are written and read: each of the 256 is tried.
use Rattle.std.proofs.Common.{◌≡◌, ℕ, ◌-◌, ◌*◌, ◌/◌, ◌%◌, ◌<◌, Bool, true, false, [], ◌∷◌, get_or, map, refl, sym, ap, ◌∙◌, zero-add}
use Rattle.std.specs.Prelude.{bit_and, bit_or, bytes_eq}
use Rattle.std.specs.List.{list_all, range_with_len}
use Rattle.std.proofs.lemmas.Bool.{false≢true}
use Rattle.std.proofs.lemmas.List.FromFn.{get_or-range_with_len}
use Rattle.std.proofs.lemmas.List.Folds.{list_all_at}
use Rattle.std.proofs.lemmas.Slice.Eq.{bytes_eq-Decides}
use Rattle.nand_model.specs.Table.{entries_of, state_read, table_bytes}

-- what holds of all bytes holds of each
each_byte : (test : ℕ → Bool) → list_all test (range_with_len 0 256) ≡ true → (byte : ℕ) → byte < 256 → test byte ≡ true
each_byte test all byte small = on (test byte) refl
  where
    on : (t : Bool) → test byte ≡ t → t ≡ true
    on true is = refl
    on false is =
        let place : get_or (range_with_len 0 256) byte 0 ≡ byte = get_or-range_with_len 0 256 byte 0 small ∙ zero-add byte in
        absurd (false≢true (sym (list_all_at test (range_with_len 0 256) byte 0 small (ap test place ∙ is)) ∙ all))

abbrev written : ℕ → ℕ
written states = 255 - bit_or (bit_and states 85) (bit_and (bit_and states 85) (bit_and (states / 2) 85) * 2 % 256)

abbrev read : ℕ → ℕ
read byte = 255 - bit_or (bit_and (bit_and byte 85) (bit_and (byte / 2) 85)) (bit_or (bit_and byte 85) (bit_and (byte / 2) 85) * 2 % 256)

all_written : list_all (λ states. bytes_eq (written states ∷ []) (table_bytes (entries_of states))) (range_with_len 0 256) ≡ true
all_written = refl

all_read : list_all (λ byte. bytes_eq (entries_of (read byte)) (map state_read (entries_of byte))) (range_with_len 0 256) ≡ true
all_read = refl

pub byte_is_written : (states : ℕ) → states < 256 → written states ∷ [] ≡ table_bytes (entries_of states)
byte_is_written states small =
    (bytes_eq-Decides (written states ∷ []) (table_bytes (entries_of states))).0
    (each_byte (λ s. bytes_eq (written s ∷ []) (table_bytes (entries_of s))) all_written states small)

pub states_are_read : (byte : ℕ) → byte < 256 → entries_of (read byte) ≡ map state_read (entries_of byte)
states_are_read byte small =
    (bytes_eq-Decides (entries_of (read byte)) (map state_read (entries_of byte))).0
    (each_byte (λ b. bytes_eq (entries_of (read b)) (map state_read (entries_of b))) all_read byte small)
