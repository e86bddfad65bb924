-- Flips of bits of a page, in the order of its bits.
use Rattle.std.specs.Prelude.{ℕ, ◌&&◌, nat_le, nat_lt, List, count_by, slice_index, slice_set, bit_xor, fold, ◌*◌, ◌<◌, All, Bool, ◌==◌, filter}
use Rattle.code_model.specs.Bits.{byte_with_bit, value_of_bit}
use Rattle.nand_model.specs.Sizes.{page_count, raw_len}
use Rattle.nand_model.specs.declared.geometry.Geometry.{Geometry}
use Rattle.nand_model.specs.declared.words.Flip.{Flip}

-- the page with bit k turned
abbrev pub with_bit_turned : List ℕ → ℕ → List ℕ
with_bit_turned cells k =
    slice_set cells (byte_with_bit k) (bit_xor (slice_index cells (byte_with_bit k)) (value_of_bit k))

-- how many of these flips were made in bits from one up to but not including another
abbrev pub flips_between : List ℕ → ℕ → ℕ → ℕ
flips_between flips from to = count_by (λ bit. nat_le from bit && nat_lt bit to) flips

-- the page with these bits turned
abbrev pub with_bits_turned : List ℕ → List ℕ → List ℕ
with_bits_turned cells bits = fold with_bit_turned cells bits

-- a page of the chip, and bits of such a page
pub record FitsBits (g : Geometry) (page : ℕ) (bits : List ℕ) : Type 0 where
  pub page_there : page < page_count g
  pub bits_there : All (λ bit. bit < 8 * raw_len g) bits

-- the flip's bits turn over before this event
abbrev pub is_due : ℕ → Flip → Bool
is_due event flip = flip.before == event

-- the flips that are due before an event, in the order of their lines
abbrev pub due_flips : List Flip → ℕ → List Flip
due_flips flips event = filter (is_due event) flips
