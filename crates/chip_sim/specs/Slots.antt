-- The slots of a chip's pages: a page that was programmed or flipped since its last good erase, or
-- an erased one of which no cells are kept.
use Rattle.std.specs.Prelude.{◌≡◌, ℕ, Bool, true, false, ◌&&◌, List, length, slice_index_or, fold}
use Rattle.nand_model.specs.Chip.{PageState, done_bits, programmed, torn_erased, torn_programmed}
use Rattle.nand_model.specs.Flips.{with_bit_turned}
use Rattle.nand_model.specs.declared.tear.Tear.{Tear}
use Rattle.chip_sim.specs.Blanks.{blank_cells}
use Rattle.chip_sim.specs.declared.slots.Slot.{Slot}
use Rattle.chip_sim.specs.declared.slots.Slot.TheVariants.{Blank, Kept}

-- the slot of a page; past the last page all are erased
abbrev pub slot_at : List Slot → ℕ → Slot
slot_at slots page = slice_index_or slots page (Blank false)

-- the cells that a slot stands for, in pages of so many bytes
abbrev pub cells_of : ℕ → Slot → List ℕ
cells_of raw (Blank torn) = blank_cells raw
cells_of raw (Kept page) = page.cells

-- whether the page's last program or erase was torn or failed
abbrev pub is_torn : Slot → Bool
is_torn (Blank torn) = torn
is_torn (Kept page) = page.torn

-- whether a bit of the page was flipped since its last good program or erase, or since the first
-- torn or failed one after that
abbrev pub is_flipped_since : Slot → Bool
is_flipped_since (Blank torn) = false
is_flipped_since (Kept page) = page.flipped_since

-- a slot has cells for a whole page, or none
abbrev pub IsWholeSlot : ℕ → Slot → Type 0
IsWholeSlot raw slot = length (cells_of raw slot) ≡ raw

-- the page that a slot and a list of flips stand for
abbrev pub page_of : ℕ → List ℕ → Slot → PageState
page_of raw flips slot =
    record { cells = cells_of raw slot; flips = flips; torn = is_torn slot; flipped_since = is_flipped_since slot }

-- a slot after a good program
abbrev pub programmed_slot : ℕ → List ℕ → Slot → Slot
programmed_slot raw image slot =
    Kept (record { cells = programmed (cells_of raw slot) image; torn = false; flipped_since = false })

-- a slot after a torn program
abbrev pub program_torn : ℕ → List ℕ → Tear → Slot → Slot
program_torn raw image tear slot = Kept (record {
  cells = torn_programmed (cells_of raw slot) image (done_bits raw tear 0);
  torn = true;
  flipped_since = is_torn slot && is_flipped_since slot;
})

-- a slot after a torn erase, by its page's number in the block
abbrev pub erase_torn : ℕ → Tear → ℕ → Slot → Slot
erase_torn raw tear q (Blank torn) = Blank true
erase_torn raw tear q (Kept page) = Kept (record {
  cells = torn_erased page.cells (done_bits raw tear q);
  torn = true;
  flipped_since = page.torn && page.flipped_since;
})

-- a slot after flips
abbrev pub flipped_slot : ℕ → List ℕ → Slot → Slot
flipped_slot raw bits slot =
    Kept (record { cells = fold with_bit_turned (cells_of raw slot) bits; torn = is_torn slot; flipped_since = true })
