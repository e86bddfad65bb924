-- The pages of a simulated chip, as they are kept.
use Rattle.std.specs.Prelude.{ℕ}
use Rattle.nand_model.specs.Chip.{PageState}
use Rattle.nand_model.specs.Sizes.{raw_len}
use Rattle.chip_sim.specs.FlipLog.{flips_of}
use Rattle.chip_sim.specs.Slots.{page_of, slot_at}
use Rattle.chip_sim.specs.declared.page_store.PageStore.{PageStore}

-- the pages as slots and flips have them
abbrev pub stored_pages : PageStore → ℕ → PageState
stored_pages store page =
    page_of (raw_len store.geometry) (flips_of store.log.flips page) (slot_at store.slots.items page)
