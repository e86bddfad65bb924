-- The state of a chip whose pages, counts of calls and faults changed.
use Rattle.std.proofs.Common.{◌≡◌, ℕ, List}
use Rattle.nand_model.specs.Chip.{ChipState, PageState, SimFaults, WeakCount}
use Rattle.nand_model.specs.Sizes.{raw_len}
use Rattle.nand_model.specs.declared.geometry.Geometry.{Geometry}
use Rattle.chip_sim.specs.Store.{stored_pages}
use Rattle.chip_sim.specs.declared.page_store.PageStore.{PageStore}

-- the state of a chip of these sizes, pages, weak places and faults
abbrev pub chip_of : Geometry → (ℕ → PageState) → List WeakCount → ℕ → ChipState SimFaults
chip_of g pages weak faults = record { geometry = g; pages = pages; fault_state = record { raw = raw_len g; weak = weak }; faults = faults }

-- a chip with a changed store and changed counts
pub changed : (g : Geometry) (pages : ℕ → PageState) (weak : List WeakCount) (faults : ℕ) (store : PageStore) (counted : List WeakCount) (risen : ℕ)
    → store.geometry ≡ g → ((p : ℕ) → stored_pages store p ≡ pages p) → counted ≡ weak → risen ≡ faults
    → chip_of store.geometry (stored_pages store) counted risen ≡ chip_of g pages weak faults
changed g pages weak faults store counted risen sizes same count rise =
    λ i. chip_of (sizes i) (λ p. same p i) (count i) (rise i)
