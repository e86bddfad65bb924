-- What befalls a simulated chip without weak places befalls a flash that was told of its failures.
use Rattle.std.proofs.Common.{◌≡◌, ℕ, false, arith, List, [], ◌∷◌, refl, ap, length}
use Rattle.nand_model.specs.Chip.{Call, ChipState, Complete, DoneBits, EraseCall, EraseEvent, Flipped, PageState, PowerCut, SimFaults, WeakCount, after_trace, flip_events, happens, sim_faults}
use Rattle.nand_model.specs.declared.geometry.Geometry.{Geometry}
use Rattle.chip_tests.specs.Failures.{is_told, told_after, told_faults, told_of}
use Rattle.chip_tests.specs.declared.failures.Failures.{Failures}

-- a simulated chip of these parts
abbrev sim_of : Geometry → (ℕ → PageState) → ℕ → List WeakCount → ℕ → ChipState SimFaults
sim_of g pages raw weak faults =
    record { geometry = g; pages = pages; fault_state = record { raw = raw; weak = weak }; faults = faults }

-- the flash after a call, whose simulated chip is this one then
abbrev told_then : Failures → Call → ℕ → ChipState SimFaults → ChipState Failures
told_then f call faults t = told_of t (told_after f call) faults

good_erase_of : (g : Geometry) (pages : ℕ → PageState) (raw n : ℕ) (weak : List WeakCount) (t : ChipState SimFaults)
    (f : Failures) (faults block : ℕ) → length weak ≡ 0 → is_told f.erases ≡ false
    → t ≡ happens sim_faults (sim_of g pages raw weak n) (Complete (EraseEvent block))
    → told_then f (EraseCall block) faults t
    ≡ happens told_faults (told_of (sim_of g pages raw weak n) f faults) (Complete (EraseEvent block))
good_erase_of g pages raw n [] t f faults block none good same = rw good (ap (told_then f (EraseCall block) faults) same)
good_erase_of g pages raw n (w ∷ weak) t f faults block none good same = absurd (omega (arith, none))

-- an erase that is not told to fail
pub good_erase : (s t : ChipState SimFaults) (f : Failures) (faults block : ℕ) → length s.fault_state.weak ≡ 0
    → is_told f.erases ≡ false → t ≡ happens sim_faults s (Complete (EraseEvent block))
    → told_then f (EraseCall block) faults t ≡ happens told_faults (told_of s f faults) (Complete (EraseEvent block))
good_erase s t f faults block none good same =
    good_erase_of s.geometry s.pages s.fault_state.raw s.faults s.fault_state.weak t f faults block none good same

-- an erase that a power cut tears
pub torn_erase : (s t : ChipState SimFaults) (f : Failures) (faults block : ℕ) (done : DoneBits)
    → t ≡ happens sim_faults s (PowerCut (EraseEvent block) done)
    → told_then f (EraseCall block) faults t ≡ happens told_faults (told_of s f faults) (PowerCut (EraseEvent block) done)
torn_erase s t f faults block done same = ap (told_then f (EraseCall block) faults) same

-- flips
pub flips_told : (s : ChipState SimFaults) (f : Failures) (faults page : ℕ) (bits : List ℕ)
    → told_of (after_trace sim_faults s (flip_events page bits)) f faults
    ≡ after_trace told_faults (told_of s f faults) (flip_events page bits)
flips_told s f faults page [] = refl
flips_told s f faults page (bit ∷ bits) = flips_told (happens sim_faults s (Flipped page bit)) f faults page bits

-- flips add no weak place
pub flips_keep_weak : (s : ChipState SimFaults) (page : ℕ) (bits : List ℕ)
    → (after_trace sim_faults s (flip_events page bits)).fault_state.weak ≡ s.fault_state.weak
flips_keep_weak s page [] = refl
flips_keep_weak s page (bit ∷ bits) = flips_keep_weak (happens sim_faults s (Flipped page bit)) page bits
