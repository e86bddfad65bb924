-- The boots of the tests can be started on two small chips.
use Rattle.std.proofs.Common.{◌≡◌, ◌<◌, ◌≤◌, arith, ℕ, zero, suc, true, false, List, [], ◌∷◌, Some, refl, ap, sym, subst, subst₂, get_or, length}
use Rattle.std.specs.Prelude.{slice_get, All}
use Rattle.nand_model.specs.Flips.{FitsBits}
use Rattle.nand_model.specs.Chip.{ChipState}
use Rattle.nand_model.specs.declared.words.Command.{Command}
use Rattle.nand_model.specs.declared.words.Flip.{Flip}
use Rattle.nand_model.specs.Partitions.{part_of, command_device}
use Rattle.command_model.specs.Runnable.{Fits}
use Rattle.command_model.specs.Command.{command_blocks}
use Rattle.command_model.specs.Boot.{Boot, AreAscending}
use Rattle.run_model.specs.Course.{sizes_of}
use Rattle.run_model.specs.Start.{boot_cost, CanRunBoot, IsOnChip, IsOfDevice, IsOnFlash}
use Rattle.ctl_core.specs.Start.{CanStart}
use Rattle.fault_plan.specs.BootFaults.{BootFaults}
use Rattle.ctl_tests.specs.Small.{IsSmall, IsSmallFlip, ArePairOfSmall, no_faults, erasing, asking, marking, dumping, boot_of, first_block, reading_sessions, small_parts, small_sessions, small_sizes}

all_one : {A : Type 0} (P : A → Type 0) (x : A) → P x → All P (x ∷ [])
all_one P x p zero d h = p
all_one P x p (suc k) d h = absurd (omega arith)

all_more : {A : Type 0} (P : A → Type 0) (x : A) (xs : List A) → P x → All P xs → All P (x ∷ xs)
all_more P x xs p more zero d h = p
all_more P x xs p more (suc k) d h = more k d (omega arith)

all_two : {A : Type 0} (P : A → Type 0) (x y : A) → P x → P y → All P (x ∷ y ∷ [])
all_two P x y p q = all_more P x (y ∷ []) p (all_one P y q)

ascending : AreAscending small_sessions
ascending zero zero a b l h g = absurd (omega arith)
ascending zero (suc zero) a b l h g =
    let one : (0, erasing 0 ∷ asking 1 ∷ []) ≡ a = cc (h) in
    let other : (1, asking 0 ∷ marking 1 ∷ []) ≡ b = cc (g) in
    let first : a.0 ≡ 0 = ap (λ (x : ℕ × List Command). x.0) (sym one) in
    let second : b.0 ≡ 1 = ap (λ (x : ℕ × List Command). x.0) (sym other) in
    omega (arith, first, second)
ascending zero (suc (suc j)) a b l h g = cc
ascending (suc zero) zero a b l h g = absurd (omega arith)
ascending (suc zero) (suc zero) a b l h g = absurd (omega arith)
ascending (suc zero) (suc (suc j)) a b l h g = cc
ascending (suc (suc i)) j a b l h g = cc

alone : AreAscending reading_sessions
alone zero zero a b l h g = absurd (omega arith)
alone zero (suc j) a b l h g = cc
alone (suc i) j a b l h g = cc

erases : (dev : ℕ) → Fits small_sizes (erasing dev)
erases dev = record { size = (omega arith, omega arith); first = omega arith; last = omega arith }

asks : (dev : ℕ) → Fits small_sizes (asking dev)
asks dev = (omega arith, omega arith)

marks : (dev : ℕ) → Fits small_sizes (marking dev)
marks dev = (omega arith, omega arith)

dumps : Fits small_sizes (dumping 0)
dumps = record { size = (omega arith, omega arith); first = omega arith; last = omega arith }

-- the commands of all sessions are such
abbrev AllAre : (Command → Type 0) → List (ℕ × List Command) → Type 0
AllAre P sessions = All (λ (s : ℕ × List Command). All P s.1) sessions

small_all : (P : Command → Type 0) → ((dev : ℕ) → dev < 2 → P (erasing dev)) → ((dev : ℕ) → dev < 2 → P (asking dev))
    → ((dev : ℕ) → dev < 2 → P (marking dev)) → AllAre P small_sessions
small_all P e a m = all_two (λ (s : ℕ × List Command). All P s.1) (0, erasing 0 ∷ asking 1 ∷ []) (1, asking 0 ∷ marking 1 ∷ [])
    (all_two P (erasing 0) (asking 1) (e 0 (omega arith)) (a 1 (omega arith))) (all_two P (asking 0) (marking 1) (a 0 (omega arith)) (m 1 (omega arith)))

reading_all : (P : Command → Type 0) → P (dumping 0) → AllAre P reading_sessions
reading_all P d = all_one (λ (s : ℕ × List Command). All P s.1) (0, dumping 0 ∷ dumping 0 ∷ dumping 0 ∷ [])
    (all_more P (dumping 0) (dumping 0 ∷ dumping 0 ∷ []) d (all_two P (dumping 0) (dumping 0) d d))

module _ {W : Type 0} where
  -- a chip with the sizes of the tests
  abbrev sized : ChipState W → ChipState W
  sized s = record s { geometry = small_sizes }

  same_sized : (s : ChipState W) → IsSmall s → sized s ≡ s
  same_sized s p = λ j. record { geometry = sym p j; pages = s.pages; fault_state = s.fault_state; faults = s.faults }

  module _ (s t : ChipState W) where
    abbrev pair : List (ChipState W)
    pair = sized s ∷ sized t ∷ []

    chip_there : (k : ℕ) → k < 2 → (x : ChipState W) × (slice_get pair k ≡ Some x) × (x.geometry ≡ small_sizes)
    chip_there zero h = (sized s, refl, refl)
    chip_there (suc zero) h = (sized t, refl, refl)
    chip_there (suc (suc k)) h = absurd (omega arith)

    on_flash : (flip : Flip) → IsSmallFlip flip → IsOnFlash pair flip
    on_flash flip f =
        let x = chip_there flip.chip f.chip in
        (x.0, x.1, subst (λ g. FitsBits g flip.page flip.bits) (sym x.2) (record { page_there = f.page; bits_there = f.bits_there }))

    -- a boot of these sessions can be started
    can_start : (faults : BootFaults) (sessions : List (ℕ × List Command)) → All IsSmallFlip faults.flips → length faults.flips ≤ 65536 → AllAre (IsOfDevice small_parts) sessions
        → CanRunBoot (boot_of faults sessions) pair → AreAscending sessions → boot_cost (boot_of faults sessions) pair ≤ 16777216 → CanStart (boot_of faults sessions) pair
    can_start faults sessions small few devices runnable ascending cheap = record {
      few = omega arith;
      parts = all_two (IsOnChip pair) (first_block 0) (first_block 1) (sized s, refl, (omega arith, omega arith)) (sized t, refl, (omega arith, omega arith));
      flips = λ k d h. on_flash (get_or faults.flips k d) (small k d h);
      few_flips = record { count = few; bits = λ k d h. (small k d h).few };
      devices = devices;
      runnable = runnable;
      ascending = ascending;
      cheap = cheap;
    }

    small_can : CanStart (boot_of no_faults small_sessions) pair
    small_can = can_start no_faults small_sessions (λ k d h. absurd (omega arith)) (omega arith)
        (small_all (IsOfDevice small_parts) (λ dev h. device dev h (erasing dev) refl refl) (λ dev h. device dev h (asking dev) refl refl)
        (λ dev h. device dev h (marking dev) refl refl))
        (small_all (λ c. Fits (sizes_of (boot_of no_faults small_sessions) pair c) c) (λ dev h. erases dev) (λ dev h. asks dev) (λ dev h. marks dev)) ascending (omega arith)
      where
        device : (dev : ℕ) → dev < 2 → (command : Command) → command_device command ≡ dev → command_blocks command ≡ 1 → IsOfDevice small_parts command
        device zero h command e n = (first_block 0, ap (part_of small_parts) e, n)
        device (suc zero) h command e n = (first_block 1, ap (part_of small_parts) e, n)
        device (suc (suc dev)) h command e n = absurd (omega arith)

    reading_can : (faults : BootFaults) → All IsSmallFlip faults.flips → length faults.flips ≤ 65536 → CanStart (boot_of faults reading_sessions) pair
    reading_can faults small few = can_start faults reading_sessions small few
        (reading_all (IsOfDevice small_parts) (first_block 0, refl, refl))
        (reading_all (λ c. Fits (sizes_of (boot_of faults reading_sessions) pair c) c) dumps) alone (omega arith)

-- two chips of these sizes are such
pub on_pair : {W : Type 0} (starts : List (ChipState W)) (boot : Boot) → ArePairOfSmall starts → ((s t : ChipState W) → CanStart boot (pair s t)) → CanStart boot starts
on_pair [] boot h can = absurd h
on_pair (s ∷ []) boot h can = absurd h
on_pair (s ∷ t ∷ []) boot h can = subst₂ (λ x y. CanStart boot (x ∷ y ∷ [])) (same_sized s h.0) (same_sized t h.1) (can s t)
on_pair (s ∷ t ∷ u ∷ rest) boot h can = absurd h

pub small_starts : {W : Type 0} (starts : List (ChipState W)) → ArePairOfSmall starts → CanStart (boot_of no_faults small_sessions) starts
small_starts starts h = on_pair starts (boot_of no_faults small_sessions) h (λ s t. small_can s t)

pub reading_starts : {W : Type 0} (starts : List (ChipState W)) (faults : BootFaults) → ArePairOfSmall starts → All IsSmallFlip faults.flips → length faults.flips ≤ 65536
    → CanStart (boot_of faults reading_sessions) starts
reading_starts starts faults h small few = on_pair starts (boot_of faults reading_sessions) h (λ s t. reading_can s t faults small few)
