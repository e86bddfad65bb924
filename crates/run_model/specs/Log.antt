-- The page events of a controller in a boot as one list, and what befalls each chip by it.
use Rattle.std.specs.Prelude.{◌≡◌, ℕ, ◌+◌, ◌<◌, ◌==◌, if◌then◌else◌, List, [], ◌∷◌, ◌++◌, length, map, flat_map, drop, slice_get, slice_index_or, Option, Some, None, ⊤}
use Rattle.nand_model.specs.declared.tear.Tear.{Tear}
use Rattle.nand_model.specs.declared.words.Flip.{Flip}
use Rattle.nand_model.specs.Sizes.{raw_len}
use Rattle.nand_model.specs.Flips.{due_flips}
use Rattle.nand_model.specs.Chip.{ChipState, FaultModel, ChipEvent, Complete, PowerCut, Flipped, PageEvent, done_bits, after_trace}
use Rattle.command_model.specs.Boot.{Boot}
use Rattle.run_model.specs.Course.{Course, end_states}
use Rattle.nand_model.specs.Cuts.{tear_at}
use Rattle.run_model.specs.History.{ChipBoot, numbered_of, trace_of}

-- a page event and the chip on which it was done. The n-th of a boot has number n
abbrev pub Log : Type 0
Log = List (ℕ × PageEvent)

-- the flips of chip k among these, in their order, made before event n
abbrev pub flips_of : ℕ → ℕ → List Flip → List (ℕ × ChipEvent)
flips_of k n flips =
    flat_map (λ (flip : Flip). if flip.chip == k then map (λ bit. (n, Flipped flip.page bit)) flip.bits else []) flips

-- the flips of chip k that are due before event n
abbrev pub due_events : Boot → ℕ → ℕ → List (ℕ × ChipEvent)
due_events boot k n = flips_of k n (due_flips boot.flips n)

-- a page event, torn where the cut names it
abbrev pub torn_by_cut : ℕ → PageEvent → Option Tear → ChipEvent
torn_by_cut raw e None = Complete e
torn_by_cut raw e (Some tear) = PowerCut e (done_bits raw tear)

-- what befalls chip k, whose pages have so many raw bytes, while the controller does these page
-- events, the first of which has number n
abbrev pub befalls : Boot → ℕ → ℕ → ℕ → Log → List (ℕ × ChipEvent)
befalls boot k raw n [] = []
befalls boot k raw n (x ∷ log) =
    due_events boot k n ++ (if x.0 == k then (n, torn_by_cut raw x.1 (tear_at boot.cut n)) ∷ [] else [])
    ++ befalls boot k raw (n + 1) log

-- these lives are what befell the chips of a boot by this list, and they lead to these states
pub record AreOfLog {W : Type 0} (model : FaultModel W) (boot : Boot) (starts : List (ChipState W))
    (lives : List ChipBoot) (ends : List (ChipState W)) (log : Log) : Type 0 where
  pub on_chips : (n : ℕ) (x : ℕ × PageEvent) → slice_get log n ≡ Some x → x.0 < length starts
  pub traces : (k : ℕ) (s : ChipState W) (b : ChipBoot) → slice_get starts k ≡ Some s → slice_get lives k ≡ Some b
      → numbered_of b ≡ befalls boot k (raw_len s.geometry) 1 log
  pub ends_are : (k : ℕ) (s : ChipState W) (b : ChipBoot) → slice_get starts k ≡ Some s → slice_get lives k ≡ Some b
      → slice_get ends k ≡ Some (after_trace model s (trace_of b))

-- the first boot of each life (each life has one, where the lives are those of as many boots)
abbrev pub first_boots : List (List ChipBoot) → List ChipBoot
first_boots lives = map (λ (life : List ChipBoot). slice_index_or life 0 (record {
  attach = [];
  operations = [];
  flips_after = [];
})) lives

-- the later boots of each life
abbrev pub later_boots : List (List ChipBoot) → List (List ChipBoot)
later_boots lives = map (λ (life : List ChipBoot). drop 1 life) lives

-- these lives, one per chip, are in each boot what befell the chips by its list, from the states in
-- which the course of the boot before left them to those in which its own leaves them
abbrev pub AreOfLogs : {W : Type 0} → FaultModel W → List (ChipState W) → List Boot → List (Course W)
    → List (List ChipBoot) → List Log → Type 0
AreOfLogs model starts [] [] lives [] = ⊤
AreOfLogs model starts (boot ∷ boots) (course ∷ courses) lives (log ∷ logs) =
    AreOfLog model boot starts (first_boots lives) (end_states course) log
    × AreOfLogs model (end_states course) boots courses (later_boots lives) logs
AreOfLogs model starts _ _ lives _ = ⊥
