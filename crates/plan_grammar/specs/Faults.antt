-- The lines of boots, and of their flips and cuts.
use Rattle.std.specs.Prelude.{ℕ, ◌*◌, Bool, true, false, not, ◌&&◌, ◌==◌, nat_lt, List, [], ◌∷◌, ◌++◌, length, sum_by, count_by, slice_get, Option, Some, None, Result, Ok, Err}
use Rattle.std.specs.List.{list_all, list_any}
use Rattle.lab_text.specs.Text.{number_of}
use Rattle.nand_model.specs.Sizes.{page_count, raw_len}
use Rattle.plan_grammar.specs.declared.kind.PlanKind.{PlanKind}
use Rattle.plan_grammar.specs.declared.kind.PlanKind.TheVariants.{WrongPlace, BadWords, OutOfChip, TooLarge}
use Rattle.plan_grammar.specs.declared.lines.PlanLines.{PlanLines}
use Rattle.plan_grammar.specs.declared.lines.ChipLines.{ChipLines}
use Rattle.plan_grammar.specs.declared.lines.BootLines.{BootLines}
use Rattle.plan_grammar.specs.declared.lines.FaultLine.{FaultLine}
use Rattle.plan_grammar.specs.declared.lines.FaultLine.TheVariants.{Flip, Cut}
use Rattle.plan_grammar.specs.Limits.{most_boots, most_flips}
use Rattle.plan_grammar.specs.Rules.{◌>>=◌, rule, there, is_empty, last_of, with_last}
use Rattle.plan_grammar.specs.Forms.{three_words, number, small_number, positive_number, small_numbers, tear, chip_numbers}
use Rattle.plan_grammar.specs.Hardware.{has_chip}

-- `boot`, where the last controller has a chip
unfoldable pub boot_line : PlanLines → List (List ℕ) → Result PlanLines PlanKind
boot_line plan words = do
  _ ← rule (has_chip plan) WrongPlace
  _ ← rule (is_empty words) BadWords
  _ ← rule (nat_lt (length plan.boots) most_boots) TooLarge
  Ok (record plan { boots = plan.boots ++ record { faults = []; sessions = []; schedule = [] } ∷ [] })

-- the last boot
abbrev pub last_boot : PlanLines → Result BootLines PlanKind
last_boot plan = there (last_of plan.boots) WrongPlace

-- the plan with another last boot
abbrev pub with_last_boot : (BootLines → BootLines) → PlanLines → PlanLines
with_last_boot change plan = record plan { boots = with_last change plan.boots }

-- the plan with one more fault in the last boot
abbrev pub with_fault : FaultLine → PlanLines → PlanLines
with_fault fault plan = with_last_boot (λ (boot : BootLines). record boot { faults = boot.faults ++ fault ∷ [] }) plan

-- the boot whose flips and cuts may stand here: it has no session yet
unfoldable pub open_boot : PlanLines → Result BootLines PlanKind
open_boot plan = do
  boot ← last_boot plan
  _ ← rule (is_empty boot.sessions) WrongPlace
  Ok boot

-- a fault is a flip
abbrev pub is_flip : FaultLine → Bool
is_flip (Flip controller flip) = true
is_flip (Cut controller cut) = false

-- the flip lines of a boot, and of all boots
abbrev pub flips_of : BootLines → ℕ
flips_of boot = count_by is_flip boot.faults

-- the flip lines of all boots
abbrev pub all_flips : PlanLines → ℕ
all_flips plan = sum_by flips_of plan.boots

-- chip K of controller C
abbrev pub chip_in : ℕ → Option (List ChipLines) → Option ChipLines
chip_in k None = None
chip_in k (Some chips) = slice_get chips k

-- the chip of these two numbers
abbrev pub chip_at : PlanLines → (ℕ × ℕ) → Option ChipLines
chip_at plan (c, k) = chip_in k (slice_get plan.controllers c)

-- the numbers of a flip exist
abbrev pub has_bits : ChipLines → ℕ → List ℕ → Bool
has_bits chip page bits = nat_lt page (page_count chip.geometry)
    && list_all (λ bit. nat_lt bit (8 * raw_len chip.geometry)) bits

-- a flip by its words
unfoldable pub flip_words : PlanLines → (chip page before : List ℕ) (bits : List (List ℕ)) → Result PlanLines PlanKind
flip_words plan chip page before bits = do
  names ← there (chip_numbers chip) BadWords
  page_number ← small_number page
  event ← positive_number before
  bit_numbers ← small_numbers bits
  named ← there (chip_at plan names) OutOfChip
  _ ← rule (has_bits named page_number bit_numbers) OutOfChip
  _ ← rule (nat_lt (all_flips plan) most_flips) TooLarge
  Ok (with_fault (Flip names.0
      (record { chip = names.1; page = page_number; before = event; bits = bit_numbers })) plan)

-- a flip has at least four words
unfoldable pub flip_form : PlanLines → List (List ℕ) → Result PlanLines PlanKind
flip_form plan (chip ∷ page ∷ before ∷ bit ∷ bits) = flip_words plan chip page before (bit ∷ bits)
flip_form plan _ = Err BadWords

-- `flip C.K PAGE BEFORE BIT` and further BITs, in a boot, before its sessions
unfoldable pub flip_line : PlanLines → List (List ℕ) → Result PlanLines PlanKind
flip_line plan words = do
  boot ← open_boot plan
  flip_form plan words

-- a fault is the cut of this controller
abbrev pub cuts_controller : Option ℕ → FaultLine → Bool
cuts_controller None fault = false
cuts_controller (Some c) (Flip controller flip) = false
cuts_controller (Some c) (Cut controller cut) = controller == c

-- a cut by its words
unfoldable pub cut_words : BootLines → PlanLines → (controller event torn : List ℕ) → Result PlanLines PlanKind
cut_words boot plan controller event torn = do
  _ ← rule (not (list_any (cuts_controller (number_of controller)) boot.faults)) BadWords
  c ← number controller
  n ← positive_number event
  bits ← tear torn
  _ ← rule (nat_lt c (length plan.controllers)) OutOfChip
  Ok (with_fault (Cut c (record { event = n; tear = bits })) plan)

-- a cut has three words
unfoldable pub cut_form : BootLines → PlanLines → List (List ℕ) → Result PlanLines PlanKind
cut_form boot plan words = do
  found ← three_words words
  cut_words boot plan found.0 found.1 found.2

-- `cut C EVENT TEAR`, in a boot, before its sessions; a controller has at most one
unfoldable pub cut_line : PlanLines → List (List ℕ) → Result PlanLines PlanKind
cut_line plan words = do
  boot ← open_boot plan
  cut_form boot plan words
