-- How many lines of a kind a plan has: as many as its data tell, and no more than it has lines.
use Rattle.std.proofs.Common.{◌≡◌, ◌∙◌, ℕ, ◌+◌, ◌≤◌, List, [], ◌∷◌, ◌++◌, length, map, sym, ap, refl, arith, length-append}
use Rattle.std.specs.Prelude.{cond, count_by, flat_map, sum_by}
use Rattle.std.proofs.lemmas.List.Sums.{count_by-le-length, sum_by-cons}
use Rattle.nand_model.specs.declared.words.Weak.{Weak}
use Rattle.nand_model.specs.declared.words.WeakKind.{WeakKind}
use Rattle.plan_model.specs.Plan.{BootPlan}
use Rattle.plan_grammar.specs.declared.lines.PlanLines.{PlanLines}
use Rattle.plan_grammar.specs.declared.lines.ChipLines.{ChipLines}
use Rattle.plan_grammar.specs.declared.lines.BootLines.{BootLines}
use Rattle.plan_grammar.specs.declared.lines.DetailLine.{DetailLine}
use Rattle.plan_grammar.specs.declared.lines.DetailLine.TheVariants.{Bad, Weak as WeakAt, Bus}
use Rattle.plan_grammar.specs.declared.lines.FaultLine.{FaultLine}
use Rattle.plan_grammar.specs.declared.lines.FaultLine.TheVariants.{Flip, Cut}
use Rattle.plan_grammar.specs.Limits.{most_bytes, most_flips}
use Rattle.plan_grammar.specs.Canonical.{boot_lines, canonical_words, chip_lines, controller_lines, data_words, detail_words, fault_words, header_lines, part_words, schedule_lines, session_lines}
use Rattle.plan_grammar.specs.Devices.{is_same_kind, weak_in}
use Rattle.plan_grammar.specs.Faults.{flips_of, is_flip}
use Rattle.plan_grammar.specs.Meaning.{boot_plan, chip_plan, cuts_in, flips_in, plan_of}
use Rattle.plan_laws.proofs.Limits.{length_map, plan_few_lines, plan_keeps}
use Rattle.plan_text.specs.Counts.{cuts_of, is_cut, is_weak_line, weak_lines}
use Rattle.plan_text.specs.Plan.{IsOfBytes, cut_count, flip_count, weak_count, weak_on}

-- a sum over a list by its first item
pub sum_first : {A : Type 0} (f : A → ℕ) (rest later : List A) (x : A) → rest ≡ x ∷ later → sum_by f rest ≡ f x + sum_by f later
sum_first f rest later x split = ap (sum_by f) split ∙ sum_by-cons f x later

flips_are : (faults : List FaultLine) → length (flat_map flips_in faults) ≡ count_by is_flip faults
flips_are [] = refl
flips_are (Flip c flip ∷ faults) = omega (arith, sum_by-cons (λ (f : FaultLine). cond (is_flip f) 1 0) (Flip c flip) faults, flips_are faults)
flips_are (Cut c cut ∷ faults) = omega (arith, sum_by-cons (λ (f : FaultLine). cond (is_flip f) 1 0) (Cut c cut) faults, flips_are faults)

cuts_are : (faults : List FaultLine) → length (flat_map cuts_in faults) ≡ count_by is_cut faults
cuts_are [] = refl
cuts_are (Flip c flip ∷ faults) = omega (arith, sum_by-cons (λ (f : FaultLine). cond (is_cut f) 1 0) (Flip c flip) faults, cuts_are faults)
cuts_are (Cut c cut ∷ faults) = omega (arith, sum_by-cons (λ (f : FaultLine). cond (is_cut f) 1 0) (Cut c cut) faults, cuts_are faults)

all_flips_are : (plan : PlanLines) (boots : List BootLines) →
    sum_by (λ (b : BootPlan). length b.flips) (map (boot_plan plan) boots) ≡ sum_by flips_of boots
all_flips_are plan [] = refl
all_flips_are plan (boot ∷ boots) =
    omega (
      arith,
      sum_by-cons (λ (b : BootPlan). length b.flips) (boot_plan plan boot) (map (boot_plan plan) boots),
      sum_by-cons flips_of boot boots,
      flips_are boot.faults,
      all_flips_are plan boots,
    )

pub flips_counted : (plan : PlanLines) → sum_by flips_of plan.boots ≡ flip_count (plan_of plan)
flips_counted plan = sym (all_flips_are plan plan.boots)

all_cuts_are : (plan : PlanLines) (boots : List BootLines) →
    sum_by (λ (b : BootPlan). length b.cuts) (map (boot_plan plan) boots) ≡ sum_by cuts_of boots
all_cuts_are plan [] = refl
all_cuts_are plan (boot ∷ boots) =
    omega (
      arith,
      sum_by-cons (λ (b : BootPlan). length b.cuts) (boot_plan plan boot) (map (boot_plan plan) boots),
      sum_by-cons cuts_of boot boots,
      cuts_are boot.faults,
      all_cuts_are plan boots,
    )

pub cuts_counted : (plan : PlanLines) → sum_by cuts_of plan.boots ≡ cut_count (plan_of plan)
cuts_counted plan = sym (all_cuts_are plan plan.boots)

module _ (kind : WeakKind) where
  weak_are : (details : List DetailLine) → count_by (λ (w : Weak). is_same_kind w.kind kind) (flat_map weak_in details) ≡ count_by (is_weak_line kind) details
  weak_are [] = refl
  weak_are (Bad blocks ∷ details) = omega (arith, sum_by-cons (λ (d : DetailLine). cond (is_weak_line kind d) 1 0) (Bad blocks) details, weak_are details)
  weak_are (Bus ∷ details) = omega (arith, sum_by-cons (λ (d : DetailLine). cond (is_weak_line kind d) 1 0) Bus details, weak_are details)
  weak_are (WeakAt weak ∷ details) =
      omega (
        arith,
        sum_by-cons (λ (d : DetailLine). cond (is_weak_line kind d) 1 0) (WeakAt weak) details,
        sum_by-cons (λ (w : Weak). cond (is_same_kind w.kind kind) 1 0) weak (flat_map weak_in details),
        weak_are details,
      )

  weak_chips_are : (chips : List ChipLines) → sum_by (weak_on kind) (map chip_plan chips) ≡ sum_by (weak_lines kind) chips
  weak_chips_are [] = refl
  weak_chips_are (chip ∷ chips) =
      omega (
        arith,
        sum_by-cons (weak_on kind) (chip_plan chip) (map chip_plan chips),
        sum_by-cons (weak_lines kind) chip chips,
        weak_are chip.details,
        weak_chips_are chips,
      )

  all_weak_are : (controllers : List (List ChipLines)) →
      sum_by (sum_by (weak_on kind)) (map (map chip_plan) controllers) ≡ sum_by (sum_by (weak_lines kind)) controllers
  all_weak_are [] = refl
  all_weak_are (chips ∷ controllers) =
      omega (
        arith,
        sum_by-cons (sum_by (weak_on kind)) (map chip_plan chips) (map (map chip_plan) controllers),
        sum_by-cons (sum_by (weak_lines kind)) chips controllers,
        weak_chips_are chips,
        all_weak_are controllers,
      )

  pub weak_counted : (plan : PlanLines) → sum_by (sum_by (weak_lines kind)) plan.controllers ≡ weak_count kind (plan_of plan)
  weak_counted plan = sym (all_weak_are plan.controllers)

  -- weak places have lines of their own
  weak_have_lines : (chip : ChipLines) → weak_lines kind chip ≤ length (chip_lines chip)
  weak_have_lines chip =
      omega (
        arith,
        count_by-le-length (is_weak_line kind) chip.details,
        length-append (map detail_words chip.details) (map part_words chip.parts),
        length_map detail_words chip.details,
      )

  weak_of_chips : (chips : List ChipLines) → sum_by (weak_lines kind) chips ≤ length (flat_map chip_lines chips)
  weak_of_chips [] = omega arith
  weak_of_chips (chip ∷ chips) =
      omega (
        arith,
        sum_by-cons (weak_lines kind) chip chips,
        weak_have_lines chip,
        weak_of_chips chips,
        length-append (chip_lines chip) (flat_map chip_lines chips),
      )

  weak_of_all : (controllers : List (List ChipLines)) → sum_by (sum_by (weak_lines kind)) controllers ≤ length (flat_map controller_lines controllers)
  weak_of_all [] = omega arith
  weak_of_all (chips ∷ controllers) =
      omega (
        arith,
        sum_by-cons (sum_by (weak_lines kind)) chips controllers,
        weak_of_chips chips,
        weak_of_all controllers,
        length-append (controller_lines chips) (flat_map controller_lines controllers),
      )

-- cuts have lines of their own
cuts_have_lines : (boot : BootLines) → cuts_of boot ≤ length (boot_lines boot)
cuts_have_lines boot =
    omega (
      arith,
      count_by-le-length is_cut boot.faults,
      length_map fault_words boot.faults,
      length-append (map fault_words boot.faults) (flat_map session_lines boot.sessions),
      length-append (map fault_words boot.faults ++ flat_map session_lines boot.sessions) (schedule_lines boot.schedule),
    )

cuts_of_all : (boots : List BootLines) → sum_by cuts_of boots ≤ length (flat_map boot_lines boots)
cuts_of_all [] = omega arith
cuts_of_all (boot ∷ boots) =
    omega (
      arith,
      sum_by-cons cuts_of boot boots,
      cuts_have_lines boot,
      cuts_of_all boots,
      length-append (boot_lines boot) (flat_map boot_lines boots),
    )

-- the lines of controllers and of boots are lines of the plan
own_lines : (plan : PlanLines) →
    length (flat_map controller_lines plan.controllers) + length (flat_map boot_lines plan.boots) ≤ length (canonical_words plan)
own_lines plan =
    let front = header_lines plan.begun in
    let hardware = flat_map controller_lines plan.controllers in
    let payloads = map data_words plan.payloads in
    omega (
      arith,
      length-append front hardware,
      length-append (front ++ hardware) payloads,
      length-append ((front ++ hardware) ++ payloads) (flat_map boot_lines plan.boots),
    )

pub few_flips : (plan : PlanLines) → IsOfBytes plan → sum_by flips_of plan.boots ≤ most_flips
few_flips plan (bytes, h) = (plan_keeps bytes plan h).few_flips

pub few_cuts : (plan : PlanLines) → IsOfBytes plan → sum_by cuts_of plan.boots ≤ most_bytes
few_cuts plan (bytes, h) = omega (arith, cuts_of_all plan.boots, own_lines plan, plan_few_lines bytes plan h)

pub few_weak : (kind : WeakKind) (plan : PlanLines) → IsOfBytes plan → sum_by (sum_by (weak_lines kind)) plan.controllers ≤ most_bytes
few_weak kind plan (bytes, h) = omega (arith, weak_of_all kind plan.controllers, own_lines plan, plan_few_lines bytes plan h)
