-- Plans keep their limits.
use Rattle.std.proofs.Common.{◌≡◌, ℕ, suc, ◌+◌, ◌*◌, ◌≤◌, ◌<◌, true, leb, ltb, List, [], ◌∷◌, ◌++◌, length, map, Ok, inl, inr, sym, ap, refl, subst, arith, length-append}
use Rattle.std.specs.Prelude.{◌⊎◌, All, flat_map, sum_by}
use Rattle.std.specs.List.{list_all}
use Rattle.std.proofs.lemmas.Bool.{and_parts, leb-true, ltb-true}
use Rattle.std.proofs.lemmas.List.Elements.{All-cons, All-nil, All-head, All-tail}
use Rattle.std.proofs.lemmas.List.Sums.{sum_by-cons}
use Rattle.lab_text.specs.Text.{lines_of, words_of, longest_line}
use Rattle.plan_model.specs.Plan.{ChipPlan, PartPlan, SessionPlan, part_count}
use Rattle.plan_grammar.specs.declared.kind.PlanKind.TheVariants.{LineTooLong, BadByte, UnknownWord}
use Rattle.plan_grammar.specs.declared.lines.PlanLines.{PlanLines}
use Rattle.plan_grammar.specs.declared.lines.ChipLines.{ChipLines}
use Rattle.plan_grammar.specs.declared.lines.PartLine.{PartLine}
use Rattle.plan_grammar.specs.declared.lines.BootLines.{BootLines}
use Rattle.plan_grammar.specs.Limits.{most_bytes}
use Rattle.plan_grammar.specs.Forms.{is_allowed}
use Rattle.plan_grammar.specs.Options.{meaning_in}
use Rattle.plan_grammar.specs.Devices.{bad_blocks}
use Rattle.plan_grammar.specs.Grammar.{first_words, line_words, line, Reads, no_lines, IsPlan}
use Rattle.plan_grammar.specs.Canonical.{canonical_words, header_lines, controller_lines, chip_lines, detail_words, part_words, data_words, boot_lines}
use Rattle.plan_grammar.specs.Meaning.{chip_plan, session_plan, boot_plan, plan_of}
use Rattle.plan_laws.specs.Within.{IsGoodChip, AreGoodChips, IsGoodBoot, PlansKeepLimits}
use Rattle.plan_laws.proofs.Steps.{rule_kept, found, ok_same}
use Rattle.plan_laws.proofs.Short.{words_few, lines_few}
use Rattle.plan_laws.proofs.Again.{IsOrdered, Adds, line_adds, ordered_by, none_ordered}
use Rattle.plan_laws.proofs.Goods.{KeepsChip, KeepsChips, KeepsSession, KeepsBoot, IsFull, KeepsLines}
use Rattle.plan_laws.proofs.Keeps.{kind_keeps}

words_keep : (plan next : PlanLines) (words : List (List ℕ)) → KeepsLines plan → 2 * length words ≤ 65537 →
    line_words plan words ≡ Ok next → KeepsLines next
unfolding line_words
words_keep plan next [] h short e = subst KeepsLines (ok_same plan next e) h
words_keep plan next (first ∷ words) h short e =
    let one = found (meaning_in first_words first) UnknownWord _ next e in
    kind_keeps one.value plan next words h (omega (arith, short)) one.further

line_keeps : (plan next : PlanLines) (bytes : List ℕ) → KeepsLines plan → line plan bytes ≡ Ok next → KeepsLines next
unfolding line
line_keeps plan next bytes h e =
    let one = rule_kept (leb (length bytes) longest_line) LineTooLong _ next e in
    let two = rule_kept (list_all is_allowed bytes) BadByte _ next one.1 in
    let short = leb-true (length bytes) longest_line one.0 in
    words_keep plan next (words_of bytes) h (omega (arith, short, words_few bytes)) two.1

reads_keep : (lines : List (List ℕ)) (old new : PlanLines) → KeepsLines old → Reads old lines new → KeepsLines new
reads_keep [] old new h same = subst KeepsLines (sym same) h
reads_keep (bytes ∷ lines) old new h (next, e, later) = reads_keep lines next new (line_keeps old next bytes h e) later

none_keeps : KeepsLines no_lines
none_keeps = record {
  few_controllers = omega arith;
  chips = All-nil KeepsChips;
  full_before = tt;
  full = λ some. All-nil IsFull;
  few_data = omega arith;
  few_boots = omega arith;
  boots = All-nil (KeepsBoot [] []);
  few_flips = omega arith;
  cheap = omega arith;
}

-- the lines of a plan keep what lines keep
pub plan_keeps : (bytes : List ℕ) (plan : PlanLines) → IsPlan bytes plan → KeepsLines plan
plan_keeps bytes plan h = reads_keep (lines_of bytes) no_lines plan none_keeps h.lines

grown_by : (old next : PlanLines) (n : ℕ) → (old ≡ next) ⊎ Adds old next → length (canonical_words old) ≤ n → length (canonical_words next) ≤ n + 1
grown_by old next n (inl same) h = subst (λ (p : PlanLines). length (canonical_words p) ≤ n + 1) same (omega (arith, h))
grown_by old next n (inr a) h =
    let written = ap length a.written in
    omega (arith, written, length-append (canonical_words old) (a.words ∷ []), h)

reads_few : (lines : List (List ℕ)) (old new : PlanLines) (n : ℕ) → IsOrdered old → length (canonical_words old) ≤ n → Reads old lines new →
    length (canonical_words new) ≤ n + length lines
reads_few [] old new n h few same = subst (λ (p : PlanLines). length (canonical_words p) ≤ n + 0) (sym same) (omega (arith, few))
reads_few (bytes ∷ lines) old new n h few (next, e, later) =
    let adds = line_adds old next bytes h e in
    let more = reads_few lines next new (n + 1) (ordered_by old next h adds) (grown_by old next n adds few) later in
    omega (arith, more)

-- the lines of a plan are no more than its bytes
pub plan_few_lines : (bytes : List ℕ) (plan : PlanLines) → IsPlan bytes plan → length (canonical_words plan) ≤ most_bytes
plan_few_lines bytes plan h =
    let few = reads_few (lines_of bytes) no_lines plan 0 none_ordered (omega arith) h.lines in
    omega (arith, few, lines_few bytes, h.short)

pub length_map : {A B : Type 0} (f : A → B) (xs : List A) → length (map f xs) ≡ length xs
length_map f [] = refl
length_map f (x ∷ xs) = ap suc (length_map f xs)

pub all_map : {A B : Type 0} (P : A → Type 0) (Q : B → Type 0) (f : A → B) (xs : List A) → ((x : A) → P x → Q (f x)) → All P xs → All Q (map f xs)
all_map P Q f [] h all = All-nil Q
all_map P Q f (x ∷ xs) h all =
    All-cons Q (f x) (map f xs) (h x (All-head P x xs all)) (all_map P Q f xs h (All-tail P x xs all))

pub all_both : {A : Type 0} (P Q : A → Type 0) (xs : List A) → All P xs → All Q xs → All (λ x. P x × Q x) xs
all_both P Q [] h k = All-nil (λ x. P x × Q x)
all_both P Q (x ∷ xs) h k =
    All-cons (λ x. P x × Q x) x xs (All-head P x xs h, All-head Q x xs k) (all_both P Q xs (All-tail P x xs h) (All-tail Q x xs k))

abbrev plan_part : PartLine → PartPlan
plan_part part = record { start = part.start; count = part.count }

-- partitions have lines of their own
parts_lines : (chip : ChipLines) → length (chip_plan chip).parts ≤ length (chip_lines chip)
parts_lines chip =
    let outer = length-append (map detail_words chip.details) (map part_words chip.parts) in
    let plans : length (chip_plan chip).parts ≡ length chip.parts = length_map (λ (part : PartLine). plan_part part) chip.parts in
    omega (arith, outer, length_map part_words chip.parts, plans)

chips_lines : (chips : List ChipLines) → part_count (map chip_plan chips) ≤ length (flat_map chip_lines chips)
chips_lines [] = omega arith
chips_lines (chip ∷ chips) =
    omega (
      arith,
      sum_by-cons (λ (p : ChipPlan). length p.parts) (chip_plan chip) (map chip_plan chips),
      parts_lines chip,
      chips_lines chips,
      length-append (chip_lines chip) (flat_map chip_lines chips),
    )

controllers_lines : (controllers : List (List ChipLines)) →
    sum_by part_count (map (map chip_plan) controllers) ≤ length (flat_map controller_lines controllers)
controllers_lines [] = omega arith
controllers_lines (chips ∷ controllers) =
    omega (
      arith,
      sum_by-cons part_count (map chip_plan chips) (map (map chip_plan) controllers),
      chips_lines chips,
      controllers_lines controllers,
      length-append (controller_lines chips) (flat_map controller_lines controllers),
    )

-- the lines of controllers are lines of the plan
pub devices_lines : (plan : PlanLines) → sum_by part_count (plan_of plan).controllers ≤ length (canonical_words plan)
devices_lines plan =
    let front = header_lines plan.begun in
    let hardware = flat_map controller_lines plan.controllers in
    let payloads = map data_words plan.payloads in
    omega (
      arith,
      controllers_lines plan.controllers,
      length-append front hardware,
      length-append (front ++ hardware) payloads,
      length-append ((front ++ hardware) ++ payloads) (flat_map boot_lines plan.boots),
    )

all_below : (ns : List ℕ) (n : ℕ) → list_all (λ b. ltb b n) ns ≡ true → All (λ b. b < n) ns
all_below [] n h = All-nil (λ b. b < n)
all_below (m ∷ ns) n h =
    let parts = and_parts (ltb m n) (list_all (λ b. ltb b n) ns) h in
    All-cons (λ b. b < n) m ns (ltb-true m n parts.0) (all_below ns n parts.1)

good_chip : (chip : ChipLines) → KeepsChip chip → IsGoodChip (chip_plan chip)
good_chip chip h = record {
  bad = all_below (bad_blocks chip) chip.geometry.blocks h.bad;
  different = h.different;
  tables = h.tables;
  weak = h.weak;
}

good_chips : (chips : List ChipLines) → KeepsChips chips × IsFull chips → AreGoodChips (map chip_plan chips)
good_chips chips (h, some) =
    let same = length_map chip_plan chips in
    record {
      some = omega (arith, same, some);
      few = omega (arith, same, h.few);
      good = all_map KeepsChip IsGoodChip chip_plan chips good_chip h.good;
    }

good_boot : (plan : PlanLines) (boot : BootLines) → KeepsBoot plan.controllers plan.payloads boot →
    IsGoodBoot (length (plan_of plan).controllers) (boot_plan plan boot)
good_boot plan boot h =
    let same = length_map (session_plan plan) boot.sessions in
    let controllers = length_map (map chip_plan) plan.controllers in
    record {
      few = omega (arith, same, h.few);
      own = all_map (KeepsSession plan.controllers plan.payloads) (λ (s : SessionPlan). s.controller < length (plan_of plan).controllers)
          (session_plan plan) boot.sessions (λ session k. (let own = k.own in omega (arith, controllers, own))) h.sessions;
      schedule = subst (λ n. All (λ s. s < n) boot.schedule) (sym same) h.schedule;
    }

pub keep_limits : PlansKeepLimits
keep_limits bytes plan h =
    let k = plan_keeps bytes plan h in
    let boots = length_map (boot_plan plan) plan.boots in
    let controllers = length_map (map chip_plan) plan.controllers in
    record {
      some = omega (arith, boots, h.some);
      few_boots = omega (arith, boots, k.few_boots);
      few_controllers = omega (arith, controllers, k.few_controllers);
      few_devices = omega (arith, devices_lines plan, plan_few_lines bytes plan h);
      chips = all_map (λ chips. KeepsChips chips × IsFull chips) AreGoodChips (map chip_plan) plan.controllers good_chips
          (all_both KeepsChips IsFull plan.controllers k.chips (k.full h.some));
      boots = all_map (KeepsBoot plan.controllers plan.payloads) (IsGoodBoot (length (plan_of plan).controllers)) (boot_plan plan) plan.boots
          (good_boot plan) k.boots;
    }
