-- The canonical text of a plan is read as the same plan.
use Rattle.std.proofs.Common.{◌≡◌, ◌∙◌, ℕ, ◌≤◌, ◌<◌, Bool, true, false, eqb, leb, ltb, List, [], ◌∷◌, ◌++◌, length, map, Some, Ok, inl, inr, sym, ap, refl, subst, arith, append_assoc}
use Rattle.std.specs.Prelude.{◌&&◌, ◌||◌, ◌⊎◌, ◌^◌, All, codes, cond, decimal, flat_map}
use Rattle.std.specs.List.{list_all}
use Rattle.std.proofs.lemmas.Bool.{and_from, and_parts, le-leb, ltb-true}
use Rattle.std.proofs.lemmas.List.{append-nil}
use Rattle.std.proofs.lemmas.List.Folds.{list_all-append}
use Rattle.std.proofs.lemmas.List.Elements.{All-cons, All-nil, All-head, All-tail}
use Rattle.nand_model.specs.declared.words.BadMode.{BadMode}
use Rattle.nand_model.specs.declared.words.BadMode.TheVariants.{PadBad, DumpBad, SkipBad}
use Rattle.nand_model.specs.declared.words.Weak.{Weak as WeakPlace}
use Rattle.nand_model.specs.declared.words.WeakKind.{WeakKind}
use Rattle.nand_model.specs.declared.words.WeakKind.TheVariants.{Program, Erase}
use Rattle.nand_model.proofs.Bounds.{bounds}
use Rattle.report_model.specs.Report.{line as ended, spaced, device_name}
use Rattle.lab_text.specs.Text.{lines_of, words_of, longest_line}
use Rattle.plan_grammar.specs.declared.kind.PlanKind.TheVariants.{LineTooLong, BadByte, UnknownWord}
use Rattle.plan_grammar.specs.declared.words.LineKind.{LineKind}
use Rattle.plan_grammar.specs.declared.words.LineKind.TheVariants.{Header, Controller, Chip, Bad, Weak, Bus, Part, Data, Boot, Flip, Cut, Session, Schedule, FlashErase as ToErase, NandWrite as ToWrite, NandDump as ToDump, NandTest as ToTest, MarkBad as ToMark, IsBad as ToAsk, Stats as ToCount}
use Rattle.plan_grammar.specs.declared.lines.PlanLines.{PlanLines}
use Rattle.plan_grammar.specs.declared.lines.ChipLines.{ChipLines}
use Rattle.plan_grammar.specs.declared.lines.DetailLine.TheVariants.{Bad as BadBlocks, Weak as WeakAt, Bus as OnBus}
use Rattle.plan_grammar.specs.declared.lines.BootLines.{BootLines}
use Rattle.plan_grammar.specs.declared.lines.FaultLine.TheVariants.{Flip as FlipOf, Cut as CutOf}
use Rattle.plan_grammar.specs.declared.lines.SessionLines.{SessionLines}
use Rattle.plan_grammar.specs.declared.lines.CommandLine.{CommandLine}
use Rattle.plan_grammar.specs.declared.lines.CommandLine.TheVariants.{FlashErase, NandWrite, NandDump, NandTest, MarkBad, IsBad, Stats}
use Rattle.plan_grammar.specs.Rules.{is_empty, last_of, with_last}
use Rattle.plan_grammar.specs.Forms.{is_allowed}
use Rattle.plan_grammar.specs.Options.{meaning_in}
use Rattle.plan_grammar.specs.Hardware.{is_hardware, has_chip}
use Rattle.plan_grammar.specs.Commands.{command_line}
use Rattle.plan_grammar.specs.Grammar.{first_words, line_by_kind, line_words, line, Reads, no_lines}
use Rattle.plan_grammar.specs.Canonical.{decimals, flag, valued, bad_option, chip_words, weak_kind_text, tear_text, detail_words, part_words, piece_text, data_words, fault_words, command_words, boot_lines, controller_lines, chip_lines, canonical_words, canonical_lines, canonical_text}
use Rattle.plan_grammar.specs.Laws.{ReadsAgain}
use Rattle.plan_laws.proofs.Steps.{rule_kept, found, rule_step, ok_same, empty_is}
use Rattle.plan_laws.proofs.Words.{is_word, is_spaced, words_again as words_of_spaced, line_spaced, line_allowed, lines_again}
use Rattle.plan_laws.proofs.Numbers.{IsSmall, IsNumber, decimal_word, decimals_words, small_are_numbers}
use Rattle.plan_laws.proofs.Tears.{tear_word}
use Rattle.plan_laws.proofs.Pieces.{pieces_words}
use Rattle.plan_laws.proofs.Names.{device_word, chip_word, name_word}
use Rattle.plan_laws.proofs.Hardware.{header_kept, header_again, controller_kept, controller_again, chip_kept, chip_again, numbers_of_chip, chip_numbers_small, LastChip, last_found, open_found, bad_kept, bad_again, weak_kept, weak_again, bus_kept, bus_again, part_kept, part_again}
use Rattle.plan_laws.proofs.Boots.{data_kept, data_again, boot_kept, boot_again, open_boot_found, flip_kept, flip_again, cut_kept, cut_again, RunningBoot, running_found, session_kept, session_again, ScheduleKept, schedule_kept, schedule_again}
use Rattle.plan_laws.proofs.Commands.{kind_of, HasFit, command_kept}
use Rattle.plan_laws.proofs.CommandWords.{command_texts, command_again}
use Rattle.plan_laws.proofs.Written.{Line, hardware_written, header_written, controllers_push, chips_push, lines-with_last, detail_line, part_line, last_chip_line, data_written, boots_written, boots_push, fault_line, session_line, command_line as command_written, schedule_line}

-- a boot without sessions has no schedule
abbrev pub IsIdleFirst : BootLines → Type 0
IsIdleFirst boot = boot.sessions ≡ [] → boot.schedule ≡ []

-- lines stand in the order of the canonical text
pub record IsOrdered (plan : PlanLines) : Type 0 where
  pub bare : plan.begun ≡ false → plan.controllers ≡ []
  pub hardware : plan.controllers ≡ [] → (plan.payloads ≡ []) × (plan.boots ≡ [])
  pub idle : All IsIdleFirst plan.boots

-- a line of words leads from one plan to another, and is the last line of its canonical text
pub record Adds (plan next : PlanLines) : Type 0 where
  pub words : Line
  pub are : list_all is_word words ≡ true
  pub again : line_words plan words ≡ Ok next
  pub written : canonical_words next ≡ canonical_words plan ++ words ∷ []
  pub ordered : IsOrdered next

hardware_parts : (plan : PlanLines) → is_hardware plan ≡ true → (plan.payloads ≡ []) × (plan.boots ≡ [])
hardware_parts plan h =
    let parts = and_parts (is_empty plan.payloads) (is_empty plan.boots) h in
    (empty_is plan.payloads parts.0, empty_is plan.boots parts.1)

last_some : {A : Type 0} (xs : List A) (x : A) → last_of xs ≡ Some x → xs ≡ [] → ⊥
last_some xs x e none = let same : last_of {A = _} [] ≡ Some x = ap last_of (sym none) ∙ e in cc same

-- order where only controllers change, and some are there
ordered_hardware : (plan next : PlanLines) (controllers : List (List ChipLines)) → plan.boots ≡ [] → plan.begun ≡ true →
    (controllers ≡ [] → ⊥) → record plan { controllers = controllers } ≡ next → IsOrdered next
ordered_hardware plan next controllers no_boots begun some is =
    subst IsOrdered is (record {
      bare = λ e. absurd (some_begun plan.begun begun e);
      hardware = λ e. absurd (some e);
      idle = subst (All IsIdleFirst) (sym no_boots) (All-nil IsIdleFirst);
    })
  where
    some_begun : (b : Bool) → b ≡ true → b ≡ false → ⊥
    some_begun b e f = let same : true ≡ false = sym e ∙ f in cc same

begun_with : (plan : PlanLines) → IsOrdered plan → (plan.controllers ≡ [] → ⊥) → plan.begun ≡ true
begun_with plan h some = by plan.begun (h.bare)
  where
    by : (b : Bool) → (b ≡ false → plan.controllers ≡ []) → b ≡ true
    by true none = refl
    by false none = absurd (some (none refl))

push_some : {A : Type 0} (xs : List A) (x : A) → xs ++ x ∷ [] ≡ [] → ⊥
push_some [] x e = cc e
push_some (y ∷ xs) x e = cc e

with_last_some : {A : Type 0} (g : A → A) (xs : List A) (x : A) → last_of xs ≡ Some x → with_last g xs ≡ [] → ⊥
with_last_some g [] x e none = cc e
with_last_some g (y ∷ []) x e none = cc none
with_last_some g (y ∷ z ∷ xs) x e none = cc none

header_adds : (plan next : PlanLines) (words : Line) → IsOrdered plan → line_by_kind Header plan words ≡ Ok next → Adds plan next
unfolding line_words
header_adds plan next words h e =
    let k = header_kept plan next words e in
    let none = h.bare k.unbegun in
    let others = h.hardware none in
    record {
      words = codes "nandlab" ∷ codes "1" ∷ [];
      are = refl;
      again = header_again plan next k;
      written = header_written plan next k.unbegun none others.0 others.1 k.next_is;
      ordered = subst IsOrdered k.next_is (record { bare = λ f. absurd (cc f); hardware = h.hardware; idle = h.idle });
    }

controller_adds : (plan next : PlanLines) (words : Line) → IsOrdered plan → line_by_kind Controller plan words ≡ Ok next → Adds plan next
unfolding line_words
controller_adds plan next words h e =
    let k = controller_kept plan next words e in
    let may = and_parts (plan.begun && is_hardware plan) (is_empty plan.controllers || has_chip plan) k.may in
    let begun = and_parts plan.begun (is_hardware plan) may.0 in
    let none = hardware_parts plan begun.1 in
    record {
      words = codes "controller" ∷ [];
      are = refl;
      again = controller_again plan next k;
      written = hardware_written plan next (plan.controllers ++ [] ∷ []) (codes "controller" ∷ []) none.0 none.1 k.next_is (controllers_push plan.controllers);
      ordered = ordered_hardware plan next (plan.controllers ++ [] ∷ []) none.1 begun.0 (push_some plan.controllers []) k.next_is;
    }

numbers_words : (ns : List ℕ) → All IsSmall ns → list_all is_word (decimals ns) ≡ true
numbers_words ns h = decimals_words ns (small_are_numbers ns h)

chip_adds : (plan next : PlanLines) (words : Line) → IsOrdered plan → line_by_kind Chip plan words ≡ Ok next → Adds plan next
unfolding line_words
chip_adds plan next words h e =
    let k = chip_kept plan next words e in
    let none = hardware_parts plan k.hardware in
    let chip : ChipLines = record { geometry = k.g; details = []; parts = [] } in
    let change : List ChipLines → List ChipLines = λ chips. chips ++ chip ∷ [] in
    record {
      words = chip_words k.g;
      are = numbers_words (numbers_of_chip k.g) (chip_numbers_small k.g);
      again = chip_again plan next k;
      written = hardware_written plan next (with_last change plan.controllers) (chip_words k.g) none.0 none.1 k.next_is
          (lines-with_last controller_lines change plan.controllers k.chips (chip_words k.g) k.last (chips_push k.chips k.g));
      ordered = ordered_hardware plan next (with_last change plan.controllers) none.1
          (begun_with plan h (last_some plan.controllers k.chips k.last)) (with_last_some change plan.controllers k.chips k.last) k.next_is;
    }

-- a line of the last chip
last_adds : (plan next : PlanLines) (chip : ChipLines) (change : ChipLines → ChipLines) (words : Line) → IsOrdered plan →
    is_hardware plan ≡ true → LastChip plan chip → list_all is_word words ≡ true → line_words plan words ≡ Ok next →
    chip_lines (change chip) ≡ chip_lines chip ++ words ∷ [] →
    record plan { controllers = with_last (with_last change) plan.controllers } ≡ next → Adds plan next
last_adds plan next chip change words h hardware last are again more is =
    let none = hardware_parts plan hardware in
    record {
      words = words;
      are = are;
      again = again;
      written = hardware_written plan next (with_last (with_last change) plan.controllers) words none.0 none.1 is
          (last_chip_line plan.controllers last.chips chip change words last.controller_is last.chip_is more);
      ordered = ordered_hardware plan next (with_last (with_last change) plan.controllers) none.1
          (begun_with plan h (last_some plan.controllers last.chips last.controller_is))
          (with_last_some (with_last change) plan.controllers last.chips last.controller_is) is;
    }

bad_adds : (plan next : PlanLines) (words : Line) → IsOrdered plan → line_by_kind Bad plan words ≡ Ok next → Adds plan next
unfolding line_words
bad_adds plan next words h e =
    let k = bad_kept plan next words e in
    let open_chip = open_found plan k.chip k.opened in
    last_adds plan next k.chip (λ (c : ChipLines). record c { details = c.details ++ BadBlocks k.blocks ∷ [] }) (detail_words (BadBlocks k.blocks)) h
    open_chip.hardware open_chip.last (numbers_words k.blocks k.small) (bad_again plan next k)
    (detail_line k.chip (BadBlocks k.blocks) open_chip.bare) k.next_is

kind_word : (kind : WeakKind) → is_word (weak_kind_text kind) ≡ true
kind_word Program = refl
kind_word Erase = refl

weak_words : (weak : WeakPlace) (at : IsSmall weak.at) (after : IsSmall weak.after) → is_word (tear_text weak.tear) ≡ true →
    list_all is_word (weak_kind_text weak.kind ∷ decimal weak.at ∷ decimal weak.after ∷ tear_text weak.tear ∷ []) ≡ true
weak_words weak at after torn =
    and_from _ _ (kind_word weak.kind) (and_from _ _ (decimal_word weak.at (omega (arith, at)))
    (and_from _ _ (decimal_word weak.after (omega (arith, after))) (and_from _ _ torn refl)))

weak_adds : (plan next : PlanLines) (words : Line) → IsOrdered plan → line_by_kind Weak plan words ≡ Ok next → Adds plan next
unfolding line_words
weak_adds plan next words h e =
    let k = weak_kept plan next words e in
    let open_chip = open_found plan k.chip k.opened in
    last_adds plan next k.chip (λ (c : ChipLines). record c { details = c.details ++ WeakAt k.weak ∷ [] }) (detail_words (WeakAt k.weak)) h
    open_chip.hardware open_chip.last (weak_words k.weak k.at_small k.after_small (tear_word k.weak.tear k.tear_is)) (weak_again plan next k)
    (detail_line k.chip (WeakAt k.weak) open_chip.bare) k.next_is

bus_adds : (plan next : PlanLines) (words : Line) → IsOrdered plan → line_by_kind Bus plan words ≡ Ok next → Adds plan next
unfolding line_words
bus_adds plan next words h e =
    let k = bus_kept plan next words e in
    let open_chip = open_found plan k.chip k.opened in
    last_adds plan next k.chip (λ (c : ChipLines). record c { details = c.details ++ OnBus ∷ [] }) (detail_words OnBus) h
    open_chip.hardware open_chip.last refl (bus_again plan next k) (detail_line k.chip OnBus open_chip.bare) k.next_is

part_adds : (plan next : PlanLines) (words : Line) → IsOrdered plan → line_by_kind Part plan words ≡ Ok next → Adds plan next
unfolding line_words
part_adds plan next words h e =
    let k = part_kept plan next words e in
    let high = (bounds k.chip.geometry).blocks_high in
    let start : IsNumber k.part.start = omega (arith, k.some, k.within, high) in
    let count : IsNumber k.part.count = omega (arith, k.within, high) in
    last_adds plan next k.chip (λ (c : ChipLines). record c { parts = c.parts ++ k.part ∷ [] }) (part_words k.part) h
    k.hardware (last_found plan k.chip k.last)
    (decimals_words (k.part.start ∷ k.part.count ∷ []) (All-cons IsNumber k.part.start (k.part.count ∷ []) start
    (All-cons IsNumber k.part.count [] count (All-nil IsNumber))))
    (part_again plan next k) (part_line k.chip k.part) k.next_is

chip_some : (plan : PlanLines) → has_chip plan ≡ true → plan.controllers ≡ [] → ⊥
chip_some plan h none = let same : false ≡ true = sym (ap (λ cs. has_chip (record plan { controllers = cs })) none) ∙ h in cc same

data_adds : (plan next : PlanLines) (words : Line) → IsOrdered plan → line_by_kind Data plan words ≡ Ok next → Adds plan next
unfolding line_words
data_adds plan next words h e =
    let k = data_kept plan next words e in
    let may = and_parts (has_chip plan) (is_empty plan.boots) k.may in
    let none = empty_is plan.boots may.1 in
    record {
      words = data_words k.payload;
      are = and_from (is_word k.payload.name) (list_all is_word (map piece_text k.payload.pieces))
          (name_word k.payload.name k.named) (pieces_words k.payload.pieces k.legal);
      again = data_again plan next k;
      written = data_written plan next k.payload none k.next_is;
      ordered = subst IsOrdered k.next_is (record {
        bare = h.bare;
        hardware = λ f. absurd (chip_some plan may.0 f);
        idle = h.idle;
      });
    }

-- order where only boots change
ordered_boots : (plan next : PlanLines) (boots : List BootLines) → IsOrdered plan → (plan.controllers ≡ [] → ⊥) → All IsIdleFirst boots →
    record plan { boots = boots } ≡ next → IsOrdered next
ordered_boots plan next boots h some idle is =
    subst IsOrdered is (record { bare = h.bare; hardware = λ f. absurd (some f); idle = idle })

pub all_push : {A : Type 0} (P : A → Type 0) (xs : List A) (x : A) → All P xs → P x → All P (xs ++ x ∷ [])
all_push P [] x h p = All-cons P x [] p (All-nil P)
all_push P (y ∷ xs) x h p = All-cons P y (xs ++ x ∷ []) (All-head P y xs h) (all_push P xs x (All-tail P y xs h) p)

pub all_with_last : {A : Type 0} (P : A → Type 0) (g : A → A) (xs : List A) (x : A) → last_of xs ≡ Some x → (P x → P (g x)) →
    All P xs → All P (with_last g xs)
all_with_last P g [] x e more h = absurd (cc e)
all_with_last P g (y ∷ []) x e more h =
    let same : x ≡ y = cc e in
    let here : P y → P (g y) = subst (λ z. P z → P (g z)) same more in
    All-cons P (g y) [] (here (All-head P y [] h)) (All-nil P)
all_with_last P g (y ∷ z ∷ xs) x e more h =
    All-cons P y (with_last g (z ∷ xs)) (All-head P y (z ∷ xs) h) (all_with_last P g (z ∷ xs) x e more (All-tail P y (z ∷ xs) h))

pub all_last : {A : Type 0} (P : A → Type 0) (xs : List A) (x : A) → last_of xs ≡ Some x → All P xs → P x
all_last P [] x e h = absurd (cc e)
all_last P (y ∷ []) x e h = let same : y ≡ x = cc e in subst P same (All-head P y [] h)
all_last P (y ∷ z ∷ xs) x e h = all_last P (z ∷ xs) x e (All-tail P y (z ∷ xs) h)

boot_adds : (plan next : PlanLines) (words : Line) → IsOrdered plan → line_by_kind Boot plan words ≡ Ok next → Adds plan next
unfolding line_words
boot_adds plan next words h e =
    let k = boot_kept plan next words e in
    let boot : BootLines = record { faults = []; sessions = []; schedule = [] } in
    record {
      words = codes "boot" ∷ [];
      are = refl;
      again = boot_again plan next k;
      written = boots_written plan next (plan.boots ++ boot ∷ []) (codes "boot" ∷ []) k.next_is (boots_push plan.boots);
      ordered = ordered_boots plan next (plan.boots ++ boot ∷ []) h (chip_some plan k.may)
          (all_push IsIdleFirst plan.boots boot h.idle (λ f. refl)) k.next_is;
    }

boots_some : (plan : PlanLines) (boot : BootLines) → IsOrdered plan → last_of plan.boots ≡ Some boot → plan.controllers ≡ [] → ⊥
boots_some plan boot h last none = last_some plan.boots boot last (h.hardware none).1

-- a line of the last boot
last_boot_adds : (plan next : PlanLines) (boot : BootLines) (change : BootLines → BootLines) (words : Line) → IsOrdered plan →
    last_of plan.boots ≡ Some boot → list_all is_word words ≡ true → line_words plan words ≡ Ok next →
    boot_lines (change boot) ≡ boot_lines boot ++ words ∷ [] → (IsIdleFirst boot → IsIdleFirst (change boot)) →
    record plan { boots = with_last change plan.boots } ≡ next → Adds plan next
last_boot_adds plan next boot change words h last are again more idle is =
    record {
      words = words;
      are = are;
      again = again;
      written = boots_written plan next (with_last change plan.boots) words is (lines-with_last boot_lines change plan.boots boot words last more);
      ordered = ordered_boots plan next (with_last change plan.boots) h (boots_some plan boot h last)
          (all_with_last IsIdleFirst change plan.boots boot last idle h.idle) is;
    }

flip_adds : (plan next : PlanLines) (words : Line) → IsOrdered plan → line_by_kind Flip plan words ≡ Ok next → Adds plan next
unfolding line_words
flip_adds plan next words h e =
    let k = flip_kept plan next words e in
    let boot = open_boot_found plan k.boot k.opened in
    let free = all_last IsIdleFirst plan.boots k.boot boot.last h.idle boot.idle in
    last_boot_adds plan next k.boot (λ (b : BootLines). record b { faults = b.faults ++ FlipOf k.controller k.flip ∷ [] })
    (fault_words (FlipOf k.controller k.flip)) h boot.last
    (and_from _ _ (chip_word k.controller k.flip.chip k.names_fit.0 k.names_fit.1)
    (decimals_words (k.flip.page ∷ k.flip.before ∷ k.flip.bits) (small_are_numbers (k.flip.page ∷ k.flip.before ∷ k.flip.bits)
    (All-cons IsSmall k.flip.page (k.flip.before ∷ k.flip.bits) k.page_small (All-cons IsSmall k.flip.before k.flip.bits k.before_small k.bits_small)))))
    (flip_again plan next words k) (fault_line k.boot (FlipOf k.controller k.flip) boot.idle free) (λ old. old) k.next_is

cut_adds : (plan next : PlanLines) (words : Line) → IsOrdered plan → line_by_kind Cut plan words ≡ Ok next → Adds plan next
unfolding line_words
cut_adds plan next words h e =
    let k = cut_kept plan next words e in
    let boot = open_boot_found plan k.boot k.opened in
    let free = all_last IsIdleFirst plan.boots k.boot boot.last h.idle boot.idle in
    last_boot_adds plan next k.boot (λ (b : BootLines). record b { faults = b.faults ++ CutOf k.controller k.cut ∷ [] })
    (fault_words (CutOf k.controller k.cut)) h boot.last
    (and_from _ _ (decimal_word k.controller k.fits) (and_from _ _ (decimal_word k.cut.event (omega (arith, k.event_small)))
    (and_from _ _ (tear_word k.cut.tear k.tear_is) refl)))
    (cut_again plan next k) (fault_line k.boot (CutOf k.controller k.cut) boot.idle free) (λ old. old) k.next_is

session_adds : (plan next : PlanLines) (words : Line) → IsOrdered plan → line_by_kind Session plan words ≡ Ok next → Adds plan next
unfolding line_words
session_adds plan next words h e =
    let k = session_kept plan next words e in
    let boot = running_found plan k.boot k.running in
    let session : SessionLines = record { controller = k.controller; commands = [] } in
    last_boot_adds plan next k.boot (λ (b : BootLines). record b { sessions = b.sessions ++ session ∷ [] })
    (codes "session" ∷ decimal k.controller ∷ []) h boot.last (and_from _ _ (decimal_word k.controller k.fits) refl)
    (session_again plan next k) (session_line k.boot k.controller boot.free)
    (λ old. λ none. absurd (push_some k.boot.sessions session none)) k.next_is

none_below : (ns : List ℕ) (sessions : List SessionLines) → 0 < length ns → list_all (λ s. ltb s (length sessions)) ns ≡ true → sessions ≡ [] → ⊥
none_below [] sessions some h none = omega arith
none_below (n ∷ ns) sessions some h none =
    let below = ltb-true n (length sessions) (and_parts (ltb n (length sessions)) (list_all (λ s. ltb s (length sessions)) ns) h).0 in
    let empty = ap length none in omega (arith, below, empty)

schedule_by : (plan next : PlanLines) (k : ScheduleKept plan next) (boot : RunningBoot plan k.boot) (ns : List ℕ) → k.sessions ≡ ns → IsOrdered plan →
    line_words plan (codes "schedule" ∷ decimals k.sessions) ≡ Ok next → Adds plan next
schedule_by plan next k boot [] is h again = absurd (let none = ap length is in let some = k.some in omega (arith, none, some))
schedule_by plan next k boot (n ∷ ns) is h again =
    last_boot_adds plan next k.boot (λ (b : BootLines). record b { schedule = n ∷ ns }) (codes "schedule" ∷ decimals (n ∷ ns)) h boot.last
    (decimals_words (n ∷ ns) (subst (All IsNumber) is k.fit))
    (subst (λ ms. line_words plan (codes "schedule" ∷ decimals ms) ≡ Ok next) is again) (schedule_line k.boot n ns boot.free)
    (λ old. λ none. absurd (none_below k.sessions k.boot.sessions k.some k.there none))
    (subst (λ ms. record plan { boots = with_last (λ (b : BootLines). record b { schedule = ms }) plan.boots } ≡ next) is k.next_is)

schedule_adds : (plan next : PlanLines) (words : Line) → IsOrdered plan → line_by_kind Schedule plan words ≡ Ok next → Adds plan next
unfolding line_words
schedule_adds plan next words h e =
    let k = schedule_kept plan next words e in
    schedule_by plan next k (running_found plan k.boot k.running) k.sessions refl h (schedule_again plan next k)

-- the words of a command, put together another way
abbrev first_word : CommandLine → List ℕ
first_word (FlashErase dev no_scan start count) = codes "flash_erase"
first_word (NandWrite dev mark raw oob pad off name) = codes "nandwrite"
first_word (NandDump dev off len raw oob bad) = codes "nanddump"
first_word (NandTest dev keep mark seed passes off len) = codes "nandtest"
first_word (MarkBad dev block) = codes "markbad"
first_word (IsBad dev block) = codes "isbad"
first_word (Stats dev) = codes "stats"

behind : (first : List ℕ) (a b : Line) → a ≡ b → first ∷ a ≡ first ∷ b
behind first a b e = ap (λ ws. first ∷ ws) e

texts_are : (command : CommandLine) → command_words command ≡ first_word command ∷ command_texts command
texts_are (FlashErase dev no_scan start count) = refl
texts_are (NandWrite dev mark raw oob pad off name) = simp append_assoc
texts_are (NandDump dev off len raw oob bad) = simp append_assoc
texts_are (NandTest dev keep mark seed passes off len) = simp append_assoc
texts_are (MarkBad dev block) = refl
texts_are (IsBad dev block) = refl
texts_are (Stats dev) = refl

both_words : (a b : Line) → list_all is_word a ≡ true → list_all is_word b ≡ true → list_all is_word (a ++ b) ≡ true
both_words a b h k = list_all-append is_word a b ∙ and_from (list_all is_word a) (list_all is_word b) h k

flag_words : (word : List ℕ) (b : Bool) → is_word word ≡ true → list_all is_word (flag word b) ≡ true
flag_words word true h = and_from (is_word word) true h refl
flag_words word false h = refl

valued_words : (word : List ℕ) (value default : ℕ) → is_word word ≡ true → value < 2 ^ 64 → list_all is_word (valued word value default) ≡ true
valued_words word value default h k = by (eqb value default)
  where
    by : (b : Bool) → list_all is_word (cond b [] (word ∷ decimal value ∷ [])) ≡ true
    by true = refl
    by false = and_from (is_word word) (list_all is_word (decimal value ∷ [])) h (and_from (is_word (decimal value)) true (decimal_word value k) refl)

bad_words : (bad : BadMode) → list_all is_word (bad_option bad) ≡ true
bad_words PadBad = refl
bad_words DumpBad = refl
bad_words SkipBad = refl

two_words : (a b : List ℕ) → is_word a ≡ true → is_word b ≡ true → list_all is_word (a ∷ b ∷ []) ≡ true
two_words a b h k = and_from (is_word a) (list_all is_word (b ∷ [])) h (and_from (is_word b) true k refl)

one_word : (a : List ℕ) → is_word a ≡ true → list_all is_word (a ∷ []) ≡ true
one_word a h = and_from (is_word a) true h refl

texts_words : (command : CommandLine) → HasFit command → list_all is_word (first_word command ∷ command_texts command) ≡ true
texts_words (FlashErase dev no_scan start count) h =
    both_words (flag (codes "-N") no_scan) (device_name dev ∷ decimal start ∷ decimal count ∷ []) (flag_words (codes "-N") no_scan refl)
    (and_from (is_word (device_name dev)) (list_all is_word (decimal start ∷ decimal count ∷ [])) (device_word dev h.0)
    (two_words (decimal start) (decimal count) (decimal_word start (omega (arith, h.1))) (decimal_word count (omega (arith, h.2)))))
texts_words (NandWrite dev mark raw oob pad off name) h =
    both_words (flag (codes "-m") mark) _ (flag_words (codes "-m") mark refl)
    (both_words (flag (codes "-n") raw) _ (flag_words (codes "-n") raw refl)
    (both_words (flag (codes "-o") oob) _ (flag_words (codes "-o") oob refl)
    (both_words (flag (codes "-p") pad) _ (flag_words (codes "-p") pad refl)
    (both_words (valued (codes "-s") off 0) (device_name dev ∷ name ∷ []) (valued_words (codes "-s") off 0 refl h.1)
    (two_words (device_name dev) name (device_word dev h.0) (name_word name h.2))))))
texts_words (NandDump dev off len raw oob bad) h =
    both_words (valued (codes "-s") off 0) _ (valued_words (codes "-s") off 0 refl h.1)
    (both_words (valued (codes "-l") len 0) _ (valued_words (codes "-l") len 0 refl h.2)
    (both_words (flag (codes "-n") raw) _ (flag_words (codes "-n") raw refl)
    (both_words (flag (codes "-o") oob) _ (flag_words (codes "-o") oob refl)
    (both_words (bad_option bad) (device_name dev ∷ []) (bad_words bad) (one_word (device_name dev) (device_word dev h.0))))))
texts_words (NandTest dev keep mark seed passes off len) h =
    both_words (flag (codes "-k") keep) _ (flag_words (codes "-k") keep refl)
    (both_words (flag (codes "-m") mark) _ (flag_words (codes "-m") mark refl)
    (both_words (valued (codes "-s") seed 0) _ (valued_words (codes "-s") seed 0 refl h.1)
    (both_words (valued (codes "-p") passes 1) _ (valued_words (codes "-p") passes 1 refl (omega (arith, h.3)))
    (both_words (valued (codes "-o") off 0) _ (valued_words (codes "-o") off 0 refl h.4)
    (both_words (valued (codes "-l") len 0) (device_name dev ∷ []) (valued_words (codes "-l") len 0 refl h.5)
    (one_word (device_name dev) (device_word dev h.0)))))))
texts_words (MarkBad dev block) h = two_words (device_name dev) (decimal block) (device_word dev h.0) (decimal_word block (omega (arith, h.1)))
texts_words (IsBad dev block) h = two_words (device_name dev) (decimal block) (device_word dev h.0) (decimal_word block (omega (arith, h.1)))
texts_words (Stats dev) h = one_word (device_name dev) (device_word dev h)

texts_again : (plan next : PlanLines) (command : CommandLine) → command_line (kind_of command) plan (command_texts command) ≡ Ok next →
    line_words plan (first_word command ∷ command_texts command) ≡ Ok next
unfolding line_words
texts_again plan next (FlashErase dev no_scan start count) e = e
texts_again plan next (NandWrite dev mark raw oob pad off name) e = e
texts_again plan next (NandDump dev off len raw oob bad) e = e
texts_again plan next (NandTest dev keep mark seed passes off len) e = e
texts_again plan next (MarkBad dev block) e = e
texts_again plan next (IsBad dev block) e = e
texts_again plan next (Stats dev) e = e

command_adds : (kind : LineKind) (plan next : PlanLines) (words : Line) → IsOrdered plan → command_line kind plan words ≡ Ok next → Adds plan next
command_adds kind plan next words h e =
    let k = command_kept kind plan next words e in
    let boot = running_found plan k.boot k.running in
    let change : SessionLines → SessionLines = λ s. record s { commands = s.commands ++ k.command ∷ [] } in
    let are = sym (texts_are k.command) in
    last_boot_adds plan next k.boot (λ (b : BootLines). record b { sessions = with_last change b.sessions })
    (command_words k.command) h boot.last
    (ap (list_all is_word) (texts_are k.command) ∙ texts_words k.command k.fits)
    (subst (λ ws. line_words plan ws ≡ Ok next) are (texts_again plan next k.command (command_again kind plan next k)))
    (command_written k.boot k.session k.command boot.free k.last)
    (λ old. λ none. absurd (with_last_some change k.boot.sessions k.session k.last none)) k.next_is

pub kind_adds : (kind : LineKind) (plan next : PlanLines) (words : Line) → IsOrdered plan → line_by_kind kind plan words ≡ Ok next → Adds plan next
kind_adds Header plan next words h e = header_adds plan next words h e
kind_adds Controller plan next words h e = controller_adds plan next words h e
kind_adds Chip plan next words h e = chip_adds plan next words h e
kind_adds Bad plan next words h e = bad_adds plan next words h e
kind_adds Weak plan next words h e = weak_adds plan next words h e
kind_adds Bus plan next words h e = bus_adds plan next words h e
kind_adds Part plan next words h e = part_adds plan next words h e
kind_adds Data plan next words h e = data_adds plan next words h e
kind_adds Boot plan next words h e = boot_adds plan next words h e
kind_adds Flip plan next words h e = flip_adds plan next words h e
kind_adds Cut plan next words h e = cut_adds plan next words h e
kind_adds Session plan next words h e = session_adds plan next words h e
kind_adds Schedule plan next words h e = schedule_adds plan next words h e
kind_adds ToErase plan next words h e = command_adds ToErase plan next words h e
kind_adds ToWrite plan next words h e = command_adds ToWrite plan next words h e
kind_adds ToDump plan next words h e = command_adds ToDump plan next words h e
kind_adds ToTest plan next words h e = command_adds ToTest plan next words h e
kind_adds ToMark plan next words h e = command_adds ToMark plan next words h e
kind_adds ToAsk plan next words h e = command_adds ToAsk plan next words h e
kind_adds ToCount plan next words h e = command_adds ToCount plan next words h e

-- a line of words that is kept adds itself, or has no words
words_add : (plan next : PlanLines) (words : Line) → IsOrdered plan → line_words plan words ≡ Ok next → (plan ≡ next) ⊎ Adds plan next
unfolding line_words
words_add plan next [] h e = inl (ok_same plan next e)
words_add plan next (first ∷ words) h e =
    let one = found (meaning_in first_words first) UnknownWord _ next e in
    inr (kind_adds one.value plan next words h one.further)

pub line_adds : (plan next : PlanLines) (bytes : List ℕ) → IsOrdered plan → line plan bytes ≡ Ok next → (plan ≡ next) ⊎ Adds plan next
unfolding line
line_adds plan next bytes h e =
    let one = rule_kept (leb (length bytes) longest_line) LineTooLong _ next e in
    let two = rule_kept (list_all is_allowed bytes) BadByte _ next one.1 in
    words_add plan next (words_of bytes) h two.1

-- these lines of words lead from one plan to another
abbrev ReadsWords : PlanLines → List Line → PlanLines → Type 0
ReadsWords old [] new = new ≡ old
ReadsWords old (words ∷ later) new = (next : PlanLines) × (line_words old words ≡ Ok next) × ReadsWords next later new

-- what lines that are read add to the canonical text
record Grows (old new : PlanLines) : Type 0 where
  pub lines : List Line
  pub are : list_all (list_all is_word) lines ≡ true
  pub written : canonical_words new ≡ canonical_words old ++ lines
  pub again : ReadsWords old lines new

grows_by : (old next new : PlanLines) → (old ≡ next) ⊎ Adds old next → Grows next new → Grows old new
grows_by old next new (inl same) g = subst (λ (p : PlanLines). Grows p new) (sym same) g
grows_by old next new (inr a) g =
    record {
      lines = a.words ∷ g.lines;
      are = and_from (list_all is_word a.words) (list_all (list_all is_word) g.lines) a.are g.are;
      written = g.written ∙ ap (λ ls. ls ++ g.lines) a.written ∙ append_assoc (canonical_words old) (a.words ∷ []) g.lines;
      again = (next, a.again, g.again);
    }

pub ordered_by : (old next : PlanLines) → IsOrdered old → (old ≡ next) ⊎ Adds old next → IsOrdered next
ordered_by old next h (inl same) = subst IsOrdered same h
ordered_by old next h (inr a) = a.ordered

reads_grow : (lines : List (List ℕ)) (old new : PlanLines) → IsOrdered old → Reads old lines new → Grows old new
reads_grow [] old new h same =
    record { lines = []; are = refl; written = ap canonical_words same ∙ sym (append-nil (canonical_words old)); again = same }
reads_grow (bytes ∷ lines) old new h (next, e, later) =
    let adds = line_adds old next bytes h e in
    grows_by old next new adds (reads_grow lines next new (ordered_by old next h adds) later)

pub none_ordered : IsOrdered no_lines
none_ordered = record { bare = λ e. refl; hardware = λ e. (refl, refl); idle = All-nil IsIdleFirst }

abbrev IsShort : List ℕ → Type 0
IsShort bytes = length bytes ≤ longest_line

-- a line of words is read as its words
line_again : (old next : PlanLines) (words : Line) → list_all is_word words ≡ true → IsShort (spaced words) →
    line_words old words ≡ Ok next → line old (spaced words) ≡ Ok next
unfolding line
line_again old next words are short e =
    rule_step (leb (length (spaced words)) longest_line) LineTooLong _ next (le-leb (length (spaced words)) longest_line short)
    (rule_step (list_all is_allowed (spaced words)) BadByte _ next (line_allowed (spaced words) (line_spaced words are))
    (ap (line_words old) (words_of_spaced words are) ∙ e))

lines_read : (lines : List Line) (old new : PlanLines) → list_all (list_all is_word) lines ≡ true → All IsShort (map spaced lines) →
    ReadsWords old lines new → Reads old (map spaced lines) new
lines_read [] old new are short same = same
lines_read (words ∷ lines) old new are short (next, e, later) =
    let parts = and_parts (list_all is_word words) (list_all (list_all is_word) lines) are in (
      next,
      line_again old next words parts.0 (All-head IsShort (spaced words) (map spaced lines) short) e,
      lines_read lines next new parts.1 (All-tail IsShort (spaced words) (map spaced lines) short) later,
    )

all_spaced : (lines : List Line) → list_all (list_all is_word) lines ≡ true → list_all (list_all is_spaced) (map spaced lines) ≡ true
all_spaced [] h = refl
all_spaced (words ∷ lines) h =
    let parts = and_parts (list_all is_word words) (list_all (list_all is_word) lines) h in
    and_from (list_all is_spaced (spaced words)) (list_all (list_all is_spaced) (map spaced lines)) (line_spaced words parts.0) (all_spaced lines parts.1)

-- the canonical text of a plan is read as the same plan
pub reads_again : ReadsAgain
reads_again bytes plan h fits =
    let g = reads_grow (lines_of bytes) no_lines plan none_ordered h.lines in
    let are_lines : canonical_lines plan ≡ map spaced g.lines = ap (map spaced) g.written in
    let short : All IsShort (map spaced g.lines) = subst (All IsShort) are_lines fits.lines in
    let split : lines_of (canonical_text plan) ≡ map spaced g.lines =
    ap (λ ls. lines_of (flat_map ended ls)) are_lines ∙ lines_again (map spaced g.lines) (all_spaced g.lines g.are) in
    record {
      short = fits.text;
      lines = subst (λ ls. Reads no_lines ls plan) (sym split) (lines_read g.lines no_lines plan g.are short g.again);
      some = h.some;
    }
