-- Each line keeps what the lines before it kept.
use Rattle.std.proofs.Common.{◌≡◌, ◌∙◌, ℕ, ◌+◌, ◌≤◌, ◌<◌, true, eqb, leb, ltb, List, [], ◌∷◌, ◌++◌, length, Option, Some, None, Ok, sym, ap, refl, subst, arith, length-append}
use Rattle.std.specs.Prelude.{◌&&◌, ◌||◌, All, cond, sum_by}
use Rattle.std.specs.List.{list_all}
use Rattle.std.proofs.lemmas.Bool.{and_parts, and_from, or_right, ltb-true}
use Rattle.std.proofs.lemmas.List.{append-nil}
use Rattle.std.proofs.lemmas.List.Concat.{flat_map-append}
use Rattle.std.proofs.lemmas.List.Folds.{list_all-append}
use Rattle.std.proofs.lemmas.List.Elements.{All-cons, All-nil}
use Rattle.std.proofs.lemmas.List.Sums.{sum_by-cons, sum_by_push}
use Rattle.nand_model.specs.declared.geometry.Geometry.{Geometry}
use Rattle.nand_model.specs.declared.words.Weak.{Weak as WeakPlace}
use Rattle.command_model.specs.Command.{cost_of}
use Rattle.nand_model.specs.declared.words.Command.{Command as Ordered}
use Rattle.nand_model.specs.declared.words.Command.TheVariants.{FlashErase as Erases, NandWrite as Writes, NandDump as Dumps, NandTest as Tests, MarkBad as Marks, IsBad as Asks, Stats as Counts}
use Rattle.plan_grammar.specs.declared.kind.PlanKind.TheVariants.{UnknownDevice}
use Rattle.plan_grammar.specs.declared.words.LineKind.{LineKind}
use Rattle.plan_grammar.specs.declared.words.LineKind.TheVariants.{Header, Controller, Chip, Bad, Weak, Bus, Part, Data, Boot, Flip, Cut, Session, Schedule, FlashErase as ToErase, NandWrite as ToWrite, NandDump as ToDump, NandTest as ToTest, MarkBad as ToMark, IsBad as ToAsk, Stats as ToCount}
use Rattle.plan_grammar.specs.declared.lines.PlanLines.{PlanLines}
use Rattle.plan_grammar.specs.declared.lines.ChipLines.{ChipLines}
use Rattle.plan_grammar.specs.declared.lines.DetailLine.TheVariants.{Bad as BadBlocks, Weak as WeakAt, Bus as OnBus}
use Rattle.plan_grammar.specs.declared.lines.DataLine.{DataLine}
use Rattle.plan_grammar.specs.declared.lines.BootLines.{BootLines}
use Rattle.plan_grammar.specs.declared.lines.FaultLine.{FaultLine}
use Rattle.plan_grammar.specs.declared.lines.FaultLine.TheVariants.{Flip as FlipOf, Cut as CutOf}
use Rattle.plan_grammar.specs.declared.lines.SessionLines.{SessionLines}
use Rattle.plan_grammar.specs.declared.lines.CommandLine.{CommandLine}
use Rattle.plan_grammar.specs.declared.lines.CommandLine.TheVariants.{FlashErase, NandWrite, NandDump, NandTest, MarkBad, IsBad, Stats}
use Rattle.plan_grammar.specs.Limits.{most_controllers, most_chips, most_pages, most_flips, most_operations}
use Rattle.plan_grammar.specs.Rules.{is_empty, last_of, with_last}
use Rattle.fault_plan.specs.WeakPlaces.{are_apart}
use Rattle.plan_laws.proofs.Apart.{apart_push}
use Rattle.plan_grammar.specs.Devices.{Device, bad_in, bad_blocks, weak_in, weak_places, are_different, device_at, data_length, all_pages}
use Rattle.nand_model.specs.Sizes.{page_count}
use Rattle.plan_grammar.specs.Hardware.{is_hardware, has_chip, some_chip, leaves_table_blocks, place_count}
use Rattle.plan_grammar.specs.Faults.{is_flip, flips_of}
use Rattle.plan_grammar.specs.Costs.{command_on, allowance, cost_on, line_cost, sessions_cost, plan_cost, device_in}
use Rattle.plan_grammar.specs.Commands.{is_on, device_of, write_rules, device_rules, with_command}
use Rattle.plan_grammar.specs.Grammar.{line_by_kind}
use Rattle.plan_laws.proofs.Steps.{there_kept, empty_is}
use Rattle.plan_laws.proofs.Hardware.{HeaderKept, header_kept, ControllerKept, controller_kept, ChipKept, chip_kept, LastChip, last_found, open_found, BadKept, bad_kept, WeakKept, weak_kept, BusKept, bus_kept, PartKept, part_kept}
use Rattle.plan_laws.proofs.Boots.{DataKept, data_kept, BootKept, boot_kept, open_boot_found, FlipKept, flip_kept, CutKept, cut_kept, running_found, SessionKept, session_kept, ScheduleKept, schedule_kept}
use Rattle.plan_laws.proofs.Commands.{CommandKept, command_kept}
use Rattle.plan_laws.proofs.Lists.{sum_with_last, sum_le, length_with_last}
use Rattle.plan_laws.proofs.Again.{all_push, all_with_last}
use Rattle.plan_laws.proofs.Goods.{hardware_of, LiesOn, free_push, KeepsChip, KeepsChips, KeepsCommand, KeepsSession, KeepsFault, KeepsBoot, base_on, command_base, session_base, boot_base, base_cost, IsFull, AreFullBefore, KeepsLines}

-- where only the controllers change, and there is no boot yet
hardware_keeps : (plan next : PlanLines) (controllers : List (List ChipLines)) → KeepsLines plan → plan.boots ≡ [] →
    length controllers ≤ most_controllers → All KeepsChips controllers → AreFullBefore controllers →
    record plan { controllers = controllers } ≡ next → KeepsLines next
hardware_keeps plan next controllers h none few chips full is =
    subst KeepsLines is (record {
      few_controllers = few;
      chips = chips;
      full_before = full;
      full = λ some. absurd (let empty = ap length none in omega (arith, some, empty));
      few_data = h.few_data;
      few_boots = h.few_boots;
      boots = subst (All (KeepsBoot controllers plan.payloads)) (sym none) (All-nil (KeepsBoot controllers plan.payloads));
      few_flips = h.few_flips;
      cheap = subst (λ (bs : List BootLines). base_cost controllers plan.payloads bs ≤ most_operations) (sym none) (omega arith);
    })

full_push : (controllers : List (List ChipLines)) → AreFullBefore controllers →
    (is_empty controllers || some_chip (last_of controllers)) ≡ true → AreFullBefore (controllers ++ [] ∷ [])
full_push [] h e = tt
full_push ([] ∷ []) h e = absurd (cc e)
full_push ((chip ∷ chips) ∷ []) h e = (omega arith, tt)
full_push (chips ∷ next ∷ []) h e = (h.0, full_push (next ∷ []) h.1 e)
full_push (chips ∷ next ∷ after ∷ controllers) h e = (h.0, full_push (next ∷ after ∷ controllers) h.1 e)

full_with_last : (g : List ChipLines → List ChipLines) (controllers : List (List ChipLines)) → AreFullBefore controllers →
    AreFullBefore (with_last g controllers)
full_with_last g [] h = tt
full_with_last g (chips ∷ []) h = tt
full_with_last g (chips ∷ next ∷ []) h = (h.0, tt)
full_with_last g (chips ∷ next ∷ after ∷ controllers) h = (h.0, full_with_last g (next ∷ after ∷ controllers) h.1)

full_all : (controllers : List (List ChipLines)) → AreFullBefore controllers → some_chip (last_of controllers) ≡ true →
    All IsFull controllers
full_all [] h e = All-nil IsFull
full_all ([] ∷ []) h e = absurd (cc e)
full_all ((chip ∷ chips) ∷ []) h e = All-cons IsFull (chip ∷ chips) [] (omega arith) (All-nil IsFull)
full_all (chips ∷ next ∷ controllers) h e = All-cons IsFull chips (next ∷ controllers) h.0 (full_all (next ∷ controllers) h.1 e)

no_boots : (plan : PlanLines) → is_hardware plan ≡ true → plan.boots ≡ []
no_boots plan h = empty_is plan.boots (and_parts (is_empty plan.payloads) (is_empty plan.boots) h).1

header_keeps : (plan next : PlanLines) → KeepsLines plan → HeaderKept plan next → KeepsLines next
header_keeps plan next h k =
    subst KeepsLines k.next_is (record {
      few_controllers = h.few_controllers;
      chips = h.chips;
      full_before = h.full_before;
      full = h.full;
      few_data = h.few_data;
      few_boots = h.few_boots;
      boots = h.boots;
      few_flips = h.few_flips;
      cheap = h.cheap;
    })

controller_keeps : (plan next : PlanLines) → KeepsLines plan → ControllerKept plan next → KeepsLines next
controller_keeps plan next h k =
    let may = and_parts (plan.begun && is_hardware plan) (is_empty plan.controllers || has_chip plan) k.may in
    let hardware = (and_parts plan.begun (is_hardware plan) may.0).1 in
    hardware_keeps plan next (plan.controllers ++ [] ∷ []) h (no_boots plan hardware)
    (omega (arith, length-append plan.controllers ([] ∷ []), k.few))
    (all_push KeepsChips plan.controllers [] h.chips (record { few = omega arith; good = All-nil KeepsChip }))
    (full_push plan.controllers h.full_before may.1) k.next_is

new_chip : (g : Geometry) → KeepsChip (record { geometry = g; details = []; parts = [] })
new_chip g = record {
  bad = refl;
  different = refl;
  tables = or_right (eqb g.bbt 0) true refl;
  weak = All-nil (λ (w : WeakPlace). w.at < place_count g w.kind);
  apart = refl;
  parts = All-nil (LiesOn g);
  free = tt;
}

chip_keeps : (plan next : PlanLines) → KeepsLines plan → ChipKept plan next → KeepsLines next
chip_keeps plan next h k =
    let chip : ChipLines = record { geometry = k.g; details = []; parts = [] } in
    let change : List ChipLines → List ChipLines = λ chips. chips ++ chip ∷ [] in
    let room = ltb-true (length k.chips) most_chips (and_parts (ltb (length k.chips) most_chips) (leb (all_pages plan + page_count k.g) most_pages) k.room).0 in
    let same = length_with_last change plan.controllers in
    hardware_keeps plan next (with_last change plan.controllers) h (no_boots plan k.hardware)
    (omega (arith, same, h.few_controllers))
    (all_with_last KeepsChips change plan.controllers k.chips k.last
    (λ old. record {
      few = omega (arith, length-append k.chips (chip ∷ []), room);
      good = all_push KeepsChip k.chips chip old.good (new_chip k.g);
    }) h.chips)
    (full_with_last change plan.controllers h.full_before) k.next_is

-- where only the last chip changes
last_keeps : (plan next : PlanLines) (chip : ChipLines) (change : ChipLines → ChipLines) → KeepsLines plan → is_hardware plan ≡ true →
    LastChip plan chip → (KeepsChip chip → KeepsChip (change chip)) →
    record plan { controllers = with_last (with_last change) plan.controllers } ≡ next → KeepsLines next
last_keeps plan next chip change h hardware last more is =
    let same = length_with_last (with_last change) plan.controllers in
    hardware_keeps plan next (with_last (with_last change) plan.controllers) h (no_boots plan hardware)
    (omega (arith, same, h.few_controllers))
    (all_with_last KeepsChips (with_last change) plan.controllers last.chips last.controller_is
    (λ old. record {
      few = (let length_same = length_with_last change last.chips in omega (arith, length_same, old.few));
      good = all_with_last KeepsChip change last.chips chip last.chip_is more old.good;
    }) h.chips)
    (full_with_last (with_last change) plan.controllers h.full_before) is

with_bad : (chip : ChipLines) (blocks : List ℕ) →
    bad_blocks (record chip { details = chip.details ++ BadBlocks blocks ∷ [] }) ≡ bad_blocks chip ++ blocks
with_bad chip blocks =
    flat_map-append bad_in chip.details (BadBlocks blocks ∷ []) ∙ ap (λ bs. bad_blocks chip ++ bs) (append-nil blocks)

bad_weak : (chip : ChipLines) (blocks : List ℕ) →
    weak_places (record chip { details = chip.details ++ BadBlocks blocks ∷ [] }) ≡ weak_places chip
bad_weak chip blocks = flat_map-append weak_in chip.details (BadBlocks blocks ∷ []) ∙ append-nil (weak_places chip)

bad_keeps : (plan next : PlanLines) → KeepsLines plan → BadKept plan next → KeepsLines next
bad_keeps plan next h k =
    let at = open_found plan k.chip k.opened in
    last_keeps plan next k.chip (λ (c : ChipLines). record c { details = c.details ++ BadBlocks k.blocks ∷ [] }) h at.hardware at.last
    (λ old. record {
      bad = ap (list_all (λ b. ltb b k.chip.geometry.blocks)) (with_bad k.chip k.blocks)
          ∙ list_all-append (λ b. ltb b k.chip.geometry.blocks) (bad_blocks k.chip) k.blocks
          ∙ and_from (list_all (λ b. ltb b k.chip.geometry.blocks) (bad_blocks k.chip)) (list_all (λ b. ltb b k.chip.geometry.blocks) k.blocks) old.bad k.within;
      different = ap are_different (with_bad k.chip k.blocks) ∙ k.different;
      tables = ap (leaves_table_blocks k.chip.geometry) (with_bad k.chip k.blocks) ∙ k.tables;
      weak = subst (All (λ (w : WeakPlace). w.at < place_count k.chip.geometry w.kind)) (sym (bad_weak k.chip k.blocks)) old.weak;
      apart = ap are_apart (bad_weak k.chip k.blocks) ∙ old.apart;
      parts = old.parts;
      free = old.free;
    }) k.next_is

weak_bad : (chip : ChipLines) (weak : WeakPlace) →
    bad_blocks (record chip { details = chip.details ++ WeakAt weak ∷ [] }) ≡ bad_blocks chip
weak_bad chip weak = flat_map-append bad_in chip.details (WeakAt weak ∷ []) ∙ append-nil (bad_blocks chip)

with_weak : (chip : ChipLines) (weak : WeakPlace) →
    weak_places (record chip { details = chip.details ++ WeakAt weak ∷ [] }) ≡ weak_places chip ++ weak ∷ []
with_weak chip weak = flat_map-append weak_in chip.details (WeakAt weak ∷ [])

weak_keeps : (plan next : PlanLines) → KeepsLines plan → WeakKept plan next → KeepsLines next
weak_keeps plan next h k =
    let at = open_found plan k.chip k.opened in
    let P : WeakPlace → Type 0 = λ (w : WeakPlace). w.at < place_count k.chip.geometry w.kind in
    last_keeps plan next k.chip (λ (c : ChipLines). record c { details = c.details ++ WeakAt k.weak ∷ [] }) h at.hardware at.last
    (λ old. record {
      bad = ap (list_all (λ b. ltb b k.chip.geometry.blocks)) (weak_bad k.chip k.weak) ∙ old.bad;
      different = ap are_different (weak_bad k.chip k.weak) ∙ old.different;
      tables = ap (leaves_table_blocks k.chip.geometry) (weak_bad k.chip k.weak) ∙ old.tables;
      weak = subst (All P) (sym (with_weak k.chip k.weak)) (all_push P (weak_places k.chip) k.weak old.weak k.within);
      apart = ap are_apart (with_weak k.chip k.weak) ∙ apart_push (weak_places k.chip) k.weak old.apart k.fresh;
      parts = old.parts;
      free = old.free;
    }) k.next_is

bus_bad : (chip : ChipLines) → bad_blocks (record chip { details = chip.details ++ OnBus ∷ [] }) ≡ bad_blocks chip
bus_bad chip = flat_map-append bad_in chip.details (OnBus ∷ []) ∙ append-nil (bad_blocks chip)

bus_weak : (chip : ChipLines) → weak_places (record chip { details = chip.details ++ OnBus ∷ [] }) ≡ weak_places chip
bus_weak chip = flat_map-append weak_in chip.details (OnBus ∷ []) ∙ append-nil (weak_places chip)

bus_keeps : (plan next : PlanLines) → KeepsLines plan → BusKept plan next → KeepsLines next
bus_keeps plan next h k =
    let at = open_found plan k.chip k.opened in
    last_keeps plan next k.chip (λ (c : ChipLines). record c { details = c.details ++ OnBus ∷ [] }) h at.hardware at.last
    (λ old. record {
      bad = ap (list_all (λ b. ltb b k.chip.geometry.blocks)) (bus_bad k.chip) ∙ old.bad;
      different = ap are_different (bus_bad k.chip) ∙ old.different;
      tables = ap (leaves_table_blocks k.chip.geometry) (bus_bad k.chip) ∙ old.tables;
      weak = subst (All (λ (w : WeakPlace). w.at < place_count k.chip.geometry w.kind)) (sym (bus_weak k.chip)) old.weak;
      apart = ap are_apart (bus_weak k.chip) ∙ old.apart;
      parts = old.parts;
      free = old.free;
    }) k.next_is

part_keeps : (plan next : PlanLines) → KeepsLines plan → PartKept plan next → KeepsLines next
part_keeps plan next h k =
    last_keeps plan next k.chip (λ (c : ChipLines). record c { parts = c.parts ++ k.part ∷ [] }) h k.hardware (last_found plan k.chip k.last)
    (λ old. record {
      bad = old.bad;
      different = old.different;
      tables = old.tables;
      weak = old.weak;
      apart = old.apart;
      parts = all_push (LiesOn k.chip.geometry) k.chip.parts k.part old.parts (k.some, k.within);
      free = free_push [] k.chip.parts k.part old.free k.free;
    }) k.next_is

data_keeps : (plan next : PlanLines) → KeepsLines plan → DataKept plan next → KeepsLines next
data_keeps plan next h k =
    let none = empty_is plan.boots (and_parts (has_chip plan) (is_empty plan.boots) k.may).1 in
    let payloads : List DataLine = plan.payloads ++ k.payload ∷ [] in
    subst KeepsLines k.next_is (record {
      few_controllers = h.few_controllers;
      chips = h.chips;
      full_before = h.full_before;
      full = h.full;
      few_data = omega (arith, sum_by_push data_length plan.payloads k.payload, k.few);
      few_boots = h.few_boots;
      boots = subst (All (KeepsBoot plan.controllers payloads)) (sym none) (All-nil (KeepsBoot plan.controllers payloads));
      few_flips = h.few_flips;
      cheap = subst (λ (bs : List BootLines). base_cost plan.controllers payloads bs ≤ most_operations) (sym none) (omega arith);
    })

boot_keeps : (plan next : PlanLines) → KeepsLines plan → BootKept plan next → KeepsLines next
boot_keeps plan next h k =
    let boot : BootLines = record { faults = []; sessions = []; schedule = [] } in
    subst KeepsLines k.next_is (record {
      few_controllers = h.few_controllers;
      chips = h.chips;
      full_before = h.full_before;
      full = λ some. full_all plan.controllers h.full_before k.may;
      few_data = h.few_data;
      few_boots = omega (arith, length-append plan.boots (boot ∷ []), k.few);
      boots = all_push (KeepsBoot plan.controllers plan.payloads) plan.boots boot h.boots (record {
        few = omega arith;
        sessions = All-nil (KeepsSession plan.controllers plan.payloads);
        schedule = All-nil (λ s. s < 0);
        faults = All-nil (KeepsFault plan.controllers);
      });
      few_flips = omega (arith, sum_by_push flips_of plan.boots boot, h.few_flips);
      cheap = omega (arith, sum_by_push (boot_base plan.controllers plan.payloads) plan.boots boot, h.cheap);
    })

-- where only the last boot changes
last_boot_keeps : (plan next : PlanLines) (boot : BootLines) (change : BootLines → BootLines) (more : ℕ) → KeepsLines plan →
    last_of plan.boots ≡ Some boot →
    (KeepsBoot plan.controllers plan.payloads boot → KeepsBoot plan.controllers plan.payloads (change boot)) →
    flips_of (change boot) ≡ flips_of boot + more → sum_by flips_of plan.boots + more ≤ most_flips →
    base_cost plan.controllers plan.payloads (with_last change plan.boots) ≤ most_operations →
    record plan { boots = with_last change plan.boots } ≡ next → KeepsLines next
last_boot_keeps plan next boot change more h last keeps flips few cheap is =
    let same = length_with_last change plan.boots in
    subst KeepsLines is (record {
      few_controllers = h.few_controllers;
      chips = h.chips;
      full_before = h.full_before;
      full = λ some. h.full (omega (arith, same, some));
      few_data = h.few_data;
      few_boots = omega (arith, same, h.few_boots);
      boots = all_with_last (KeepsBoot plan.controllers plan.payloads) change plan.boots boot last keeps h.boots;
      few_flips = omega (arith, sum_with_last flips_of change plan.boots boot more last flips, few);
      cheap = cheap;
    })

-- a boot with the same operations
same_base : (plan : PlanLines) (boot : BootLines) (change : BootLines → BootLines) → KeepsLines plan → last_of plan.boots ≡ Some boot →
    boot_base plan.controllers plan.payloads (change boot) ≡ boot_base plan.controllers plan.payloads boot →
    base_cost plan.controllers plan.payloads (with_last change plan.boots) ≤ most_operations
same_base plan boot change h last same =
    omega (arith, sum_with_last (boot_base plan.controllers plan.payloads) change plan.boots boot 0 last (omega (arith, same)), h.cheap)

flip_keeps : (plan next : PlanLines) (words : List (List ℕ)) → KeepsLines plan → length words ≤ 32767 → FlipKept plan next words → KeepsLines next
flip_keeps plan next words h short k =
    let at = open_boot_found plan k.boot k.opened in
    let fault : FaultLine = FlipOf k.controller k.flip in
    let change : BootLines → BootLines = λ (b : BootLines). record b { faults = b.faults ++ fault ∷ [] } in
    last_boot_keeps plan next k.boot change 1 h at.last
    (λ old. record {
      few = old.few;
      sessions = old.sessions;
      schedule = old.schedule;
      faults = all_push (KeepsFault plan.controllers) k.boot.faults fault old.faults (record {
        chip = k.chip;
        named = k.named;
        within = k.within;
        short = omega (arith, k.short, short);
      });
    }) (sum_by_push (λ (f : FaultLine). cond (is_flip f) 1 0) k.boot.faults fault)
    (omega (arith, k.few)) (same_base plan k.boot change h at.last refl) k.next_is

cut_keeps : (plan next : PlanLines) → KeepsLines plan → CutKept plan next → KeepsLines next
cut_keeps plan next h k =
    let at = open_boot_found plan k.boot k.opened in
    let fault : FaultLine = CutOf k.controller k.cut in
    let change : BootLines → BootLines = λ (b : BootLines). record b { faults = b.faults ++ fault ∷ [] } in
    last_boot_keeps plan next k.boot change 0 h at.last
    (λ old. record {
      few = old.few;
      sessions = old.sessions;
      schedule = old.schedule;
      faults = all_push (KeepsFault plan.controllers) k.boot.faults fault old.faults k.there;
    }) (sum_by_push (λ (f : FaultLine). cond (is_flip f) 1 0) k.boot.faults fault)
    (omega (arith, h.few_flips)) (same_base plan k.boot change h at.last refl) k.next_is

session_keeps : (plan next : PlanLines) → KeepsLines plan → SessionKept plan next → KeepsLines next
session_keeps plan next h k =
    let at = running_found plan k.boot k.running in
    let session : SessionLines = record { controller = k.controller; commands = [] } in
    let change : BootLines → BootLines = λ (b : BootLines). record b { sessions = b.sessions ++ session ∷ [] } in
    last_boot_keeps plan next k.boot change 0 h at.last
    (λ old. record {
      few = omega (arith, length-append k.boot.sessions (session ∷ []), k.few);
      sessions = all_push (KeepsSession plan.controllers plan.payloads) k.boot.sessions session old.sessions (record {
        own = k.there;
        commands = All-nil (KeepsCommand plan.controllers plan.payloads k.controller);
      });
      schedule = subst (All (λ s. s < length (k.boot.sessions ++ session ∷ []))) (sym at.free)
          (All-nil (λ s. s < length (k.boot.sessions ++ session ∷ [])));
      faults = old.faults;
    }) (omega arith) (omega (arith, h.few_flips))
    (same_base plan k.boot change h at.last (omega (arith, sum_by_push (session_base plan.controllers plan.payloads) k.boot.sessions session)))
    k.next_is

all_below : (ns : List ℕ) (n : ℕ) → list_all (λ s. ltb s n) ns ≡ true → All (λ s. s < n) ns
all_below [] n h = All-nil (λ s. s < n)
all_below (m ∷ ns) n h =
    let parts = and_parts (ltb m n) (list_all (λ s. ltb s n) ns) h in
    All-cons (λ s. s < n) m ns (ltb-true m n parts.0) (all_below ns n parts.1)

schedule_keeps : (plan next : PlanLines) → KeepsLines plan → ScheduleKept plan next → KeepsLines next
schedule_keeps plan next h k =
    let at = running_found plan k.boot k.running in
    let change : BootLines → BootLines = λ (b : BootLines). record b { schedule = k.sessions } in
    last_boot_keeps plan next k.boot change 0 h at.last
    (λ old. record {
      few = old.few;
      sessions = old.sessions;
      schedule = all_below k.sessions (length k.boot.sessions) k.there;
      faults = old.faults;
    }) (omega arith) (omega (arith, h.few_flips)) (same_base plan k.boot change h at.last refl) k.next_is

-- the rules of a command look at controllers and data alone
rules_same : (plan : PlanLines) (device : Device) (command : CommandLine) →
    device_rules plan device command ≡ device_rules (hardware_of plan.controllers plan.payloads) device command
unfolding write_rules
rules_same plan device (FlashErase dev no_scan start count) = refl
rules_same plan device (NandWrite dev mark raw oob pad off name) = refl
rules_same plan device (NandDump dev off len raw oob bad) = refl
rules_same plan device (NandTest dev keep mark seed passes off len) = refl
rules_same plan device (MarkBad dev block) = refl
rules_same plan device (IsBad dev block) = refl
rules_same plan device (Stats dev) = refl

named_by : (plan : PlanLines) (c dev : ℕ) (device : Device) → device_of plan c dev ≡ Ok device → is_on c (device_at plan dev) ≡ Some device
unfolding device_of
named_by plan c dev device e = there_kept (is_on c (device_at plan dev)) UnknownDevice device e

-- no allowance makes a command cheaper
least_cost : (g : Geometry) (command : Ordered) (weak : ℕ) → cost_of g command 0 ≤ cost_of g command weak
least_cost g command weak = by command
  where
    by : (c : Ordered) → cost_of g c 0 ≤ cost_of g c weak
    by (Erases dev blocks no_scan start count) = omega arith
    by (Writes dev blocks mark raw oob pad off bytes) = omega arith
    by (Dumps dev blocks off len raw oob bad) = omega arith
    by (Tests dev blocks keep mark seed passes off len) = omega arith
    by (Marks dev blocks block) = omega arith
    by (Asks dev blocks block) = omega arith
    by (Counts dev blocks) = omega arith

on_least : (plan : PlanLines) (others : List SessionLines) (command : CommandLine) (o : Option Device) →
    base_on plan.controllers plan.payloads command o ≤ cost_on plan others command o
on_least plan others command None = omega arith
on_least plan others command (Some device) =
    least_cost device.chip.geometry (command_on plan device.part.count command) (allowance device others command)

sessions_least : (plan : PlanLines) (before sessions : List SessionLines) →
    sum_by (session_base plan.controllers plan.payloads) sessions ≤ sessions_cost plan before sessions
sessions_least plan before [] = omega arith
sessions_least plan before (session ∷ later) =
    let here = sum_le (command_base plan.controllers plan.payloads) (line_cost plan (before ++ later)) session.commands
    (λ command. on_least plan (before ++ later) command (device_at plan (device_in command))) in
    omega (arith, sum_by-cons (session_base plan.controllers plan.payloads) session later, here, sessions_least plan (before ++ session ∷ []) later)

pub base_least : (plan : PlanLines) → base_cost plan.controllers plan.payloads plan.boots ≤ plan_cost plan
base_least plan =
    sum_le (boot_base plan.controllers plan.payloads) (λ (boot : BootLines). sessions_cost plan [] boot.sessions) plan.boots
    (λ (boot : BootLines). sessions_least plan [] boot.sessions)

command_keeps : (kind : LineKind) (plan next : PlanLines) → KeepsLines plan → CommandKept plan next kind → KeepsLines next
command_keeps kind plan next h k =
    let at = running_found plan k.boot k.running in
    let add : SessionLines → SessionLines = λ (s : SessionLines). record s { commands = s.commands ++ k.command ∷ [] } in
    let change : BootLines → BootLines = λ (b : BootLines). record b { sessions = with_last add b.sessions } in
    let same = length_with_last add k.boot.sessions in
    let cheap = base_least (with_command k.command plan) in
    last_boot_keeps plan next k.boot change 0 h at.last
    (λ old. record {
      few = omega (arith, same, old.few);
      sessions = all_with_last (KeepsSession plan.controllers plan.payloads) add k.boot.sessions k.session k.last
          (λ session. record {
            own = session.own;
            commands = all_push (KeepsCommand plan.controllers plan.payloads k.session.controller) k.session.commands k.command session.commands (record {
              device = k.device;
              named = named_by plan k.session.controller (device_in k.command) k.device k.found;
              rules = sym (rules_same plan k.device k.command) ∙ k.rules;
              fits = k.fits;
            });
          }) old.sessions;
      schedule = subst (λ n. All (λ s. s < n) k.boot.schedule) (sym same) old.schedule;
      faults = old.faults;
    }) (omega arith) (omega (arith, h.few_flips)) (omega (arith, cheap, k.cheap)) k.next_is

-- each line keeps what was kept; a flip's line has no more than so many words
pub kind_keeps : (kind : LineKind) (plan next : PlanLines) (words : List (List ℕ)) → KeepsLines plan → length words ≤ 32767 →
    line_by_kind kind plan words ≡ Ok next → KeepsLines next
kind_keeps Header plan next words h short e = header_keeps plan next h (header_kept plan next words e)
kind_keeps Controller plan next words h short e = controller_keeps plan next h (controller_kept plan next words e)
kind_keeps Chip plan next words h short e = chip_keeps plan next h (chip_kept plan next words e)
kind_keeps Bad plan next words h short e = bad_keeps plan next h (bad_kept plan next words e)
kind_keeps Weak plan next words h short e = weak_keeps plan next h (weak_kept plan next words e)
kind_keeps Bus plan next words h short e = bus_keeps plan next h (bus_kept plan next words e)
kind_keeps Part plan next words h short e = part_keeps plan next h (part_kept plan next words e)
kind_keeps Data plan next words h short e = data_keeps plan next h (data_kept plan next words e)
kind_keeps Boot plan next words h short e = boot_keeps plan next h (boot_kept plan next words e)
kind_keeps Flip plan next words h short e = flip_keeps plan next words h short (flip_kept plan next words e)
kind_keeps Cut plan next words h short e = cut_keeps plan next h (cut_kept plan next words e)
kind_keeps Session plan next words h short e = session_keeps plan next h (session_kept plan next words e)
kind_keeps Schedule plan next words h short e = schedule_keeps plan next h (schedule_kept plan next words e)
kind_keeps ToErase plan next words h short e = command_keeps ToErase plan next h (command_kept ToErase plan next words e)
kind_keeps ToWrite plan next words h short e = command_keeps ToWrite plan next h (command_kept ToWrite plan next words e)
kind_keeps ToDump plan next words h short e = command_keeps ToDump plan next h (command_kept ToDump plan next words e)
kind_keeps ToTest plan next words h short e = command_keeps ToTest plan next h (command_kept ToTest plan next words e)
kind_keeps ToMark plan next words h short e = command_keeps ToMark plan next h (command_kept ToMark plan next words e)
kind_keeps ToAsk plan next words h short e = command_keeps ToAsk plan next h (command_kept ToAsk plan next words e)
kind_keeps ToCount plan next words h short e = command_keeps ToCount plan next h (command_kept ToCount plan next words e)
