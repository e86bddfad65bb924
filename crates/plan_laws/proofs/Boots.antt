-- Lines of data, boots, faults, sessions and schedules that were kept, and their canonical lines.
use Rattle.std.proofs.Common.{◌≡◌, ◌∙◌, ℕ, ◌+◌, ◌^◌, ◌≤◌, ◌<◌, true, false, not, leb, ltb, List, [], ◌∷◌, ◌++◌, length, map, Some, Ok, sym, ap, refl, subst, arith}
use Rattle.std.specs.Prelude.{◌&&◌, All, decimal, is_some}
use Rattle.std.specs.List.{list_all, list_any}
use Rattle.std.proofs.lemmas.Bool.{and_from, and_parts, ltb-true, leb-true, lt-ltb, le-leb, not-true}
use Rattle.lab_text.specs.Text.{number_of}
use Rattle.nand_model.specs.declared.words.Flip.{Flip as Turned}
use Rattle.nand_model.specs.declared.words.CutAt.{CutAt}
use Rattle.plan_grammar.specs.declared.kind.PlanKind.TheVariants.{WrongPlace, BadWords, BadNumber, OutOfChip, Overlap, TooLarge}
use Rattle.plan_grammar.specs.declared.lines.PlanLines.{PlanLines}
use Rattle.plan_grammar.specs.declared.lines.ChipLines.{ChipLines}
use Rattle.plan_grammar.specs.declared.lines.DataLine.{DataLine}
use Rattle.plan_grammar.specs.declared.lines.Piece.{Piece}
use Rattle.plan_grammar.specs.declared.lines.BootLines.{BootLines}
use Rattle.plan_grammar.specs.declared.lines.FaultLine.TheVariants.{Flip, Cut}
use Rattle.plan_grammar.specs.Limits.{most_boots, most_flips, most_sessions, most_data}
use Rattle.plan_grammar.specs.Rules.{is_empty, last_of}
use Rattle.plan_grammar.specs.Forms.{one_word, three_words, number, small_number, positive_number, numbers, small_numbers, is_name, pieces, tear, chip_numbers}
use Rattle.plan_grammar.specs.Devices.{pieces_length, all_data, data_named}
use Rattle.plan_grammar.specs.Hardware.{has_chip}
use Rattle.plan_grammar.specs.Payloads.{data_words, data_form, data_line}
use Rattle.plan_grammar.specs.Faults.{boot_line, with_last_boot, with_fault, open_boot, all_flips, chip_at, has_bits, flip_words, flip_form, flip_line, cuts_controller, cut_words, cut_form, cut_line}
use Rattle.plan_grammar.specs.Sessions.{running_boot, with_session, session_form, session_line, schedule_line}
use Rattle.plan_grammar.specs.Canonical.{decimals, piece_text, tear_text, chip_name}
use Rattle.plan_laws.proofs.Steps.{kept, rule_kept, found, there_kept, step, rule_step, there_step, ok_same, empty_is}
use Rattle.plan_laws.proofs.Numbers.{IsSmall, IsNumber, number_fits, number_again, number_of_decimal, small_fits, small_again, positive_fits, positive_again, small_numbers_fit, small_numbers_again, numbers_fit, numbers_again}
use Rattle.plan_laws.proofs.Tears.{IsTear, tear_kept, tear_again}
use Rattle.plan_laws.proofs.Pieces.{IsPiece, pieces_kept, pieces_again}
use Rattle.plan_laws.proofs.Names.{chip_fits, chip_again}
use Rattle.plan_laws.proofs.Hardware.{some_items, some_decimals}

-- data
pub record DataKept (plan next : PlanLines) : Type 0 where
  pub may : (has_chip plan && is_empty plan.boots) ≡ true
  pub payload : DataLine
  pub named : is_name payload.name ≡ true
  pub some : 0 < length payload.pieces
  pub legal : All IsPiece payload.pieces
  pub fresh : is_some (data_named plan payload.name) ≡ false
  pub few : all_data plan + pieces_length payload.pieces ≤ most_data
  pub next_is : record plan { payloads = plan.payloads ++ payload ∷ [] } ≡ next

form_kept : (plan next : PlanLines) (words : List (List ℕ)) → (has_chip plan && is_empty plan.boots) ≡ true →
    data_form plan words ≡ Ok next → DataKept plan next
unfolding data_form data_words
form_kept plan next [] may e = absurd (cc e)
form_kept plan next (name ∷ words) may e =
    let one = rule_kept (is_name name && not (is_empty words)) BadWords _ next e in
    let two = kept (pieces words) _ next one.1 in
    let three = rule_kept (not (is_some (data_named plan name))) Overlap _ next two.further in
    let four = rule_kept (leb (all_data plan + pieces_length two.value) most_data) TooLarge _ next three.1 in
    let payload : DataLine = record { name = name; pieces = two.value } in
    let form = and_parts (is_name name) (not (is_empty words)) one.0 in
    let read = pieces_kept words two.value two.is in
    record {
      may = may;
      payload = payload;
      named = form.0;
      some = omega (arith, read.1, some_items words form.1);
      legal = read.0;
      fresh = not-true (is_some (data_named plan name)) three.0;
      few = leb-true (all_data plan + pieces_length two.value) most_data four.0;
      next_is = ok_same (record plan { payloads = plan.payloads ++ payload ∷ [] }) next four.1;
    }

pub data_kept : (plan next : PlanLines) (words : List (List ℕ)) → data_line plan words ≡ Ok next → DataKept plan next
unfolding data_line
data_kept plan next words e =
    let one = rule_kept (has_chip plan && is_empty plan.boots) WrongPlace _ next e in
    form_kept plan next words one.0 one.1

abbrev pub data_texts : DataLine → List (List ℕ)
data_texts payload = payload.name ∷ map piece_text payload.pieces

some_texts : (ps : List Piece) → 0 < length ps → not (is_empty (map piece_text ps)) ≡ true
some_texts [] h = absurd (omega arith)
some_texts (p ∷ ps) h = refl

pub data_again : (plan next : PlanLines) (h : DataKept plan next) → data_line plan (data_texts h.payload) ≡ Ok next
unfolding data_line data_form data_words
data_again plan next h =
    let texts : List (List ℕ) = map piece_text h.payload.pieces in
    rule_step (has_chip plan && is_empty plan.boots) WrongPlace _ next h.may
    (rule_step (is_name h.payload.name && not (is_empty texts)) BadWords _ next
    (and_from (is_name h.payload.name) (not (is_empty texts)) h.named (some_texts h.payload.pieces h.some))
    (step (pieces texts) _ h.payload.pieces next (pieces_again h.payload.pieces h.legal)
    (rule_step (not (is_some (data_named plan h.payload.name))) Overlap _ next (ap not h.fresh)
    (rule_step (leb (all_data plan + pieces_length h.payload.pieces) most_data) TooLarge _ next
    (le-leb (all_data plan + pieces_length h.payload.pieces) most_data h.few) (ap (λ p. Ok p) h.next_is)))))

-- a boot
pub record BootKept (plan next : PlanLines) : Type 0 where
  pub may : has_chip plan ≡ true
  pub few : length plan.boots < most_boots
  pub next_is : record plan { boots = plan.boots ++ record { faults = []; sessions = []; schedule = [] } ∷ [] } ≡ next

pub boot_kept : (plan next : PlanLines) (words : List (List ℕ)) → boot_line plan words ≡ Ok next → BootKept plan next
unfolding boot_line
boot_kept plan next words e =
    let one = rule_kept (has_chip plan) WrongPlace _ next e in
    let two = rule_kept (is_empty words) BadWords _ next one.1 in
    let three = rule_kept (ltb (length plan.boots) most_boots) TooLarge _ next two.1 in
    record {
      may = one.0;
      few = ltb-true (length plan.boots) most_boots three.0;
      next_is = ok_same (record plan { boots = plan.boots ++ record { faults = []; sessions = []; schedule = [] } ∷ [] }) next three.1;
    }

pub boot_again : (plan next : PlanLines) → BootKept plan next → boot_line plan [] ≡ Ok next
unfolding boot_line
boot_again plan next h =
    rule_step (has_chip plan) WrongPlace _ next h.may
    (rule_step (ltb (length plan.boots) most_boots) TooLarge _ next (lt-ltb (length plan.boots) most_boots h.few)
    (ap (λ p. Ok p) h.next_is))

-- the boot whose flips and cuts may stand here
pub record OpenBoot (plan : PlanLines) (boot : BootLines) : Type 0 where
  pub last : last_of plan.boots ≡ Some boot
  pub idle : boot.sessions ≡ []

pub open_boot_found : (plan : PlanLines) (boot : BootLines) → open_boot plan ≡ Ok boot → OpenBoot plan boot
unfolding open_boot
open_boot_found plan boot e =
    let one = found (last_of plan.boots) WrongPlace _ boot e in
    let two = rule_kept (is_empty one.value.sessions) WrongPlace _ boot one.further in
    let same : one.value ≡ boot = ok_same one.value boot two.1 in
    record {
      last = one.is ∙ ap Some same;
      idle = subst (λ (b : BootLines). b.sessions ≡ []) same (empty_is one.value.sessions two.0);
    }

-- a flip
pub record FlipKept (plan next : PlanLines) (words : List (List ℕ)) : Type 0 where
  pub boot : BootLines
  pub opened : open_boot plan ≡ Ok boot
  pub controller : ℕ
  pub flip : Turned
  pub names_fit : (controller < 2 ^ 64) × (flip.chip < 2 ^ 64)
  pub page_small : IsSmall flip.page
  pub before_some : 1 ≤ flip.before
  pub before_small : IsSmall flip.before
  pub bits_small : All IsSmall flip.bits
  pub some : 0 < length flip.bits
  pub short : length flip.bits + 3 ≡ length words
  pub chip : ChipLines
  pub named : chip_at plan (controller, flip.chip) ≡ Some chip
  pub within : has_bits chip flip.page flip.bits ≡ true
  pub few : all_flips plan < most_flips
  pub next_is : with_fault (Flip controller flip) plan ≡ next

flip_form_kept : (plan next : PlanLines) (boot : BootLines) (words : List (List ℕ)) → open_boot plan ≡ Ok boot →
    flip_form plan words ≡ Ok next → FlipKept plan next words
unfolding flip_form flip_words
flip_form_kept plan next boot [] opened e = absurd (cc e)
flip_form_kept plan next boot (a ∷ []) opened e = absurd (cc e)
flip_form_kept plan next boot (a ∷ b ∷ []) opened e = absurd (cc e)
flip_form_kept plan next boot (a ∷ b ∷ c ∷ []) opened e = absurd (cc e)
flip_form_kept plan next boot (name ∷ page ∷ before ∷ bit ∷ bits) opened e =
    let one = found (chip_numbers name) BadWords _ next e in
    let two = kept (small_number page) _ next one.further in
    let three = kept (positive_number before) _ next two.further in
    let four = kept (small_numbers (bit ∷ bits)) _ next three.further in
    let five = found (chip_at plan one.value) OutOfChip _ next four.further in
    let six = rule_kept (has_bits five.value two.value four.value) OutOfChip _ next five.further in
    let seven = rule_kept (ltb (all_flips plan) most_flips) TooLarge _ next six.1 in
    let flip : Turned = record { chip = one.value.1; page = two.value; before = three.value; bits = four.value } in
    let event = positive_fits before three.value three.is in
    let read = small_numbers_fit (bit ∷ bits) four.value four.is in
    record {
      boot = boot;
      opened = opened;
      controller = one.value.0;
      flip = flip;
      names_fit = chip_fits name one.value one.is;
      page_small = small_fits page two.value two.is;
      before_some = event.0;
      before_small = event.1;
      bits_small = read.small;
      some = omega (arith, read.as_many);
      short = omega (arith, read.as_many);
      chip = five.value;
      named = five.is;
      within = six.0;
      few = ltb-true (all_flips plan) most_flips seven.0;
      next_is = ok_same (with_fault (Flip one.value.0 flip) plan) next seven.1;
    }

pub flip_kept : (plan next : PlanLines) (words : List (List ℕ)) → flip_line plan words ≡ Ok next → FlipKept plan next words
unfolding flip_line
flip_kept plan next words e =
    let one = kept (open_boot plan) _ next e in
    flip_form_kept plan next one.value words one.is one.further

abbrev pub flip_texts : ℕ → Turned → List (List ℕ)
flip_texts controller flip = chip_name controller flip.chip ∷ decimals (flip.page ∷ flip.before ∷ flip.bits)

flip_form_again : (plan next : PlanLines) (words : List (List ℕ)) (h : FlipKept plan next words) (bit : ℕ) (bits : List ℕ) →
    h.flip.bits ≡ bit ∷ bits →
    flip_form plan (chip_name h.controller h.flip.chip ∷ decimal h.flip.page ∷ decimal h.flip.before ∷ decimal bit ∷ decimals bits) ≡ Ok next
unfolding flip_form flip_words
flip_form_again plan next words h bit bits is =
    let name : List ℕ = chip_name h.controller h.flip.chip in
    let same = small_numbers_again h.flip.bits h.bits_small in
    there_step (chip_numbers name) BadWords _ (h.controller, h.flip.chip) next
    (chip_again h.controller h.flip.chip h.names_fit.0 h.names_fit.1)
    (step (small_number (decimal h.flip.page)) _ h.flip.page next (small_again h.flip.page h.page_small)
    (step (positive_number (decimal h.flip.before)) _ h.flip.before next
    (positive_again h.flip.before h.before_some h.before_small)
    (step (small_numbers (decimal bit ∷ decimals bits)) _ h.flip.bits next
    (ap (λ ns. small_numbers (decimals ns)) (sym is) ∙ same)
    (there_step (chip_at plan (h.controller, h.flip.chip)) OutOfChip _ h.chip next h.named
    (rule_step (has_bits h.chip h.flip.page h.flip.bits) OutOfChip _ next h.within
    (rule_step (ltb (all_flips plan) most_flips) TooLarge _ next (lt-ltb (all_flips plan) most_flips h.few)
    (ap (λ p. Ok p) h.next_is)))))))

flip_by : (plan next : PlanLines) (words : List (List ℕ)) (h : FlipKept plan next words) (ns : List ℕ) → h.flip.bits ≡ ns →
    flip_form plan (flip_texts h.controller h.flip) ≡ Ok next
flip_by plan next words h [] is = absurd (let none = ap length is in let some = h.some in omega (arith, none, some))
flip_by plan next words h (bit ∷ bits) is =
    ap (λ ns. flip_form plan (chip_name h.controller h.flip.chip ∷ decimal h.flip.page ∷ decimal h.flip.before ∷ decimals ns)) is
    ∙ flip_form_again plan next words h bit bits is

pub flip_again : (plan next : PlanLines) (words : List (List ℕ)) (h : FlipKept plan next words) →
    flip_line plan (flip_texts h.controller h.flip) ≡ Ok next
unfolding flip_line
flip_again plan next words h =
    step (open_boot plan) _ h.boot next h.opened (flip_by plan next words h h.flip.bits refl)

-- a cut
pub record CutKept (plan next : PlanLines) : Type 0 where
  pub boot : BootLines
  pub opened : open_boot plan ≡ Ok boot
  pub controller : ℕ
  pub cut : CutAt
  pub fits : controller < 2 ^ 64
  pub fresh : list_any (cuts_controller (Some controller)) boot.faults ≡ false
  pub event_some : 1 ≤ cut.event
  pub event_small : IsSmall cut.event
  pub tear_is : IsTear cut.tear
  pub there : controller < length plan.controllers
  pub next_is : with_fault (Cut controller cut) plan ≡ next

number_there : (w : List ℕ) (n : ℕ) → number w ≡ Ok n → number_of w ≡ Some n
unfolding number
number_there w n e = there_kept (number_of w) BadNumber n e

pub cut_kept : (plan next : PlanLines) (words : List (List ℕ)) → cut_line plan words ≡ Ok next → CutKept plan next
unfolding cut_line cut_form cut_words
cut_kept plan next words e =
    let one = kept (open_boot plan) _ next e in
    let two = kept (three_words words) _ next one.further in
    let three = rule_kept (not (list_any (cuts_controller (number_of two.value.0)) one.value.faults)) BadWords _ next two.further in
    let four = kept (number two.value.0) _ next three.1 in
    let five = kept (positive_number two.value.1) _ next four.further in
    let six = kept (tear two.value.2) _ next five.further in
    let seven = rule_kept (ltb four.value (length plan.controllers)) OutOfChip _ next six.further in
    let cut : CutAt = record { event = five.value; tear = six.value } in
    let event = positive_fits two.value.1 five.value five.is in
    record {
      boot = one.value;
      opened = one.is;
      controller = four.value;
      cut = cut;
      fits = number_fits two.value.0 four.value four.is;
      fresh = ap (λ o. list_any (cuts_controller o) one.value.faults) (sym (number_there two.value.0 four.value four.is))
          ∙ not-true (list_any (cuts_controller (number_of two.value.0)) one.value.faults) three.0;
      event_some = event.0;
      event_small = event.1;
      tear_is = tear_kept two.value.2 six.value six.is;
      there = ltb-true four.value (length plan.controllers) seven.0;
      next_is = ok_same (with_fault (Cut four.value cut) plan) next seven.1;
    }

abbrev pub cut_texts : ℕ → CutAt → List (List ℕ)
cut_texts controller cut = decimal controller ∷ decimal cut.event ∷ tear_text cut.tear ∷ []

pub cut_again : (plan next : PlanLines) (h : CutKept plan next) → cut_line plan (cut_texts h.controller h.cut) ≡ Ok next
unfolding cut_line cut_form cut_words three_words
cut_again plan next h =
    step (open_boot plan) _ h.boot next h.opened
    (rule_step (not (list_any (cuts_controller (number_of (decimal h.controller))) h.boot.faults)) BadWords _ next
    (ap (λ o. not (list_any (cuts_controller o) h.boot.faults)) (number_of_decimal h.controller h.fits) ∙ ap not h.fresh)
    (step (number (decimal h.controller)) _ h.controller next (number_again h.controller h.fits)
    (step (positive_number (decimal h.cut.event)) _ h.cut.event next
    (positive_again h.cut.event h.event_some h.event_small)
    (step (tear (tear_text h.cut.tear)) _ h.cut.tear next (tear_again h.cut.tear h.tear_is)
    (rule_step (ltb h.controller (length plan.controllers)) OutOfChip _ next
    (lt-ltb h.controller (length plan.controllers) h.there) (ap (λ p. Ok p) h.next_is))))))

-- the boot to which sessions, commands and a schedule may be added
pub record RunningBoot (plan : PlanLines) (boot : BootLines) : Type 0 where
  pub last : last_of plan.boots ≡ Some boot
  pub free : boot.schedule ≡ []

pub running_found : (plan : PlanLines) (boot : BootLines) → running_boot plan ≡ Ok boot → RunningBoot plan boot
unfolding running_boot
running_found plan boot e =
    let one = found (last_of plan.boots) WrongPlace _ boot e in
    let two = rule_kept (is_empty one.value.schedule) WrongPlace _ boot one.further in
    let same : one.value ≡ boot = ok_same one.value boot two.1 in
    record {
      last = one.is ∙ ap Some same;
      free = subst (λ (b : BootLines). b.schedule ≡ []) same (empty_is one.value.schedule two.0);
    }

-- a session
pub record SessionKept (plan next : PlanLines) : Type 0 where
  pub boot : BootLines
  pub running : running_boot plan ≡ Ok boot
  pub controller : ℕ
  pub fits : controller < 2 ^ 64
  pub there : controller < length plan.controllers
  pub few : length boot.sessions < most_sessions
  pub next_is : with_session (record { controller = controller; commands = [] }) plan ≡ next

pub session_kept : (plan next : PlanLines) (words : List (List ℕ)) → session_line plan words ≡ Ok next → SessionKept plan next
unfolding session_line session_form
session_kept plan next words e =
    let one = kept (running_boot plan) _ next e in
    let two = kept (one_word words) _ next one.further in
    let three = kept (number two.value) _ next two.further in
    let four = rule_kept (ltb three.value (length plan.controllers)) OutOfChip _ next three.further in
    let five = rule_kept (ltb (length one.value.sessions) most_sessions) TooLarge _ next four.1 in
    record {
      boot = one.value;
      running = one.is;
      controller = three.value;
      fits = number_fits two.value three.value three.is;
      there = ltb-true three.value (length plan.controllers) four.0;
      few = ltb-true (length one.value.sessions) most_sessions five.0;
      next_is = ok_same (with_session (record { controller = three.value; commands = [] }) plan) next five.1;
    }

pub session_again : (plan next : PlanLines) (h : SessionKept plan next) → session_line plan (decimal h.controller ∷ []) ≡ Ok next
unfolding session_line session_form one_word
session_again plan next h =
    step (running_boot plan) _ h.boot next h.running
    (step (number (decimal h.controller)) _ h.controller next (number_again h.controller h.fits)
    (rule_step (ltb h.controller (length plan.controllers)) OutOfChip _ next
    (lt-ltb h.controller (length plan.controllers) h.there)
    (rule_step (ltb (length h.boot.sessions) most_sessions) TooLarge _ next
    (lt-ltb (length h.boot.sessions) most_sessions h.few) (ap (λ p. Ok p) h.next_is))))

-- a schedule
pub record ScheduleKept (plan next : PlanLines) : Type 0 where
  pub boot : BootLines
  pub running : running_boot plan ≡ Ok boot
  pub sessions : List ℕ
  pub some : 0 < length sessions
  pub fit : All IsNumber sessions
  pub there : list_all (λ s. ltb s (length boot.sessions)) sessions ≡ true
  pub next_is : with_last_boot (λ (last : BootLines). record last { schedule = sessions }) plan ≡ next

pub schedule_kept : (plan next : PlanLines) (words : List (List ℕ)) → schedule_line plan words ≡ Ok next → ScheduleKept plan next
unfolding schedule_line
schedule_kept plan next words e =
    let one = kept (running_boot plan) _ next e in
    let two = rule_kept (not (is_empty words)) BadWords _ next one.further in
    let three = kept (numbers words) _ next two.1 in
    let four = rule_kept (list_all (λ s. ltb s (length one.value.sessions)) three.value) OutOfChip _ next three.further in
    let read = numbers_fit words three.value three.is in
    record {
      boot = one.value;
      running = one.is;
      sessions = three.value;
      some = omega (arith, read.1, some_items words two.0);
      fit = read.0;
      there = four.0;
      next_is = ok_same (with_last_boot (λ (last : BootLines). record last { schedule = three.value }) plan) next four.1;
    }

pub schedule_again : (plan next : PlanLines) (h : ScheduleKept plan next) → schedule_line plan (decimals h.sessions) ≡ Ok next
unfolding schedule_line
schedule_again plan next h =
    step (running_boot plan) _ h.boot next h.running
    (rule_step (not (is_empty (decimals h.sessions))) BadWords _ next (some_decimals h.sessions h.some)
    (step (numbers (decimals h.sessions)) _ h.sessions next (numbers_again h.sessions h.fit)
    (rule_step (list_all (λ s. ltb s (length h.boot.sessions)) h.sessions) OutOfChip _ next h.there
    (ap (λ p. Ok p) h.next_is))))
