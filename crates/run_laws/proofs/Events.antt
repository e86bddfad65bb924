-- A page event of a chip keeps the invariant.
use Rattle.std.proofs.Common.{◌≡◌, inl, inr, ℕ, zero, suc, ◌+◌, ◌<◌, Bool, true, false, ◌&&◌, List, [], ◌∷◌, ◌++◌, length, Option, Some, None, refl, ap, sym, ◌∙◌, subst, subst₂, append_assoc, append-nil, arith}
use Rattle.std.specs.Prelude.{slice_get}
use Rattle.std.proofs.lemmas.Option.{none-some, same_Some, slice_get_within}
use Rattle.std.proofs.lemmas.List.{length_push}
use Rattle.nand_model.specs.declared.geometry.Geometry.{Geometry}
use Rattle.nand_model.specs.declared.tear.Tear.{Tear}
use Rattle.nand_model.specs.declared.words.Note.{Note}
use Rattle.nand_model.specs.declared.words.Note.TheVariants.{Torn}
use Rattle.nand_model.specs.Sizes.{raw_len}
use Rattle.nand_model.specs.Chip.{ChipState, FaultModel, ChipEvent, Complete, PowerCut, PageEvent, DoneBits, happens, done_bits}
use Rattle.nand_model.specs.Path.{Answer, Path, Over, Then, is_failure, answer_to, after_answers, next_event, result_of}
use Rattle.chip_paths.specs.Attach.{Attaching, attach_path}
use Rattle.nand_model.specs.Partitions.{Partitions}
use Rattle.chip_paths.specs.Operation.{Known}
use Rattle.nand_model.specs.Quiet.{is_quiet, fairness_of}
use Rattle.chip_paths.specs.ChipRun.{ChipRun, name_of, Pending, next_event_by, next_chip_event, pending_after, known_once_over, attach_notes_of, answered_by, torn_by, attach_notes_by, advanced, torn_at}
use Rattle.command_model.specs.Boot.{Boot, change_at}
use Rattle.run_model.specs.Course.{Course, with_flips_before, event_done, event_on, sizes_of}
use Rattle.nand_model.specs.Cuts.{tear_at}
use Rattle.command_model.specs.Session.{SessionRun, exchanges_of}
use Rattle.run_model.specs.History.{LastChips, AreOfChips, notes_of_chip, notes_of_event, events_in}
use Rattle.run_model.specs.Log.{Log, due_events, torn_by_cut, befalls}
use Rattle.run_laws.proofs.Traces.{geometry_after, geometry_happens}
use Rattle.run_laws.proofs.ChipNotes.{of_chips-append, lasts, lasts-append, AreOf, nothing_is_of, torn_are_of, torn_last, torn_exchanges, one_is_of, both_are_of, exchanges-append}
use Rattle.run_laws.proofs.Life.{IsAttaching, IsPerforming, ChipLaw, ChipLawAt, ChipEnd}
use Rattle.run_laws.proofs.ChipSteps.{attach_more, attach_ends, attach_cut, performs_on, operation_cut}
use Rattle.run_laws.proofs.Sessions.{nowhere, SessionLaw, session_stays}
use Rattle.run_laws.proofs.Logs.{befalls-more, own_here, own_elsewhere}
use Rattle.run_laws.proofs.Courses.{place_start, asked_by, asked_at, rest_of, same_next, ChipsHold, SessionsHold, LawOf, EndOf, by_log, with_due, IsLog, IsLive, Holds, live_ends, place_update, due_hold, due_rest, due_asked, same_asked}

-- the note of an attach is of its chip and of no session
attach_note_is_of : (partitions : Partitions) (last : LastChips) (k : ℕ) (quiet : Bool) (path : Path Attaching) → AreOf partitions last k (attach_notes_of k quiet path)
attach_note_is_of partitions last k quiet (Over attaching) = one_is_of partitions last k _ refl
attach_note_is_of partitions last k quiet (Then event more) = nothing_is_of partitions last k

attach_note_last : (partitions : Partitions) (last : LastChips) (k : ℕ) (quiet : Bool) (path : Path Attaching) → lasts partitions last (attach_notes_of k quiet path) ≡ last
attach_note_last partitions last k quiet (Over attaching) = refl
attach_note_last partitions last k quiet (Then event more) = refl

attach_note_exchanges : (session k : ℕ) (quiet : Bool) (path : Path Attaching) → exchanges_of session (attach_notes_of k quiet path) ≡ []
attach_note_exchanges session k quiet (Over attaching) = refl
attach_note_exchanges session k quiet (Then event more) = refl

attach_notes_are_of : {W : Type 0} (partitions : Partitions) (last : LastChips) (k : ℕ) (c : ChipRun W) (before : Option Known) → AreOf partitions last k (attach_notes_by k c before)
attach_notes_are_of partitions last k c None = attach_note_is_of partitions last k c.quiet (after_answers c.attach_answers (attach_path c.chip.geometry))
attach_notes_are_of partitions last k c (Some before) = nothing_is_of partitions last k

attach_notes_last : {W : Type 0} (partitions : Partitions) (last : LastChips) (k : ℕ) (c : ChipRun W) (before : Option Known) → lasts partitions last (attach_notes_by k c before) ≡ last
attach_notes_last partitions last k c None = attach_note_last partitions last k c.quiet (after_answers c.attach_answers (attach_path c.chip.geometry))
attach_notes_last partitions last k c (Some before) = refl

attach_notes_exchanges : {W : Type 0} (session k : ℕ) (c : ChipRun W) (before : Option Known) → exchanges_of session (attach_notes_by k c before) ≡ []
attach_notes_exchanges session k c None = attach_note_exchanges session k c.quiet (after_answers c.attach_answers (attach_path c.chip.geometry))
attach_notes_exchanges session k c (Some before) = refl

-- what befell whom, by a log with one more event
module _ (boot : Boot) where
  after_own : (k raw : ℕ) (log : Log) (e : PageEvent) → befalls boot k raw 1 (log ++ (k, e) ∷ []) ≡ befalls boot k raw 1 log ++ due_events boot k (1 + length log) ++ (1 + length log, torn_by_cut raw e (tear_at boot.cut (1 + length log))) ∷ []
  after_own k raw log e = befalls-more boot k raw 1 log (k, e) ∙ ap (λ zs. befalls boot k raw 1 log ++ due_events boot k (1 + length log) ++ zs) (own_here boot k raw (1 + length log) e)

  after_other : (j k raw : ℕ) (log : Log) (e : PageEvent) → (k ≡ j → ⊥) → befalls boot j raw 1 (log ++ (k, e) ∷ []) ≡ befalls boot j raw 1 log ++ due_events boot j (1 + length log)
  after_other j k raw log e d = befalls-more boot j raw 1 log (k, e) ∙ ap (λ zs. befalls boot j raw 1 log ++ due_events boot j (1 + length log) ++ zs) (own_elsewhere boot j k raw (1 + length log) e d) ∙ append-nil _

module _ {W : Type 0} (model : FaultModel W) (partitions : Partitions) where
  -- one more event of a chip in good order
  advance_law : (k n : ℕ) (s : ChipState W) (c : ChipRun W) (e : PageEvent) (notes : List Note) (whole : List (ℕ × ChipEvent)) (known : Option Known) (pending : Option Pending)
      → c.known ≡ known → c.pending ≡ pending → ChipLawAt model partitions k s c notes whole known pending → next_event_by partitions c.chip c.attach_answers known pending ≡ Some e
      → ChipLaw model partitions k s (answered_by c (happens model c.chip (Complete e)) (answer_to model c.chip e) known)
      (notes ++ notes_of_event model k n c.chip (Complete e)
      ++ attach_notes_by k (answered_by c (happens model c.chip (Complete e)) (answer_to model c.chip e) known) known)
      (whole ++ (n, Complete e) ∷ [])
  advance_law k n s c e notes whole None pending x y a h =
      subst (λ zs. ChipLaw model partitions k s (now_with (known_once_over (after_answers answers (attach_path c.chip.geometry)))) (notes ++ notes_of_event model k n c.chip (Complete e) ++ zs) (whole ++ (n, Complete e) ∷ []))
      (sym (ap (λ g. attach_notes_of k quiet (after_answers answers (attach_path g))) (geometry_happens model c.chip (Complete e))))
      (by_path (after_answers answers (attach_path c.chip.geometry)) refl)
    where
      answers : List Answer
      answers = c.attach_answers ++ answer_to model c.chip e ∷ []

      quiet : Bool
      quiet = c.quiet && is_quiet c.chip.geometry c.chip.pages

      q : c.chip.geometry ≡ s.geometry
      q = ap (λ (t : ChipState W). t.geometry) a.goes.now_is ∙ geometry_after model s (events_in whole)

      now_with : Option Known → ChipRun W
      now_with o = record { chip = happens model c.chip (Complete e); attach_answers = answers; quiet = quiet; known = o; pending = None }

      next : next_event (attach_path s.geometry) c.attach_answers ≡ Some e
      next = subst (λ z. next_event (attach_path z) c.attach_answers ≡ Some e) q h

      result : (path : Path Attaching) → after_answers answers (attach_path c.chip.geometry) ≡ path → result_of (after_answers answers (attach_path s.geometry)) ≡ result_of path
      result path g = ap (λ z. result_of (after_answers answers (attach_path z))) (sym q) ∙ ap result_of g

      by_path : (path : Path Attaching) → after_answers answers (attach_path c.chip.geometry) ≡ path
          → ChipLaw model partitions k s (now_with (known_once_over path)) (notes ++ notes_of_event model k n c.chip (Complete e) ++ attach_notes_of k quiet path) (whole ++ (n, Complete e) ∷ [])
      by_path (Then event more) g = subst (λ zs. IsAttaching model partitions k s (now_with None) zs (whole ++ (n, Complete e) ∷ [])) (sym (append-nil _))
          (attach_more model partitions k s c notes whole n e (now_with None) a next (result (Then event more) g) refl refl refl refl)
      by_path (Over attaching) g = record {
        rested = happens model c.chip (Complete e);
        flips = [];
        answered = whole ++ (n, Complete e) ∷ [];
        past = attach_ends model partitions k s c notes whole n e attaching a next (result (Over attaching) g);
        now_is = refl;
        whole_is = sym (append-nil _);
      }
  advance_law k n s c e notes whole (Some known) None x y a h = absurd (none-some e h)
  advance_law k n s c e notes whole (Some known) (Some pending) x y a h =
      subst₂ (λ o f. ChipLawAt model partitions k s (record c { chip = happens model c.chip (Complete e); pending = pending_after f (answer_to model c.chip e) }) (notes ++ notes_of_event model k n c.chip (Complete e) ++ []) (whole ++ (n, Complete e) ∷ []) o (pending_after f (answer_to model c.chip e)))
      (sym x) (sym y)
      (subst (λ zs. IsPerforming model partitions k s (record c { chip = happens model c.chip (Complete e); pending = Some (record pending { answers = pending.answers ++ answer_to model c.chip e ∷ [] }) }) known (record pending { answers = pending.answers ++ answer_to model c.chip e ∷ [] }) zs (whole ++ (n, Complete e) ∷ []))
      (sym (append-nil _)) (performs_on model partitions k s c known pending notes whole n e a h))

  -- a cut event of a chip in good order
  cut_law : (k n : ℕ) (s : ChipState W) (c : ChipRun W) (e : PageEvent) (done : DoneBits) (notes : List Note) (whole : List (ℕ × ChipEvent)) (known : Option Known) (pending : Option Pending)
      → ChipLawAt model partitions k s c notes whole known pending → next_event_by partitions c.chip c.attach_answers known pending ≡ Some e
      → ChipEnd model partitions k s (torn_by c (happens model c.chip (PowerCut e done)) known).chip (torn_by c (happens model c.chip (PowerCut e done)) known).quiet (notes ++ notes_of_event model k n c.chip (PowerCut e done)) (whole ++ (n, PowerCut e done) ∷ [])
  cut_law k n s c e done notes whole None pending a h =
      attach_cut model partitions k s c notes whole n e done a (subst (λ z. next_event (attach_path z) c.attach_answers ≡ Some e) (ap (λ (t : ChipState W). t.geometry) a.goes.now_is ∙ geometry_after model s (events_in whole)) h)
  cut_law k n s c e done notes whole (Some known) None a h = absurd (none-some e h)
  cut_law k n s c e done notes whole (Some known) (Some pending) a h = operation_cut model partitions k s c known pending notes whole n e done a h

  -- which operation is pending stays so
  advance_asked : (k : ℕ) (s : ChipState W) (c : ChipRun W) (after : ChipState W) (answer : Answer) (notes : List Note) (whole : List (ℕ × ChipEvent)) (known : Option Known) (pending : Option Pending)
      → c.pending ≡ pending → ChipLawAt model partitions k s c notes whole known pending → asked_by (answered_by c after answer known).pending ≡ asked_by c.pending
  advance_asked k s c after answer notes whole None pending y a = sym (ap asked_by a.idle)
  advance_asked k s c after answer notes whole (Some known) None y a = ap (λ f. asked_by (pending_after f answer)) y ∙ sym (ap asked_by y)
  advance_asked k s c after answer notes whole (Some known) (Some pending) y a = ap (λ f. asked_by (pending_after f answer)) y ∙ sym (ap asked_by y)

  torn_pending : (c : ChipRun W) (after : ChipState W) (known : Option Known) → (torn_by c after known).pending ≡ c.pending
  torn_pending c after None = refl
  torn_pending c after (Some known) = refl

module _ {W : Type 0} (model : FaultModel W) (boot : Boot) (starts : List (ChipState W)) where
  -- notes of no session
  stay : (chips chips' : List (ChipRun W)) (sessions : List SessionRun) (notes new : List Note)
      → SessionsHold model boot starts chips sessions notes → asked_at chips' ≡ asked_at chips → ((n : ℕ) → exchanges_of n new ≡ []) → ((last : LastChips) → lasts boot.partitions last new ≡ last)
      → SessionsHold model boot starts chips' sessions (notes ++ new)
  stay chips chips' sessions notes new h e x l n = subst (λ z. SessionLaw boot.partitions (sizes_of boot starts) boot.sessions n z sessions (notes ++ new)) (sym e)
      (session_stays boot.partitions (sizes_of boot starts) boot.sessions n (asked_at chips) sessions notes new (h n) (x n) l)

  log_on_chips : (log : Log) (k : ℕ) (e : PageEvent) → k < length starts → ((n : ℕ) (x : ℕ × PageEvent) → slice_get log n ≡ Some x → x.0 < length starts)
      → (n : ℕ) (x : ℕ × PageEvent) → slice_get (log ++ (k, e) ∷ []) n ≡ Some x → x.0 < length starts
  log_on_chips [] k e l h zero x g = subst (λ (y : ℕ × PageEvent). y.0 < length starts) (same_Some _ _ g) l
  log_on_chips [] k e l h (suc n) x g = absurd (none-some x g)
  log_on_chips (y ∷ log) k e l h zero x g = h zero x g
  log_on_chips (y ∷ log) k e l h (suc n) x g = log_on_chips log k e l (λ m. h (suc m)) n x g

  number_is : (course : Course W) (log : Log) → IsLog model boot starts course log → 1 + length log ≡ course.events + 1
  number_is course log is_log = let e : course.events ≡ length log = is_log.counted in omega arith

  own_whole : (course : Course W) (log : Log) (k : ℕ) (e : PageEvent) → IsLog model boot starts course log → (s : ChipState W) (o : Option Tear) → tear_at boot.cut (course.events + 1) ≡ o
      → by_log model boot starts (log ++ (k, e) ∷ []) k s ≡ with_due model boot starts (course.events + 1) (by_log model boot starts log) k s ++ (course.events + 1, torn_by_cut (raw_len s.geometry) e o) ∷ []
  own_whole course log k e is_log s o t = after_own boot k (raw_len s.geometry) log e
      ∙ ap (λ m. befalls boot k (raw_len s.geometry) 1 log ++ due_events boot k m ++ (m, torn_by_cut (raw_len s.geometry) e (tear_at boot.cut m)) ∷ []) (number_is course log is_log)
      ∙ ap (λ z. befalls boot k (raw_len s.geometry) 1 log ++ due_events boot k (course.events + 1) ++ (course.events + 1, torn_by_cut (raw_len s.geometry) e z) ∷ []) t

  other_whole : (course : Course W) (log : Log) (k j : ℕ) (e : PageEvent) → IsLog model boot starts course log → (k ≡ j → ⊥) → (s : ChipState W)
      → by_log model boot starts (log ++ (k, e) ∷ []) j s ≡ with_due model boot starts (course.events + 1) (by_log model boot starts log) j s
  other_whole course log k j e is_log d s = after_other boot j k (raw_len s.geometry) log e d
      ∙ ap (λ m. befalls boot j (raw_len s.geometry) 1 log ++ due_events boot j m) (number_is course log is_log)

  -- a chip of the course is one of the start
  pub chip_is_there : (P : ℕ → ChipState W → ChipRun W → List Note → Type 0) (chips : List (ChipRun W)) (notes : List Note) (k : ℕ) (c : ChipRun W)
      → ChipsHold model boot starts P chips notes → slice_get chips k ≡ Some c → k < length starts
  chip_is_there P chips notes k c hold at =
      let p = place_start (P k) (notes_of_chip boot.partitions k notes) (slice_get starts k) (slice_get chips k) c at (hold k) in slice_get_within starts k p.0 p.1

  more_log : (course : Course W) (log : Log) (k : ℕ) (e : PageEvent) → IsLog model boot starts course log → k < length starts
      → (course.events + 1 ≡ length (log ++ (k, e) ∷ [])) × ((n : ℕ) (x : ℕ × PageEvent) → slice_get (log ++ (k, e) ∷ []) n ≡ Some x → x.0 < length starts)
  more_log course log k e is_log within = (sym (length_push log (k, e) ∙ ap (λ m. m + 1) (sym is_log.counted)), log_on_chips log k e within is_log.on_chips)

  -- an event of chip k, after the flips
  done_holds : (course : Course W) (log : Log) (chips : List (ChipRun W)) (k : ℕ) (c : ChipRun W) (e : PageEvent)
      → IsLog model boot starts course log
      → ChipsHold model boot starts (LawOf model boot starts (with_due model boot starts (course.events + 1) (by_log model boot starts log))) chips course.notes
      → SessionsHold model boot starts chips course.sessions course.notes
      → AreOfChips boot.partitions (length starts) nowhere course.notes
      → slice_get chips k ≡ Some c → next_chip_event boot.partitions c ≡ Some e
      → (tear : Option Tear) → tear_at boot.cut (course.events + 1) ≡ tear
      → Holds model boot starts (event_done model boot course chips k (course.events + 1) c e tear)
  done_holds course log chips k c e is_log hold sess there at next None t = inl (record {
    lit = refl;
    log = log ++ (k, e) ∷ [];
    is_log = let m = more_log course log k e is_log within in record { counted = m.0; on_chips = m.1 };
    chips = subst (λ zs. ChipsHold model boot starts (LawOf model boot starts (by_log model boot starts (log ++ (k, e) ∷ []))) (change_at chips k change) zs) (sym (append_assoc course.notes new note))
        (place_update model boot starts (LawOf model boot starts (with_due model boot starts n (by_log model boot starts log))) (LawOf model boot starts (by_log model boot starts (log ++ (k, e) ∷ []))) k chips course.notes (new ++ note) change hold
        of_chip
        law (λ j d s x a. subst (λ zs. ChipLaw model boot.partitions j s x (notes_of_chip boot.partitions j course.notes) zs) (sym (other_whole course log k j e is_log d s)) a));
    sessions = subst (λ zs. SessionsHold model boot starts (change_at chips k change) course.sessions zs) (sym (append_assoc course.notes new note))
        (stay chips (change_at chips k change) course.sessions course.notes (new ++ note) sess
        (same_asked model boot starts chips k change (λ d x. asked_same ∙ ap (λ (z : ChipRun W). asked_by z.pending) (same_Some c d (sym at ∙ x))))
        (λ m. exchanges-append m new note ∙ ap (λ zs. zs ++ exchanges_of m note) (torn_exchanges m _ k n false c.chip e _) ∙ attach_notes_exchanges m k now c.known)
        (λ last. lasts-append boot.partitions last new note ∙ ap (λ z. lasts boot.partitions z note) (torn_last boot.partitions last _ k n false c.chip e _) ∙ attach_notes_last boot.partitions last k now c.known));
    of_chips = subst (AreOfChips boot.partitions (length starts) nowhere) (sym (append_assoc course.notes new note))
        (of_chips-append boot.partitions (length starts) nowhere course.notes (new ++ note) there (of_chip.there (length starts) within));
  })
    where
      n : ℕ
      n = course.events + 1

      within : k < length starts
      within = chip_is_there (LawOf model boot starts (with_due model boot starts (course.events + 1) (by_log model boot starts log))) chips course.notes k c hold at

      now : ChipRun W
      now = advanced model c e

      new : List Note
      new = notes_of_event model k n c.chip (Complete e)

      note : List Note
      note = attach_notes_by k now c.known

      before : List Note
      before = notes_of_chip boot.partitions k course.notes

      change : ChipRun W → ChipRun W
      change old = now

      failed : Bool
      failed = is_failure (answer_to model c.chip e)

      lasted : LastChips
      lasted = lasts boot.partitions nowhere course.notes

      of_chip : AreOf boot.partitions lasted k (new ++ note)
      of_chip = both_are_of boot.partitions lasted k new note (torn_are_of boot.partitions lasted failed k n false c.chip e (happens model c.chip (Complete e)))
          (torn_last boot.partitions lasted failed k n false c.chip e (happens model c.chip (Complete e))) (attach_notes_are_of boot.partitions lasted k now c.known)

      law : (s : ChipState W) (d : ChipRun W) → slice_get starts k ≡ Some s → slice_get chips k ≡ Some d → ChipLaw model boot.partitions k s d before (with_due model boot starts n (by_log model boot starts log) k s)
          → ChipLaw model boot.partitions k s now (before ++ (new ++ note)) (by_log model boot starts (log ++ (k, e) ∷ []) k s)
      law s d w x l = subst₂ (λ ns zs. ChipLaw model boot.partitions k s now ns zs) (append_assoc before new note) (sym (own_whole course log k e is_log s None t))
          (advance_law model boot.partitions k n s c e before (with_due model boot starts n (by_log model boot starts log) k s) c.known c.pending refl refl
          (subst (λ z. ChipLaw model boot.partitions k s z before (with_due model boot starts n (by_log model boot starts log) k s)) (same_Some d c (sym x ∙ at)) l) next)

      asked_same : asked_by now.pending ≡ asked_by c.pending
      asked_same =
          let p = place_start (LawOf model boot starts (with_due model boot starts n (by_log model boot starts log)) k) before (slice_get starts k) (slice_get chips k) c at (hold k) in
          advance_asked model boot.partitions k p.0 c (happens model c.chip (Complete e)) (answer_to model c.chip e) before (with_due model boot starts n (by_log model boot starts log) k p.0) c.known c.pending refl p.2
  done_holds course log chips k c e is_log hold sess there at next (Some tear) t = inr (record {
    dark = refl;
    log = log ++ (k, e) ∷ [];
    is_log = let m = more_log course log k e is_log within in record { counted = m.0; on_chips = m.1 };
    chips = place_update model boot starts (EndOf model boot starts (with_due model boot starts n (by_log model boot starts log))) (EndOf model boot starts (by_log model boot starts (log ++ (k, e) ∷ []))) k chips course.notes new change
        (live_ends model boot starts (with_due model boot starts n (by_log model boot starts log)) chips course.notes hold) of_chip
        law (λ j d s x a. subst (λ zs. ChipEnd model boot.partitions j s x.chip x.quiet (notes_of_chip boot.partitions j course.notes) zs) (sym (other_whole course log k j e is_log d s)) a);
    sessions = stay chips (change_at chips k change) course.sessions course.notes new sess
        (same_asked model boot starts chips k change (λ d x. ap asked_by (torn_pending model boot.partitions c (happens model c.chip (PowerCut e done)) c.known) ∙ ap (λ (z : ChipRun W). asked_by z.pending) (same_Some c d (sym at ∙ x))))
        (λ m. refl) (λ last. refl);
    of_chips = of_chips-append boot.partitions (length starts) nowhere course.notes new there (of_chip.there (length starts) within);
  })
    where
      n : ℕ
      n = course.events + 1

      within : k < length starts
      within = chip_is_there (LawOf model boot starts (with_due model boot starts (course.events + 1) (by_log model boot starts log))) chips course.notes k c hold at

      done : DoneBits
      done = done_bits (raw_len c.chip.geometry) tear

      new : List Note
      new = notes_of_event model k n c.chip (PowerCut e done)

      before : List Note
      before = notes_of_chip boot.partitions k course.notes

      change : ChipRun W → ChipRun W
      change old = torn_at model c e done

      of_chip : AreOf boot.partitions (lasts boot.partitions nowhere course.notes) k new
      of_chip = one_is_of boot.partitions (lasts boot.partitions nowhere course.notes) k (Torn k n (name_of e) true (fairness_of c.chip.geometry c.chip.pages e (happens model c.chip (PowerCut e done)).pages)) refl

      law : (s : ChipState W) (d : ChipRun W) → slice_get starts k ≡ Some s → slice_get chips k ≡ Some d → ChipEnd model boot.partitions k s d.chip d.quiet before (with_due model boot starts n (by_log model boot starts log) k s)
          → ChipEnd model boot.partitions k s (torn_at model c e done).chip (torn_at model c e done).quiet (before ++ new) (by_log model boot starts (log ++ (k, e) ∷ []) k s)
      law s d w x l =
          let p = place_start (LawOf model boot starts (with_due model boot starts n (by_log model boot starts log)) k) before (slice_get starts k) (slice_get chips k) c at (hold k) in
          let a : ChipLaw model boot.partitions k s c before (with_due model boot starts n (by_log model boot starts log) k s) =
          subst (λ z. ChipLaw model boot.partitions k z c before (with_due model boot starts n (by_log model boot starts log) k z)) (same_Some p.0 s (sym p.1 ∙ w)) p.2 in
          let q : c.chip.geometry ≡ s.geometry =
          ap (λ (z : ChipState W). z.geometry) (ap (λ (z : ChipRun W). z.chip) (same_Some c d (sym at ∙ x)) ∙ l.now_is) ∙ geometry_after model s (events_in (with_due model boot starts n (by_log model boot starts log) k s)) in
          subst (λ zs. ChipEnd model boot.partitions k s (torn_at model c e done).chip (torn_at model c e done).quiet (before ++ new) zs)
          (sym (own_whole course log k e is_log s (Some tear) t ∙ ap (λ (g : Geometry). with_due model boot starts n (by_log model boot starts log) k s ++ (n, PowerCut e (done_bits (raw_len g) tear)) ∷ []) (sym q)))
          (cut_law model boot.partitions k n s c e done before (with_due model boot starts n (by_log model boot starts log) k s) c.known c.pending a next)

  pub event_holds : (course : Course W) (k : ℕ) (c : ChipRun W) (e : PageEvent) → IsLive model boot starts course → slice_get course.chips k ≡ Some c → next_chip_event boot.partitions c ≡ Some e
      → (o : Option (ChipRun W)) → slice_get (with_flips_before model boot (course.events + 1) course.chips) k ≡ o
      → Holds model boot starts (event_on model boot course (with_flips_before model boot (course.events + 1) course.chips) k o e)
  event_holds course k c e live at next None x = inl live
  event_holds course k c e live at next (Some now) x =
      done_holds course live.log (with_flips_before model boot (course.events + 1) course.chips) k now e live.is_log
      (due_hold model boot starts (course.events + 1) (by_log model boot starts live.log) course.chips course.notes live.chips)
      (λ n. subst (λ z. SessionLaw boot.partitions (sizes_of boot starts) boot.sessions n z course.sessions course.notes) (sym (due_asked model boot starts course.chips (course.events + 1))) (live.sessions n))
      live.of_chips x (same_next boot.partitions now c (same_Some _ _ (sym (ap rest_of x) ∙ due_rest model boot starts course.chips (course.events + 1) k ∙ ap rest_of at)) ∙ next)
      (tear_at boot.cut (course.events + 1)) refl
