-- The statistics of the devices of a course are the sums of what their answered reads counted.
use Rattle.std.proofs.Common.{◌≡◌, ◌⊎◌, inl, inr, ℕ, zero, suc, ◌+◌, Bool, true, false, List, [], ◌∷◌, ◌++◌, map, Option, Some, None, refl, ap, sym, ◌∙◌, subst, subst₂, arith}
use Rattle.std.specs.Prelude.{slice_get, option_map, sum_by, count_by, ◌==◌, if◌then◌else◌}
use Rattle.std.proofs.lemmas.Bool.{cases_eq, eq-eqb, ne_eqb}
use Rattle.std.proofs.lemmas.Option.{none-some, same_Some}
use Rattle.nand_model.specs.declared.geometry.Geometry.{Geometry}
use Rattle.nand_model.specs.declared.tear.Tear.{Tear}
use Rattle.nand_model.specs.declared.words.Command.{Command}
use Rattle.nand_model.specs.declared.words.Op.{Op}
use Rattle.nand_model.specs.declared.words.Op.TheVariants.{Read, Write, RawRead, RawWrite, Erase, IsBad, Mark, Stats}
use Rattle.nand_model.specs.declared.words.PageRead.{PageRead}
use Rattle.nand_model.specs.declared.words.Reply.{Reply}
use Rattle.nand_model.specs.declared.words.Stats.{Stats as Statistics}
use Rattle.chip_paths.specs.Attach.{Attaching, attach_path}
use Rattle.nand_model.specs.Chip.{ChipState, Complete, FaultModel, PageEvent, PowerCut, done_bits, happens}
use Rattle.chip_paths.specs.Operation.{Finished, Known, after_read}
use Rattle.nand_model.specs.Partitions.{device_of, chip_of}
use Rattle.nand_model.specs.Page.{Decoding, decoded}
use Rattle.nand_model.specs.Path.{Answer, Over, Path, Then, after_answers, answer_to, is_failure}
use Rattle.chip_paths.specs.ChipRun.{ChipRun, Pending, advanced, answered_by, attach_notes, attach_notes_by, attach_notes_of, chip_at_start, finished_by, known_once_over, notes_of_advance, notes_of_cut, pending_after, torn_at, torn_by, with_finished, with_pending}
use Rattle.nand_model.specs.Sizes.{raw_len}
use Rattle.command_model.specs.Boot.{Boot, change_at}
use Rattle.run_model.specs.Course.{Course, attach_step, attach_steps, course_after, event_done, finish, sizes_of, start_of_boot, turn_step, turns_taken}
use Rattle.command_model.specs.Session.{Alternate, Asked, Exchange, exchanges_of}
use Rattle.command_model.specs.Reads.{corrected_of, failed_of, reads_of}
use Rattle.run_laws.proofs.ChipNotes.{torn_exchanges}
use Rattle.run_laws.proofs.Courses.{Holds, Rest, asked_at, asked_by, asked_on, due_asked, due_rest, rest, rest_of}
use Rattle.run_laws.proofs.Places.{change_elsewhere, change_here}
use Rattle.run_laws.proofs.Sessions.{SessionLaw, asked}
use Rattle.run_laws.proofs.Starts.{start_holds}
use Rattle.run_laws.proofs.Steps.{attach_step_holds, turn_step_holds}
use Rattle.statistics_laws.specs.Counts.{StandOnce, StatisticsFollow, page_read, reads_in}
use Rattle.run_model.specs.Statistics.{no_statistics, statistics_at, statistics_known, statistics_on}
use Rattle.statistics_laws.proofs.Operations.{Ending, operation_ending}
use Rattle.statistics_laws.proofs.ReadCounts.{total, total_answered, total_begun, total_silent}
use Rattle.statistics_laws.proofs.Steps.{by_attach, by_turn, flipped_chips}

-- an attach that has just come to its end has counted nothing
once_none : (path : Path Attaching) (dev : ℕ) → statistics_known (known_once_over path) dev ≡ no_statistics
once_none (Over attaching) dev = refl
once_none (Then event rest) dev = refl

-- notes of events are of no session
attach_silent : (session k : ℕ) (quiet : Bool) (path : Path Attaching) → exchanges_of session (attach_notes_of k quiet path) ≡ []
attach_silent session k quiet (Over attaching) = refl
attach_silent session k quiet (Then event rest) = refl

attach_notes_silent : {W : Type 0} (session k : ℕ) (now : ChipRun W) (before : Option Known) → exchanges_of session (attach_notes_by k now before) ≡ []
attach_notes_silent session k now None = attach_silent session k now.quiet (after_answers now.attach_answers (attach_path now.chip.geometry))
attach_notes_silent session k now (Some known) = refl

abbrev statistics_of_rest : Option Rest → ℕ → Statistics
statistics_of_rest None dev = no_statistics
statistics_of_rest (Some r) dev = statistics_known r.known dev

by_rest : {W : Type 0} (o : Option (ChipRun W)) (dev : ℕ) → statistics_on o dev ≡ statistics_of_rest (rest_of o) dev
by_rest None dev = refl
by_rest (Some c) dev = refl

-- an operation of another chip reads nothing of this device
other_reads : (place : ℕ → Option ℕ) (k dev : ℕ) (op : Op) (reply : Reply) → place (device_of op) ≡ Some k → (place dev ≡ Some k → ⊥) → reads_in dev op reply ≡ []
other_reads place k dev (Read d page) reply at differ = by_device (cases_eq d dev)
  where
    by_device : (d ≡ dev) ⊎ (d ≡ dev → ⊥) → reads_in dev (Read d page) reply ≡ []
    by_device (inl same) = absurd (differ (ap place (sym same) ∙ at))
    by_device (inr other) = ap (λ (b : Bool). if b then page_read reply else []) (ne_eqb d dev other)
other_reads place k dev (RawRead d page) reply at differ = refl
other_reads place k dev (Write d page body free) reply at differ = refl
other_reads place k dev (RawWrite d page image) reply at differ = refl
other_reads place k dev (Erase d block) reply at differ = refl
other_reads place k dev (IsBad d block) reply at differ = refl
other_reads place k dev (Mark d block) reply at differ = refl
other_reads place k dev (Stats d) reply at differ = refl

-- the law of one of the two sums: it begins at 0, and a read of a page adds what the page counts
module _ (m : PageRead → ℕ) (part : Statistics → ℕ) (none : part no_statistics ≡ 0)
    (adds : (g : Geometry) (k : Known) (d page dev : ℕ) (cells : List ℕ)
    → part ((after_read g k d (decoded g cells)).known.statistics dev) ≡ part (k.statistics dev) + sum_by m (reads_in dev (Read d page) (after_read g k d (decoded g cells)).reply)) where
  -- an operation that is over adds what its reply reads
  ending_adds : (g : Geometry) (k : Known) (op : Op) (finished : Finished) (dev : ℕ) → Ending g k op finished
      → part (finished.known.statistics dev) ≡ part (k.statistics dev) + sum_by m (reads_in dev op finished.reply)
  ending_adds g k op finished dev (inl same) =
      let stays : part (finished.known.statistics dev) ≡ part (k.statistics dev) = ap (λ f. part (f dev)) same.0 in
      let nothing : sum_by m (reads_in dev op finished.reply) ≡ 0 = ap (sum_by m) (same.1 dev) in
      omega (arith, stays, nothing)
  ending_adds g k op finished dev (inr read) =
      ap (λ (f : Finished). part (f.known.statistics dev)) read.4 ∙ adds g k read.0 read.1 dev read.2
      ∙ ap (λ (o : Op). part (k.statistics dev) + sum_by m (reads_in dev o (after_read g k read.0 (decoded g read.2)).reply)) (sym read.3)
      ∙ ap (λ (f : Finished). part (k.statistics dev) + sum_by m (reads_in dev op f.reply)) (sym read.4)

  module _ {W : Type 0} (model : FaultModel W) (boot : Boot) (starts : List (ChipState W)) (numbers : List ℕ) (once : StandOnce boot numbers) where
    -- the statistics of a device beside its reads
    abbrev Follows : ℕ → Course W → Type 0
    Follows dev course = part (statistics_at course (chip_of boot.partitions dev) dev) ≡ total m dev numbers course.notes

    -- each operation is in flight on the chip of its device
    abbrev Placed : Course W → Type 0
    Placed course = (k n : ℕ) (op : Op) → asked_at course.chips k ≡ Some (n, op) → chip_of boot.partitions (device_of op) ≡ Some k

    abbrev sizes : Command → Geometry
    sizes = sizes_of boot starts

    -- chips of which one is changed, with operations at their places
    placed_changed : (chips : List (ChipRun W)) (k : ℕ) (f : ChipRun W → ChipRun W)
        → ((j n : ℕ) (op : Op) → asked_at chips j ≡ Some (n, op) → chip_of boot.partitions (device_of op) ≡ Some j)
        → ((c : ChipRun W) → slice_get chips k ≡ Some c → (n : ℕ) (op : Op) → asked_by (f c).pending ≡ Some (n, op) → chip_of boot.partitions (device_of op) ≡ Some k)
        → (j n : ℕ) (op : Op) → asked_at (change_at chips k f) j ≡ Some (n, op) → chip_of boot.partitions (device_of op) ≡ Some j
    placed_changed chips k f h new j n op e = by_case (cases_eq k j)
      where
        here : (o : Option (ChipRun W)) → slice_get chips k ≡ o → asked_on (option_map f o) ≡ Some (n, op) → chip_of boot.partitions (device_of op) ≡ Some k
        here None there a = absurd (none-some _ a)
        here (Some c) there a = new c there n op a

        by_case : (k ≡ j) ⊎ (k ≡ j → ⊥) → chip_of boot.partitions (device_of op) ≡ Some j
        by_case (inl same) =
            subst (λ i. chip_of boot.partitions (device_of op) ≡ Some i) same
            (here (slice_get chips k) refl (sym (ap asked_on (change_here chips k f)) ∙ ap (λ i. asked_at (change_at chips k f) i) same ∙ e))
        by_case (inr differ) = h j n op (sym (ap asked_on (change_elsewhere chips k j f differ)) ∙ e)

    -- an event leaves operations where they are
    kept_op : (c : ChipRun W) (after : ChipState W) (answer : Answer) (known : Option Known) (n : ℕ) (op : Op)
        → asked_by (answered_by c after answer known).pending ≡ Some (n, op) → asked_by c.pending ≡ Some (n, op)
    kept_op c after answer None n op e = absurd (none-some _ e)
    kept_op c after answer (Some known) n op e = by_pending c.pending e
      where
        by_pending : (o : Option Pending) → asked_by (pending_after o answer) ≡ Some (n, op) → asked_by o ≡ Some (n, op)
        by_pending None a = a
        by_pending (Some pending) a = a

    torn_op : (c : ChipRun W) (after : ChipState W) (known : Option Known) (n : ℕ) (op : Op)
        → asked_by (torn_by c after known).pending ≡ Some (n, op) → asked_by c.pending ≡ Some (n, op)
    torn_op c after None n op e = e
    torn_op c after (Some known) n op e = e

    placed_flipped : (course : Course W) → Placed course → (k n : ℕ) (op : Op) → asked_at (flipped_chips model boot sizes course) k ≡ Some (n, op)
        → chip_of boot.partitions (device_of op) ≡ Some k
    placed_flipped course h k n op e = h k n op (sym (ap (λ f. f k) (due_asked model boot starts course.chips (course.events + 1))) ∙ e)

    placed_event : (course : Course W) → Placed course → (k : ℕ) (c : ChipRun W) (e : PageEvent) (tear : Option Tear)
        → slice_get (flipped_chips model boot sizes course) k ≡ Some c
        → Placed (event_done model boot course (flipped_chips model boot sizes course) k (course.events + 1) c e tear)
    placed_event course h k c e None there =
        placed_changed (flipped_chips model boot sizes course) k (λ old. advanced model c e) (placed_flipped course h)
        (λ old at n op a. placed_flipped course h k n op (ap asked_on there ∙ kept_op c (happens model c.chip (Complete e)) (answer_to model c.chip e) c.known n op a))
    placed_event course h k c e (Some tear) there =
        placed_changed (flipped_chips model boot sizes course) k (λ old. torn_at model c e (done_bits (raw_len c.chip.geometry) tear)) (placed_flipped course h)
        (λ old at n op a. placed_flipped course h k n op (ap asked_on there
        ∙ torn_op c (happens model c.chip (PowerCut e (done_bits (raw_len c.chip.geometry) tear))) c.known n op a))

    placed_turn : (course : Course W) → Placed course → (session : ℕ) → Placed (turn_step model boot sizes course session)
    placed_turn course h session =
        by_turn model boot sizes course Placed (record {
          same = h;
          event = placed_event course h;
          begins = λ asker k op at. placed_changed course.chips k (λ c. with_pending c asker op) h
              (λ c there n o a. ap (λ (p : ℕ × Op). chip_of boot.partitions (device_of p.1)) (sym (same_Some (asker, op) (n, o) a)) ∙ at);
          answers = λ k c known pending finished there knows asks e. placed_changed course.chips k (λ old. with_finished c finished) h
              (λ old at n o a. absurd (none-some _ a));
        }) session

    placed_attach : (course : Course W) → Placed course → Placed (attach_step model boot sizes course)
    placed_attach course h = by_attach model boot sizes course Placed (record { same = h; event = placed_event course h })

    -- a changed chip that knows as much as before
    same_statistics : (chips changed : List (ChipRun W)) (k dev : ℕ) (f : ChipRun W → ChipRun W) (o : Option ℕ)
        → ((j : ℕ) → rest_of (slice_get changed j) ≡ rest_of (slice_get chips j))
        → ((c : ChipRun W) → slice_get changed k ≡ Some c → part (statistics_known (f c).known dev) ≡ part (statistics_known c.known dev))
        → part (statistics_at (record { chips = change_at changed k f; sessions = []; events = 0; dark = false; notes = [] }) o dev)
        ≡ part (statistics_at (record { chips = chips; sessions = []; events = 0; dark = false; notes = [] }) o dev)
    same_statistics chips changed k dev f None same here = refl
    same_statistics chips changed k dev f (Some j) same here = by_case (cases_eq k j)
      where
        as_before : (i : ℕ) → part (statistics_on (slice_get changed i) dev) ≡ part (statistics_on (slice_get chips i) dev)
        as_before i =
            ap part (by_rest (slice_get changed i) dev ∙ ap (λ (r : Option Rest). statistics_of_rest r dev) (same i) ∙ sym (by_rest (slice_get chips i) dev))

        at_k : (x : Option (ChipRun W)) → slice_get changed k ≡ x → part (statistics_on (option_map f x) dev) ≡ part (statistics_on x dev)
        at_k None there = refl
        at_k (Some c) there = here c there

        by_case : (k ≡ j) ⊎ (k ≡ j → ⊥) → part (statistics_on (slice_get (change_at changed k f) j) dev) ≡ part (statistics_on (slice_get chips j) dev)
        by_case (inl e) =
            subst (λ i. part (statistics_on (slice_get (change_at changed k f) i) dev) ≡ part (statistics_on (slice_get chips i) dev)) e
            (ap (λ (x : Option (ChipRun W)). part (statistics_on x dev)) (change_here changed k f) ∙ at_k (slice_get changed k) refl ∙ as_before k)
        by_case (inr differ) = ap (λ (x : Option (ChipRun W)). part (statistics_on x dev)) (change_elsewhere changed k j f differ) ∙ as_before j

    -- an event counts nothing
    answered_same : (c : ChipRun W) (after : ChipState W) (answer : Answer) (dev : ℕ) (known : Option Known) → c.known ≡ known
        → part (statistics_known (answered_by c after answer known).known dev) ≡ part (statistics_known known dev)
    answered_same c after answer dev None e = ap part (once_none (after_answers (c.attach_answers ++ answer ∷ []) (attach_path c.chip.geometry)) dev)
    answered_same c after answer dev (Some known) e = ap (λ (o : Option Known). part (statistics_known o dev)) e

    torn_same : (c : ChipRun W) (after : ChipState W) (dev : ℕ) (known : Option Known)
        → part (statistics_known (torn_by c after known).known dev) ≡ part (statistics_known c.known dev)
    torn_same c after dev None = refl
    torn_same c after dev (Some known) = refl

    follows_event : (dev : ℕ) (course : Course W) → Follows dev course → (k : ℕ) (c : ChipRun W) (e : PageEvent) (tear : Option Tear)
        → slice_get (flipped_chips model boot sizes course) k ≡ Some c
        → Follows dev (event_done model boot course (flipped_chips model boot sizes course) k (course.events + 1) c e tear)
    follows_event dev course h k c e None there =
        same_statistics course.chips (flipped_chips model boot sizes course) k dev (λ old. advanced model c e) (chip_of boot.partitions dev)
        (due_rest model boot starts course.chips (course.events + 1))
        (λ old at. answered_same c (happens model c.chip (Complete e)) (answer_to model c.chip e) dev c.known refl
        ∙ ap (λ (x : ChipRun W). part (statistics_known x.known dev)) (same_Some c old (sym there ∙ at)))
        ∙ h ∙ sym (total_silent m dev numbers (course.notes ++ notes_of_advance model k (course.events + 1) c e) (attach_notes k c (advanced model c e))
        (λ s. attach_notes_silent s k (advanced model c e) c.known)
        ∙ total_silent m dev numbers course.notes (notes_of_advance model k (course.events + 1) c e)
        (λ s. torn_exchanges s (is_failure (answer_to model c.chip e)) k (course.events + 1) false c.chip e (happens model c.chip (Complete e))))
    follows_event dev course h k c e (Some tear) there =
        same_statistics course.chips (flipped_chips model boot sizes course) k dev (λ old. torn_at model c e (done_bits (raw_len c.chip.geometry) tear))
        (chip_of boot.partitions dev) (due_rest model boot starts course.chips (course.events + 1))
        (λ old at. torn_same c (happens model c.chip (PowerCut e (done_bits (raw_len c.chip.geometry) tear))) dev c.known
        ∙ ap (λ (x : ChipRun W). part (statistics_known x.known dev)) (same_Some c old (sym there ∙ at)))
        ∙ h ∙ sym (total_silent m dev numbers course.notes (notes_of_cut model k (course.events + 1) c e (done_bits (raw_len c.chip.geometry) tear))
        (λ s. torn_exchanges s true k (course.events + 1) true c.chip e (happens model c.chip (PowerCut e (done_bits (raw_len c.chip.geometry) tear)))))

    -- what a session has asked and been answered, by the operation that it has in flight
    own_past : (course : Course W) → Holds model boot starts course → (k n : ℕ) (op : Op) → asked_at course.chips k ≡ Some (n, op)
        → (past : List Exchange) × (exchanges_of n course.notes ≡ past ++ Asked op ∷ []) × Alternate (past ++ Asked op ∷ []) × (count_by (λ x. x == n) numbers ≡ 1)
    own_past course holds k n op e = by_law (law holds)
      where
        law : Holds model boot starts course → SessionLaw boot.partitions sizes boot.sessions n (asked_at course.chips) course.sessions course.notes
        law (inl live) = live.sessions n
        law (inr cut) = cut.sessions n

        by_law : SessionLaw boot.partitions sizes boot.sessions n (asked_at course.chips) course.sessions course.notes
            → (past : List Exchange) × (exchanges_of n course.notes ≡ past ++ Asked op ∷ []) × Alternate (past ++ Asked op ∷ []) × (count_by (λ x. x == n) numbers ≡ 1)
        by_law a =
            let open_is : a.open_op ≡ Some op = (a.from k op e).1 in
            let asker = a.asker op open_is in
            let own = a.is_own asker.0 asker.1 in
            (a.past, a.are ∙ ap (λ (o : Option Op). a.past ++ asked o) open_is, a.alternate (Asked op ∷ []) tt, once n own.0 own.1)

    -- the chips once an operation is over
    module _ (dev : ℕ) (course : Course W) (placed : Placed course) (k : ℕ) (c : ChipRun W) (known : Known) (pending : Pending) (finished : Finished)
        (there : slice_get course.chips k ≡ Some c) (knows : c.known ≡ Some known) (asks : c.pending ≡ Some pending)
        (over : finished_by boot.partitions c known pending ≡ Some finished) where
      asked_here : asked_at course.chips k ≡ Some (pending.session, pending.op)
      asked_here = ap asked_on there ∙ ap asked_by asks

      read_now : ℕ
      read_now = sum_by m (reads_in dev pending.op finished.reply)

      chips_after : List (ChipRun W)
      chips_after = change_at course.chips k (λ old. with_finished c finished)

      here_after : part (statistics_on (slice_get (change_at course.chips k (λ old. with_finished c finished)) k) dev)
          ≡ part (statistics_on (slice_get course.chips k) dev) + sum_by m (reads_in dev pending.op finished.reply)
      here_after =
          ap (λ (x : Option (ChipRun W)). part (statistics_on x dev)) (change_here course.chips k (λ old. with_finished c finished) ∙ ap (option_map (λ old. with_finished c finished)) there)
          ∙ ending_adds c.chip.geometry known pending.op finished dev (operation_ending c.chip.geometry boot.partitions known pending.op pending.answers finished over)
          ∙ ap (λ n. n + sum_by m (reads_in dev pending.op finished.reply))
          (sym (ap (λ (x : Option (ChipRun W)). part (statistics_on x dev)) there ∙ ap (λ (o : Option Known). part (statistics_known o dev)) knows))

      nothing_elsewhere : (chip_of boot.partitions dev ≡ Some k → ⊥) → sum_by m (reads_in dev pending.op finished.reply) ≡ 0
      nothing_elsewhere differ =
          ap (sum_by m) (other_reads (chip_of boot.partitions) k dev pending.op finished.reply (placed k pending.session pending.op asked_here) differ)

      statistics_after : (o : Option ℕ) → chip_of boot.partitions dev ≡ o
          → part (statistics_at (finish sizes course k c pending.session (Some finished)) o dev)
          ≡ part (statistics_at course o dev) + sum_by m (reads_in dev pending.op finished.reply)
      statistics_after None at =
          let nothing = nothing_elsewhere (λ e. none-some k (sym at ∙ e)) in omega (arith, nothing)
      statistics_after (Some j) at = by_case (cases_eq k j)
        where
          by_case : (k ≡ j) ⊎ (k ≡ j → ⊥) → part (statistics_on (slice_get (change_at course.chips k (λ old. with_finished c finished)) j) dev)
              ≡ part (statistics_on (slice_get course.chips j) dev) + sum_by m (reads_in dev pending.op finished.reply)
          by_case (inl same) =
              subst (λ i. part (statistics_on (slice_get (change_at course.chips k (λ old. with_finished c finished)) i) dev)
              ≡ part (statistics_on (slice_get course.chips i) dev) + sum_by m (reads_in dev pending.op finished.reply)) same here_after
          by_case (inr differ) =
              let nothing = nothing_elsewhere (λ e. differ (same_Some k j (sym e ∙ at))) in
              let stays = ap (λ (x : Option (ChipRun W)). part (statistics_on x dev)) (change_elsewhere course.chips k j (λ old. with_finished c finished) differ) in
              omega (arith, nothing, stays)

      follows_answer : Holds model boot starts course → Follows dev course → Follows dev (finish sizes course k c pending.session (Some finished))
      follows_answer holds h =
          let own = own_past course holds k pending.session pending.op asked_here in
          let more = total_answered m dev numbers course.notes pending.session pending.op finished.reply own.0 own.1 own.2 own.3 in
          let now = statistics_after (chip_of boot.partitions dev) refl in
          now ∙ ap (λ n. n + sum_by m (reads_in dev pending.op finished.reply)) h ∙ sym more

    -- courses whose statistics follow from their notes
    record Counted (course : Course W) : Type 0 where
      pub holds : Holds model boot starts course
      pub placed : Placed course
      pub follows : (dev : ℕ) → Follows dev course

    turn_counted : (course : Course W) → Counted course → (session : ℕ) → Counted (turn_step model boot sizes course session)
    turn_counted course h session = record {
      holds = turn_step_holds model boot starts course session h.holds;
      placed = placed_turn course h.placed session;
      follows = λ dev. by_turn model boot sizes course (Follows dev) (record {
        same = h.follows dev;
        event = follows_event dev course (h.follows dev);
        begins = λ asker k op at.
            same_statistics course.chips course.chips k dev (λ c. with_pending c asker op) (chip_of boot.partitions dev) (λ j. refl) (λ c there. refl)
            ∙ h.follows dev ∙ sym (total_begun m dev numbers course.notes asker op);
        answers = λ k c known pending finished there knows asks e.
            follows_answer dev course h.placed k c known pending finished there knows asks e h.holds (h.follows dev);
      }) session;
    }

    attach_counted : (course : Course W) → Counted course → Counted (attach_step model boot sizes course)
    attach_counted course h = record {
      holds = attach_step_holds model boot starts course h.holds;
      placed = placed_attach course h.placed;
      follows = λ dev. by_attach model boot sizes course (Follows dev) (record { same = h.follows dev; event = follows_event dev course (h.follows dev) });
    }

    turns_counted : (turns : List ℕ) (course : Course W) → Counted course → Counted (turns_taken model boot starts turns course)
    turns_counted [] course h = h
    turns_counted (session ∷ turns) course h = turns_counted turns (turn_step model boot sizes course session) (turn_counted course h session)

    attaches_counted : (attaches : ℕ) (course : Course W) → Counted course → Counted (attach_steps model boot starts attaches course)
    attaches_counted zero course h = h
    attaches_counted (suc n) course h = attaches_counted n (attach_step model boot sizes course) (attach_counted course h)

    none_asked : (chips : List (ChipState W)) (k n : ℕ) (op : Op) → asked_at (map chip_at_start chips) k ≡ Some (n, op) → ⊥
    none_asked [] k n op e = none-some _ e
    none_asked (s ∷ chips) zero n op e = none-some _ e
    none_asked (s ∷ chips) (suc k) n op e = none_asked chips k n op e

    none_counted : (chips : List (ChipState W)) (dev k : ℕ) → statistics_on (slice_get (map chip_at_start chips) k) dev ≡ no_statistics
    none_counted [] dev k = refl
    none_counted (s ∷ chips) dev zero = refl
    none_counted (s ∷ chips) dev (suc k) = none_counted chips dev k

    none_read : (dev : ℕ) (ns : List ℕ) → sum_by m (reads_of dev ns []) ≡ 0
    none_read dev [] = refl
    none_read dev (n ∷ ns) = none_read dev ns

    at_start : (dev : ℕ) (o : Option ℕ) → part (statistics_at (start_of_boot boot starts) o dev) ≡ 0
    at_start dev None = none
    at_start dev (Some k) = ap part (none_counted starts dev k) ∙ none

    start_counted : Counted (start_of_boot boot starts)
    start_counted = record {
      holds = inl (start_holds model boot starts);
      placed = λ k n op e. absurd (none_asked starts k n op e);
      follows = λ dev. at_start dev (chip_of boot.partitions dev) ∙ sym (none_read dev numbers);
    }

    pub part_follows : (attaches : ℕ) (turns : List ℕ) (dev : ℕ) → Follows dev (course_after model boot starts attaches turns)
    part_follows attaches turns dev =
        (turns_counted turns (attach_steps model boot starts attaches (start_of_boot boot starts)) (attaches_counted attaches (start_of_boot boot starts) start_counted)).follows dev

-- a read of a page adds its counts to its device alone
module _ (g : Geometry) (k : Known) (d page dev : ℕ) (cells : List ℕ) where
  abbrev seen : Decoding
  seen = decoded g cells

  abbrev grown : Bool → Statistics
  grown b = if b then record { corrected = (k.statistics dev).corrected + seen.corrected; failed = (k.statistics dev).failed + seen.failed } else k.statistics dev

  abbrev counted_read : Bool → List PageRead
  counted_read b = if b then record { corrected = seen.corrected; greatest = seen.greatest; failed = seen.failed } ∷ [] else []

  by_both : (P : Bool → Bool → Type 0) → P true true → P false false → P (dev == d) (d == dev)
  by_both P both neither = by_case (cases_eq d dev)
    where
      by_case : (d ≡ dev) ⊎ (d ≡ dev → ⊥) → P (dev == d) (d == dev)
      by_case (inl same) = subst₂ P (sym (eq-eqb dev d (sym same))) (sym (eq-eqb d dev same)) both
      by_case (inr differ) = subst₂ P (sym (ne_eqb dev d (λ e. differ (sym e)))) (sym (ne_eqb d dev differ)) neither

  corrected_adds : (grown (dev == d)).corrected ≡ (k.statistics dev).corrected + sum_by corrected_of (counted_read (d == dev))
  corrected_adds = by_both (λ a b. (grown a).corrected ≡ (k.statistics dev).corrected + sum_by corrected_of (counted_read b)) (omega arith) (omega arith)

  failed_adds : (grown (dev == d)).failed ≡ (k.statistics dev).failed + sum_by failed_of (counted_read (d == dev))
  failed_adds = by_both (λ a b. (grown a).failed ≡ (k.statistics dev).failed + sum_by failed_of (counted_read b)) (omega arith) (omega arith)

pub statistics_follow : {W : Type 0} (model : FaultModel W) (boot : Boot) (starts : List (ChipState W)) (attaches : ℕ) (turns numbers : List ℕ) → StandOnce boot numbers
    → (dev : ℕ) → StatisticsFollow model boot starts attaches turns numbers dev
statistics_follow model boot starts attaches turns numbers once dev = record {
  corrected = part_follows corrected_of (λ (s : Statistics). s.corrected) refl corrected_adds model boot starts numbers once attaches turns dev;
  failed = part_follows failed_of (λ (s : Statistics). s.failed) refl failed_adds model boot starts numbers once attaches turns dev;
}
