-- What its controller keeps of a chip, after each step of the chip's run.
use Rattle.std.proofs.Common.{◌≡◌, ℕ, Bool, true, false, ◌&&◌, List, [], ◌∷◌, ◌++◌, Option, Some, None, refl, ap, ◌∙◌}
use Rattle.nand_model.specs.Chip.{FaultModel, PageEvent, DoneBits, Complete, PowerCut, done_bits, happens}
use Rattle.nand_model.specs.Sizes.{raw_len}
use Rattle.nand_model.specs.declared.tear.Tear.{Tear}
use Rattle.nand_model.specs.Path.{Answer, Path, Over, Then, answer_to, after_answers, is_failure}
use Rattle.chip_paths.specs.Attach.{Attaching, attach_path}
use Rattle.nand_model.specs.Partitions.{Partitions}
use Rattle.chip_paths.specs.Operation.{Known, Finished, operation_path}
use Rattle.chip_paths.specs.ChipRun.{progress_of, ChipRun, Pending, known_once_over, next_event_by, next_chip_event, advanced, answered_by, torn_at, torn_by, with_pending, with_finished, attach_notes, attach_notes_of, attach_notes_by, notes_of_advance, torn_notes, finished_by}
use Rattle.nand_model.specs.Quiet.{is_quiet, fairness_of}
use Rattle.nand_model.specs.declared.words.Op.{Op}
use Rattle.chip_paths.specs.Stage.{Attaches, Works, one_further, stage_by, stage_of, stage_event, stage_begun, path_after, attach_stage, stage_after, pending_note_after, attach_end, failure_told, fairness_where_failed, finished_in}
use Rattle.run_laws.proofs.Traces.{geometry_happens}
use Rattle.chip_core.specs.Torn.{stage_torn}
use Rattle.ctl_core.specs.SlotState.{slot_as, holder_by, after_event, after_tear, after_begin, after_answer, with_note_written, failure_notes, pending_notes}

-- one more answer takes one more step along a path
pub after_one_more : {A : Type 0} (path : Path A) (answers : List Answer) (answer : Answer)
    → after_answers (answers ++ answer ∷ []) path ≡ path_after answer (after_answers answers path)
after_one_more (Over result) [] answer = refl
after_one_more (Then event rest) [] answer = refl
after_one_more (Over result) (a ∷ answers) answer = refl
after_one_more (Then event rest) (a ∷ answers) answer = after_one_more (rest a) answers answer

-- and further into an operation
progress_after : (answers : List Answer) (answer : Answer) → progress_of (answers ++ answer ∷ []) ≡ one_further (progress_of answers)
progress_after [] answer = refl
progress_after (first ∷ []) answer = refl
progress_after (first ∷ second ∷ answers) answer = refl

-- a chip at rest begins an operation
pub begun_at_rest : {W : Type 0} (partitions : Partitions) (c : ChipRun W) (known : Known) (session : ℕ) (op : Op) (k : Option Known) (p : Option Pending)
    → k ≡ Some known → p ≡ None
    → stage_by partitions (with_pending c session op) k (Some (record { session = session; op = op; answers = [] }))
    ≡ stage_begun c.chip.geometry partitions op (stage_by partitions c k p)
begun_at_rest partitions c known session op None p h i = cc
begun_at_rest partitions c known session op (Some k) None h i = refl
begun_at_rest partitions c known session op (Some k) (Some pending) h i = cc

free_where_attaching : (x : Path Attaching) → holder_by (known_once_over x) None ≡ None
free_where_attaching (Over attaching) = refl
free_where_attaching (Then event rest) = refl

module _ {W : Type 0} (partitions : Partitions) where
  -- an operation in flight, from the stage
  works_by : (c : ChipRun W) (finished : Finished) (k : Option Known) (p : Option Pending) → finished_in (stage_by partitions c k p) ≡ Some finished
      → (known : Known) × (pending : Pending) × (k ≡ Some known) × (p ≡ Some pending) × (finished_by partitions c known pending ≡ Some finished)
  works_by c finished None p h = cc
  works_by c finished (Some known) None h = cc
  works_by c finished (Some known) (Some pending) h = (known, pending, refl, refl, h)

  pub works : (c : ChipRun W) (finished : Finished) → finished_in (stage_of partitions c) ≡ Some finished
      → (known : Known) × (pending : Pending) × (c.known ≡ Some known) × (c.pending ≡ Some pending) × (finished_by partitions c known pending ≡ Some finished)
  works c finished h = works_by c finished c.known c.pending h

  next_by : (c : ChipRun W) (k : Option Known) (p : Option Pending) → next_event_by partitions c.chip c.attach_answers k p
      ≡ stage_event (stage_by partitions c k p)
  next_by c None p = refl
  next_by c (Some k) None = refl
  next_by c (Some k) (Some pending) = refl

  -- the next event of a chip is that of its stage
  pub next_is : (c : ChipRun W) → next_chip_event partitions c ≡ stage_event (stage_of partitions c)
  next_is c = next_by c c.known c.pending

  -- an operation begins on a chip at rest
  pub begun : (c : ChipRun W) (known : Known) (session : ℕ) (op : Op) → c.known ≡ Some known → c.pending ≡ None
      → slot_as partitions (with_pending c session op) ≡ after_begin partitions session op (slot_as partitions c)
  begun c known session op h i =
      λ j. record { state = c.chip; stage = begun_at_rest partitions c known session op c.known c.pending h i j; pending_note = None; holder = held c.known h j }
    where
      held : (k : Option Known) → k ≡ Some known → holder_by k (Some (record { session = session; op = op; answers = [] })) ≡ Some session
      held None h = cc
      held (Some k) h = refl

  -- an operation is answered
  pub answered : (c : ChipRun W) (finished : Finished) → slot_as partitions (with_finished c finished) ≡ after_answer finished.known (slot_as partitions c)
  answered c finished = refl

  -- where the attach has come so far
  attach_stands : (now : ChipRun W) (x : Path Attaching) → after_answers now.attach_answers (attach_path now.chip.geometry) ≡ x
      → stage_by partitions now (known_once_over x) None ≡ attach_stage x now.quiet
  attach_stands now (Over attaching) h = refl
  attach_stands now (Then event rest) h = ap (λ p. Attaches p now.quiet) h

  module _ (model : FaultModel W) where
    -- the path of an attach after one more event
    attach_path_after : (c : ChipRun W) (e : PageEvent)
        → after_answers (c.attach_answers ++ answer_to model c.chip e ∷ []) (attach_path (happens model c.chip (Complete e)).geometry)
        ≡ path_after (answer_to model c.chip e) (after_answers c.attach_answers (attach_path c.chip.geometry))
    attach_path_after c e = ap (λ g. after_answers (c.attach_answers ++ answer_to model c.chip e ∷ []) (attach_path g))
        (geometry_happens model c.chip (Complete e))
        ∙ after_one_more (attach_path c.chip.geometry) c.attach_answers (answer_to model c.chip e)

    -- a chip after one more event, by what is known of it and pending on it
    abbrev advanced_by : ChipRun W → PageEvent → Option Known → Option Pending → ChipRun W
    advanced_by c e k p = answered_by (record c { known = k; pending = p }) (happens model c.chip (Complete e)) (answer_to model c.chip e) k

    advanced_stage : (c : ChipRun W) (e : PageEvent) (k : Option Known) (p : Option Pending)
        → stage_of partitions (advanced_by c e k p) ≡ stage_after (is_quiet c.chip.geometry c.chip.pages) (answer_to model c.chip e) (stage_by partitions c k p)
    advanced_stage c e None p =
        attach_stands (advanced_by c e None p) (after_answers (c.attach_answers ++ answer_to model c.chip e ∷ []) (attach_path c.chip.geometry))
        (ap (λ g. after_answers (c.attach_answers ++ answer_to model c.chip e ∷ []) (attach_path g)) (geometry_happens model c.chip (Complete e)))
        ∙ ap (λ x. attach_stage x (c.quiet && is_quiet c.chip.geometry c.chip.pages)) (after_one_more (attach_path c.chip.geometry) c.attach_answers
        (answer_to model c.chip e))
    advanced_stage c e (Some known) None = refl
    advanced_stage c e (Some known) (Some pending) =
        ap (λ g. Works known (progress_of (pending.answers ++ answer_to model c.chip e ∷ []))
        (after_answers (pending.answers ++ answer_to model c.chip e ∷ []) (operation_path g partitions known pending.op)))
        (geometry_happens model c.chip (Complete e))
        ∙ ap (λ x. Works known x (after_answers (pending.answers ++ answer_to model c.chip e ∷ []) (operation_path c.chip.geometry partitions known pending.op)))
        (progress_after pending.answers (answer_to model c.chip e))
        ∙ ap (λ x. Works known (one_further (progress_of pending.answers)) x)
        (after_one_more (operation_path c.chip.geometry partitions known pending.op) pending.answers (answer_to model c.chip e))

    advanced_holder : (c : ChipRun W) (e : PageEvent) (k : Option Known) (p : Option Pending)
        → holder_by (advanced_by c e k p).known (advanced_by c e k p).pending ≡ holder_by k p
    advanced_holder c e None p = free_where_attaching (after_answers (c.attach_answers ++ answer_to model c.chip e ∷ []) (attach_path c.chip.geometry))
    advanced_holder c e (Some known) None = refl
    advanced_holder c e (Some known) (Some pending) = refl

    advanced_state : (c : ChipRun W) (e : PageEvent) (k : Option Known) (p : Option Pending) → (advanced_by c e k p).chip ≡ happens model c.chip (Complete e)
    advanced_state c e None p = refl
    advanced_state c e (Some known) p = refl

    -- one more event, with its attach note written
    pub slot_advanced : (c : ChipRun W) (e : PageEvent) → slot_as partitions (advanced model c e) ≡ with_note_written (after_event model e (slot_as partitions c))
    slot_advanced c e = λ j. record {
      state = advanced_state c e c.known c.pending j;
      stage = advanced_stage c e c.known c.pending j;
      pending_note = None;
      holder = advanced_holder c e c.known c.pending j;
    }

    -- a torn event, by what is known of the chip and pending on it
    abbrev torn_with : ChipRun W → PageEvent → DoneBits → Option Known → Option Pending → ChipRun W
    torn_with c e done k p = torn_by (record c { known = k; pending = p }) (happens model c.chip (PowerCut e done)) k

    torn_stage : (c : ChipRun W) (e : PageEvent) (done : DoneBits) (k : Option Known) (p : Option Pending)
        → stage_of partitions (torn_with c e done k p) ≡ stage_torn (is_quiet c.chip.geometry c.chip.pages) (stage_by partitions c k p)
    torn_stage c e done None p =
        ap (λ g. Attaches (after_answers c.attach_answers (attach_path g)) (c.quiet && is_quiet c.chip.geometry c.chip.pages))
        (geometry_happens model c.chip (PowerCut e done))
    torn_stage c e done (Some known) None = refl
    torn_stage c e done (Some known) (Some pending) =
        ap (λ g. Works known (progress_of pending.answers) (after_answers pending.answers (operation_path g partitions known pending.op)))
        (geometry_happens model c.chip (PowerCut e done))

    torn_holder : (c : ChipRun W) (e : PageEvent) (done : DoneBits) (k : Option Known) (p : Option Pending)
        → holder_by (torn_with c e done k p).known (torn_with c e done k p).pending ≡ holder_by k p
    torn_holder c e done None p = refl
    torn_holder c e done (Some known) p = refl

    torn_state : (c : ChipRun W) (e : PageEvent) (done : DoneBits) (k : Option Known) (p : Option Pending)
        → (torn_with c e done k p).chip ≡ happens model c.chip (PowerCut e done)
    torn_state c e done None p = refl
    torn_state c e done (Some known) p = refl

    -- a torn event
    pub slot_torn : (c : ChipRun W) (e : PageEvent) (tear : Tear)
        → slot_as partitions (torn_at model c e (done_bits (raw_len c.chip.geometry) tear)) ≡ after_tear model e tear (slot_as partitions c)
    slot_torn c e tear = λ j. record {
      state = torn_state c e (done_bits (raw_len c.chip.geometry) tear) c.known c.pending j;
      stage = torn_stage c e (done_bits (raw_len c.chip.geometry) tear) c.known c.pending j;
      pending_note = None;
      holder = torn_holder c e (done_bits (raw_len c.chip.geometry) tear) c.known c.pending j;
    }

    -- the note of a failed event
    pub failure_is : (k n : ℕ) (c : ChipRun W) (e : PageEvent) → notes_of_advance model k n c e ≡ failure_notes k n e (failure_told model c.chip e)
    failure_is k n c e = by_test (is_failure (answer_to model c.chip e))
      where
        by_test : (b : Bool) → torn_notes b k n false c.chip e (happens model c.chip (Complete e))
            ≡ failure_notes k n e (fairness_where_failed b (fairness_of c.chip.geometry c.chip.pages e (happens model c.chip (Complete e)).pages))
        by_test true = refl
        by_test false = refl

    -- the note of an attach that has come to its end
    note_by : (k : ℕ) (quiet : Bool) (x : Path Attaching) → attach_notes_of k quiet x ≡ pending_notes k (attach_end x quiet)
    note_by k quiet (Over attaching) = refl
    note_by k quiet (Then event rest) = refl

    pending_note_by : (k : ℕ) (c : ChipRun W) (e : PageEvent) (known : Option Known) (p : Option Pending)
        → attach_notes_by k (advanced_by c e known p) known
        ≡ pending_notes k (pending_note_after (is_quiet c.chip.geometry c.chip.pages) (answer_to model c.chip e) (stage_by partitions c known p) None)
    pending_note_by k c e None p =
        ap (attach_notes_of k (c.quiet && is_quiet c.chip.geometry c.chip.pages)) (attach_path_after c e)
        ∙ note_by k (c.quiet && is_quiet c.chip.geometry c.chip.pages) (path_after (answer_to model c.chip e)
        (after_answers c.attach_answers (attach_path c.chip.geometry)))
    pending_note_by k c e (Some known) None = refl
    pending_note_by k c e (Some known) (Some pending) = refl

    pub pending_note_is : (k : ℕ) (c : ChipRun W) (e : PageEvent) → attach_notes k c (advanced model c e)
        ≡ pending_notes k (after_event model e (slot_as partitions c)).pending_note
    pending_note_is k c e = pending_note_by k c e c.known c.pending
