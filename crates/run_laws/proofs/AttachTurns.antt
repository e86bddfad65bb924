-- An attach step is one page event until all chips are attached.
use Rattle.std.proofs.Common.{◌≡◌, inl, inr, ℕ, ◌+◌, Bool, true, false, List, Option, Some, None, refl, ap, sym, ◌∙◌}
use Rattle.std.specs.Prelude.{slice_get, is_none, if◌then◌else◌}
use Rattle.std.proofs.lemmas.Bool.{false≢true}
use Rattle.std.proofs.lemmas.Option.{none-some}
use Rattle.nand_model.specs.declared.geometry.Geometry.{Geometry}
use Rattle.nand_model.specs.declared.tear.Tear.{Tear}
use Rattle.nand_model.specs.declared.words.Command.{Command}
use Rattle.nand_model.specs.declared.words.Note.{Note}
use Rattle.nand_model.specs.Chip.{ChipState, FaultModel, ChipEvent, PageEvent}
use Rattle.nand_model.specs.Path.{after_answers, result_of}
use Rattle.chip_paths.specs.Attach.{attach_path}
use Rattle.chip_paths.specs.Operation.{Known}
use Rattle.chip_paths.specs.ChipRun.{ChipRun, Pending, next_event_by}
use Rattle.command_model.specs.Boot.{Boot}
use Rattle.run_model.specs.Course.{Course, unattached, with_flips_before, event_done, event_on, event_or_answer, chip_step, attach_first, course_after}
use Rattle.nand_model.specs.Cuts.{tear_at}
use Rattle.run_model.specs.History.{notes_of_chip, events_in}
use Rattle.run_laws.specs.Turns.{AttachIsStep}
use Rattle.run_laws.proofs.Traces.{geometry_after}
use Rattle.run_laws.proofs.Paths.{event_by}
use Rattle.run_laws.proofs.Places.{position_is}
use Rattle.run_laws.proofs.Life.{ChipLawAt}
use Rattle.run_laws.proofs.Courses.{rest_of, due_rest, place_start, LawOf, by_log, IsLive, Holds}
use Rattle.run_laws.proofs.Faithful.{course_holds}

module _ {W : Type 0} (model : FaultModel W) (boot : Boot) (starts : List (ChipState W)) (sizes : Command → Geometry) (course : Course W) where
  -- a chip that is not attached has a next event
  next_is : (k : ℕ) (s : ChipState W) (c : ChipRun W) (notes : List Note) (whole : List (ℕ × ChipEvent)) (known : Option Known) (pending : Option Pending) → is_none known ≡ true
      → ChipLawAt model boot.partitions k s c notes whole known pending → (e : PageEvent) × (next_event_by boot.partitions c.chip c.attach_answers known pending ≡ Some e)
  next_is k s c notes whole None pending h a =
      event_by (after_answers c.attach_answers (attach_path c.chip.geometry))
      (ap (λ g. result_of (after_answers c.attach_answers (attach_path g))) (ap (λ (t : ChipState W). t.geometry) a.goes.now_is ∙ geometry_after model s (events_in whole)) ∙ a.more)
  next_is k s c notes whole (Some known) pending h a = absurd (false≢true h)

  done_counts : (chips : List (ChipRun W)) (k n : ℕ) (c : ChipRun W) (e : PageEvent) (tear : Option Tear) → (event_done model boot course chips k n c e tear).events ≡ n
  done_counts chips k n c e None = refl
  done_counts chips k n c e (Some tear) = refl

  event_counts : (k : ℕ) (c : ChipRun W) (e : PageEvent) → slice_get course.chips k ≡ Some c → (o : Option (ChipRun W)) → slice_get (with_flips_before model boot (course.events + 1) course.chips) k ≡ o
      → (event_on model boot course (with_flips_before model boot (course.events + 1) course.chips) k o e).events ≡ course.events + 1
  event_counts k c e at None x = absurd (none-some _ (sym (ap rest_of x) ∙ due_rest model boot starts course.chips (course.events + 1) k ∙ ap rest_of at))
  event_counts k c e at (Some now) x = done_counts (with_flips_before model boot (course.events + 1) course.chips) k (course.events + 1) now e (tear_at boot.cut (course.events + 1))

  first_counts : (k : ℕ) → IsLive model boot starts course → unattached course ≡ Some k → (attach_first model boot sizes course (Some k)).events ≡ course.events + 1
  first_counts k live h =
      let c = position_is (λ (z : ChipRun W). is_none z.known) course.chips k h in
      let p = place_start (LawOf model boot starts (by_log model boot starts live.log) k) (notes_of_chip boot.partitions k course.notes) (slice_get starts k) (slice_get course.chips k) c.0 c.1 (live.chips k) in
      let e = next_is k p.0 c.0 (notes_of_chip boot.partitions k course.notes) (by_log model boot starts live.log k p.0) c.0.known c.0.pending c.2 p.2 in
      ap (λ o. (chip_step model boot sizes course k o).events) c.1
      ∙ ap (λ o. (event_or_answer model boot sizes course k c.0 o).events) e.1
      ∙ event_counts k c.0 e.0 c.1 (slice_get (with_flips_before model boot (course.events + 1) course.chips) k) refl

  attach_holds_step : Holds model boot starts course → AttachIsStep model boot sizes course
  attach_holds_step holds = record {
    nothing_where_dark = λ e. ap (λ b. if b then course else attach_first model boot sizes course (unattached course)) e;
    nothing_where_attached = λ e. ap (λ o. if course.dark then course else attach_first model boot sizes course o) e ∙ same course.dark;
    event_else = λ k lit e. ap (λ b. (if b then course else attach_first model boot sizes course (unattached course)).events) lit
        ∙ ap (λ o. (attach_first model boot sizes course o).events) e ∙ by_state k lit e holds;
  }
    where
      same : (b : Bool) → (if b then course else course) ≡ course
      same true = refl
      same false = refl

      by_state : (k : ℕ) → course.dark ≡ false → unattached course ≡ Some k → Holds model boot starts course → (attach_first model boot sizes course (Some k)).events ≡ course.events + 1
      by_state k lit e (inl live) = first_counts k live e
      by_state k lit e (inr cut) = absurd (false≢true (sym lit ∙ cut.dark))

pub attach_is_step : {W : Type 0} (model : FaultModel W) (boot : Boot) (starts : List (ChipState W)) (sizes : Command → Geometry) (attaches : ℕ) (turns : List ℕ)
    → AttachIsStep model boot sizes (course_after model boot starts attaches turns)
attach_is_step model boot starts sizes attaches turns = attach_holds_step model boot starts sizes (course_after model boot starts attaches turns) (course_holds model boot starts attaches turns)
