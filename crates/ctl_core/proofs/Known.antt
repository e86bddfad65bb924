-- Chips that are attached stay so, whatever the turns.
use Rattle.std.proofs.Common.{◌≡◌, ◌⊎◌, inl, inr, ℕ, zero, suc, ◌+◌, Bool, true, false, List, [], ◌∷◌, Option, Some, None, refl, ap, sym, ◌∙◌, subst}
use Rattle.std.specs.Prelude.{slice_get, is_none, is_some, if◌then◌else◌, fold}
use Rattle.nand_model.specs.declared.geometry.Geometry.{Geometry}
use Rattle.nand_model.specs.declared.words.Command.{Command}
use Rattle.nand_model.specs.declared.words.Flip.{Flip}
use Rattle.nand_model.specs.declared.words.Op.{Op}
use Rattle.nand_model.specs.declared.tear.Tear.{Tear}
use Rattle.nand_model.specs.Chip.{FaultModel, PageEvent, DoneBits, Complete, PowerCut, done_bits, happens}
use Rattle.nand_model.specs.Path.{answer_to}
use Rattle.chip_paths.specs.Operation.{Known, Finished}
use Rattle.nand_model.specs.Partitions.{device_of, chip_of}
use Rattle.chip_paths.specs.ChipRun.{ChipRun, Pending, next_chip_event, finished_by, answered_by, advanced, torn_at, torn_by, with_flips}
use Rattle.command_model.specs.Boot.{Boot, change_at}
use Rattle.run_model.specs.Course.{Course, event_done, with_flip, with_flips_before, session_run, pending_chip, unattached, is_idle, with_answer, finish, event_or_answer, chip_step, began, begin_on, begin_at, begin_step, session_step, turn_unless, turn_step}
use Rattle.nand_model.specs.Cuts.{tear_at}
use Rattle.command_model.specs.Session.{next_op}
use Rattle.run_laws.proofs.Places.{position_none}
use Rattle.nand_model.specs.Flips.{due_flips}
use Rattle.nand_model.specs.Sizes.{raw_len}
use Rattle.ctl_core.proofs.Positions.{nowhere}
use Rattle.ctl_core.proofs.Places.{changed_at}
use Rattle.ctl_core.proofs.CourseSteps.{event_is}

-- each chip is attached
abbrev pub AllKnown : {W : Type 0} → List (ChipRun W) → Type 0
AllKnown {W} chips = (k : ℕ) (c : ChipRun W) → slice_get chips k ≡ Some c → is_none c.known ≡ false

pub all_known : {W : Type 0} (course : Course W) → unattached course ≡ None → AllKnown course.chips
all_known {W} course h k c at = position_none (λ (d : ChipRun W). is_none d.known) course.chips h k c at

pub none_unattached : {W : Type 0} (course : Course W) → AllKnown course.chips → unattached course ≡ None
none_unattached {W} course h = nowhere (λ (d : ChipRun W). is_none d.known) course.chips h

known_change : {W : Type 0} (chips : List (ChipRun W)) (k : ℕ) (f : ChipRun W → ChipRun W) → AllKnown chips
    → ((c : ChipRun W) → slice_get chips k ≡ Some c → is_none (f c).known ≡ false) → AllKnown (change_at chips k f)
known_change {W} chips k f h new j c at = by_case (changed_at chips k j f c at)
  where
    by_case : ((x : ChipRun W) × (k ≡ j) × (slice_get chips k ≡ Some x) × (c ≡ f x)) ⊎ ((k ≡ j → ⊥) × (slice_get chips j ≡ Some c)) → is_none c.known ≡ false
    by_case (inl (x, e, old, is)) = ap (λ (y : ChipRun W). is_none y.known) is ∙ new x old
    by_case (inr (n, old)) = h j c old

-- a chip that is there is there after a change of one
changed_there : {A : Type 0} (xs : List A) (k j : ℕ) (f : A → A) (x : A) → slice_get xs k ≡ Some x → (y : A) × (slice_get (change_at xs j f) k ≡ Some y)
changed_there [] k j f x h = cc
changed_there (z ∷ zs) zero zero f x h = (f z, refl)
changed_there (z ∷ zs) zero (suc j) f x h = (z, refl)
changed_there (z ∷ zs) (suc k) zero f x h = (x, h)
changed_there (z ∷ zs) (suc k) (suc j) f x h = changed_there zs k j f x h

module _ {W : Type 0} (model : FaultModel W) (boot : Boot) where
  flips_known : (flips : List Flip) (chips : List (ChipRun W)) → AllKnown chips → AllKnown (fold (with_flip model boot) chips flips)
  flips_known [] chips h = h
  flips_known (flip ∷ flips) chips h =
      flips_known flips (with_flip model boot chips flip) (known_change chips flip.chip (λ c. with_flips model c flip.page flip.bits) h
      (λ c at. h flip.chip c at))

  there_after : (flips : List Flip) (chips : List (ChipRun W)) (k : ℕ) (c : ChipRun W) → slice_get chips k ≡ Some c → (d : ChipRun W)
      × (slice_get (fold (with_flip model boot) chips flips) k ≡ Some d)
  there_after [] chips k c at = (c, at)
  there_after (flip ∷ flips) chips k c at =
      let now = changed_there chips k flip.chip (λ d. with_flips model d flip.page flip.bits) c at in
      there_after flips (with_flip model boot chips flip) k now.0 now.1

module _ {W : Type 0} (model : FaultModel W) (boot : Boot) (sizes : Command → Geometry) (course : Course W)
    (known : AllKnown course.chips) where
  advanced_known : (c : ChipRun W) (e : PageEvent) → is_none c.known ≡ false → is_none (advanced model c e).known ≡ false
  advanced_known c e h = by_known c.known h
    where
      by_known : (k : Option Known) → is_none k ≡ false → is_none (answered_by (record c { known = k }) (happens model c.chip (Complete e))
          (answer_to model c.chip e) k).known ≡ false
      by_known None i = cc
      by_known (Some x) i = refl

  torn_known : (c : ChipRun W) (e : PageEvent) (done : DoneBits) → is_none c.known ≡ false → is_none (torn_at model c e done).known ≡ false
  torn_known c e done h = by_known c.known h
    where
      by_known : (k : Option Known) → is_none k ≡ false → is_none (torn_by (record c { known = k }) (happens model c.chip (PowerCut e done)) k).known ≡ false
      by_known None i = cc
      by_known (Some x) i = refl

  -- the flips that are due leave each chip attached
  flipped_known : AllKnown (with_flips_before model boot (course.events + 1) course.chips)
  flipped_known = flips_known model boot (due_flips boot.flips (course.events + 1)) course.chips known

  flipped_there : (k : ℕ) (c : ChipRun W) → slice_get course.chips k ≡ Some c → (d : ChipRun W)
      × (slice_get (with_flips_before model boot (course.events + 1) course.chips) k ≡ Some d)
  flipped_there k c at = there_after model boot (due_flips boot.flips (course.events + 1)) course.chips k c at

  done_known : (k : ℕ) (now : ChipRun W) (e : PageEvent) (o : Option Tear) → slice_get (with_flips_before model boot (course.events + 1) course.chips) k
      ≡ Some now
      → AllKnown (event_done model boot course (with_flips_before model boot (course.events + 1) course.chips) k (course.events + 1) now e o).chips
  done_known k now e None at = known_change (with_flips_before model boot (course.events + 1) course.chips) k (λ old. advanced model now e) flipped_known
      (λ d there. advanced_known now e (flipped_known k now at))
  done_known k now e (Some tear) at = known_change (with_flips_before model boot (course.events + 1) course.chips) k
      (λ old. torn_at model now e (done_bits (raw_len now.chip.geometry) tear)) flipped_known
      (λ d there. torn_known now e (done_bits (raw_len now.chip.geometry) tear) (flipped_known k now at))

  finish_known : (k : ℕ) (c : ChipRun W) (session : ℕ) (o : Option Finished) → AllKnown (finish sizes course k c session o).chips
  finish_known k c session None = known
  finish_known k c session (Some finished) = known_change course.chips k _ known (λ d at. refl)

  answer_known : (k : ℕ) (c : ChipRun W) (x : Option Known) (p : Option Pending) → AllKnown (with_answer boot.partitions sizes course k c x p).chips
  answer_known k c None p = known
  answer_known k c (Some x) None = known
  answer_known k c (Some x) (Some pending) = finish_known k c pending.session (finished_by boot.partitions c x pending)

  next_known : (k : ℕ) (c : ChipRun W) (o : Option PageEvent) → slice_get course.chips k ≡ Some c
      → AllKnown (event_or_answer model boot sizes course k c o).chips
  next_known k c None at = answer_known k c c.known c.pending
  next_known k c (Some e) at =
      let now = flipped_there k c at in
      subst (λ (d : Course W). AllKnown d.chips) (sym (event_is model boot sizes course k now.0 e now.1))
      (done_known k now.0 e (tear_at boot.cut (course.events + 1)) now.1)

  chip_known : (k : ℕ) (o : Option (ChipRun W)) → slice_get course.chips k ≡ o → AllKnown (chip_step model boot sizes course k o).chips
  chip_known k None at = known
  chip_known k (Some c) at = next_known k c (next_chip_event boot.partitions c) at

  begin_on_known : (session k : ℕ) (op : Op) (o : Option (ChipRun W)) → AllKnown (begin_on model boot course session op k o).chips
  begin_on_known session k op None = known
  begin_on_known session k op (Some c) = by_pending (is_some c.pending)
    where
      by_pending : (b : Bool) → AllKnown (if b then course else began course session k op).chips
      by_pending true = known
      by_pending false = known_change course.chips k _ known (λ d at. known k d at)

  begin_at_known : (session : ℕ) (op : Op) (o : Option ℕ) → AllKnown (begin_at model boot course session op o).chips
  begin_at_known session op None = known
  begin_at_known session op (Some k) = begin_on_known session k op (slice_get course.chips k)

  begin_known : (session : ℕ) (o : Option Op) → AllKnown (begin_step model boot course session o).chips
  begin_known session None = known
  begin_known session (Some op) = begin_at_known session op (chip_of boot.partitions (device_of op))

  step_known : (session : ℕ) (o : Option ℕ) → AllKnown (session_step model boot sizes course session o).chips
  step_known session (Some k) = chip_known k (slice_get course.chips k) refl
  step_known session None = begin_known session (next_op sizes (session_run course session))

  turn_known : (session : ℕ) → AllKnown (turn_step model boot sizes course session).chips
  turn_known session = by_idle (is_idle boot.partitions sizes course session)
    where
      by_idle : (b : Bool) → AllKnown (turn_unless model boot b sizes course session).chips
      by_idle true = known
      by_idle false = step_known session (pending_chip course session)

-- a turn leaves all chips attached
pub stays_attached : {W : Type 0} (model : FaultModel W) (boot : Boot) (sizes : Command → Geometry) (course : Course W) (session : ℕ)
    → unattached course ≡ None → unattached (turn_step model boot sizes course session) ≡ None
stays_attached model boot sizes course session h = none_unattached (turn_step model boot sizes course session)
    (turn_known model boot sizes course (all_known course h) session)
