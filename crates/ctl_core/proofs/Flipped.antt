-- Flips change the states of chips alone.
use Rattle.std.proofs.Common.{◌≡◌, ◌⊎◌, inl, inr, ℕ, zero, suc, List, [], ◌∷◌, map, Option, Some, None, refl, ap, sym, ◌∙◌, subst}
use Rattle.std.specs.Prelude.{slice_get, fold, option_map}
use Rattle.std.proofs.lemmas.Bool.{cases_eq}
use Rattle.nand_model.specs.Flips.{FitsBits, due_flips}
use Rattle.nand_model.specs.declared.words.Flip.{Flip}
use Rattle.chip_paths.specs.Attach.{attach_path}
use Rattle.nand_model.specs.Chip.{FaultModel, flip_events}
use Rattle.chip_paths.specs.ChipRun.{progress_of, ChipRun, Pending, with_flips}
use Rattle.nand_model.specs.Partitions.{Partitions}
use Rattle.chip_paths.specs.Operation.{Known, operation_path}
use Rattle.nand_model.specs.Path.{after_answers}
use Rattle.command_model.specs.Boot.{Boot, change_at}
use Rattle.run_model.specs.Course.{with_flip, with_flips_before}
use Rattle.run_laws.proofs.Places.{change_here, change_elsewhere}
use Rattle.run_laws.proofs.Traces.{geometry_after}
use Rattle.chip_paths.specs.Stage.{Attaches, Works, stage_by}
use Rattle.session_steps.specs.declared.session.Session.{Session}
use Rattle.ctl_core.specs.Flips.{slot_with_flip, slot_flip, slot_flips_before, CanFlip}
use Rattle.ctl_core.specs.SlotState.{SlotState, slot_as, slots_as, holder_by}
use Rattle.ctl_core.specs.Sessions.{HoldersWait}
use Rattle.ctl_core.proofs.Sessions.{wait_on}

-- what is kept of a list whose items are all changed alike
mapped_change_all : {A B : Type 0} (f : A → B) (change : A → A) (then_change : B → B) (xs : List A) (k : ℕ) → ((x : A) → f (change x) ≡ then_change (f x))
    → map f (change_at xs k change) ≡ change_at (map f xs) k then_change
mapped_change_all f change then_change [] k h = refl
mapped_change_all f change then_change (x ∷ xs) zero h = ap (λ y. y ∷ map f xs) (h x)
mapped_change_all f change then_change (x ∷ xs) (suc k) h = ap (λ ys. f x ∷ ys) (mapped_change_all f change then_change xs k h)

-- a chip differs at most in its pages
pub record IsFlipped {W : Type 0} (old new : SlotState W) : Type 0 where
  pub stage : new.stage ≡ old.stage
  pub pending_note : new.pending_note ≡ old.pending_note
  pub holder : new.holder ≡ old.holder
  pub geometry : new.state.geometry ≡ old.state.geometry

module _ {W : Type 0} (model : FaultModel W) where
  -- a chip that is there is there after a flip
  flipped_once : (chips : List (SlotState W)) (flip : Flip) (k : ℕ) (x : SlotState W) → slice_get chips k ≡ Some x
      → (y : SlotState W) × (slice_get (slot_flip model chips flip) k ≡ Some y) × IsFlipped x y
  flipped_once chips flip k x at = by_case (cases_eq flip.chip k)
    where
      by_case : (flip.chip ≡ k) ⊎ (flip.chip ≡ k → ⊥) → (y : SlotState W) × (slice_get (slot_flip model chips flip) k ≡ Some y) × IsFlipped x y
      by_case (inl e) = (
        slot_with_flip model flip x,
        ap (λ j. slice_get (change_at chips j (slot_with_flip model flip)) k) e ∙ change_here chips k (slot_with_flip model flip)
            ∙ ap (option_map (slot_with_flip model flip)) at,
        record { stage = refl; pending_note = refl; holder = refl; geometry = geometry_after model x.state (flip_events flip.page flip.bits) },
      )
      by_case (inr n) = (
        x,
        change_elsewhere chips flip.chip k (slot_with_flip model flip) n
            ∙ at,
        record { stage = refl; pending_note = refl; holder = refl; geometry = refl },
      )

  flipped_by : (flips : List Flip) (chips : List (SlotState W)) (k : ℕ) (x : SlotState W) → slice_get chips k ≡ Some x
      → (y : SlotState W) × (slice_get (fold (slot_flip model) chips flips) k ≡ Some y) × IsFlipped x y
  flipped_by [] chips k x at = (x, at, record { stage = refl; pending_note = refl; holder = refl; geometry = refl })
  flipped_by (flip ∷ flips) chips k x at =
      let one = flipped_once chips flip k x at in
      let more = flipped_by flips (slot_flip model chips flip) k one.0 one.1 in (
        more.0,
        more.1,
        record {
          stage = more.2.stage ∙ one.2.stage;
          pending_note = more.2.pending_note ∙ one.2.pending_note;
          holder = more.2.holder ∙ one.2.holder;
          geometry = more.2.geometry ∙ one.2.geometry;
        },
      )

  -- a chip that is there is there after the flips that are due
  pub flipped_at : (flips : List Flip) (event : ℕ) (chips : List (SlotState W)) (k : ℕ) (x : SlotState W) → slice_get chips k ≡ Some x
      → (y : SlotState W) × (slice_get (slot_flips_before model flips event chips) k ≡ Some y) × IsFlipped x y
  flipped_at flips event chips k x at = flipped_by (due_flips flips event) chips k x at

  -- what can be flipped can be flipped after a flip
  pub can_still_flip : (chips : List (SlotState W)) (flip other : Flip) → CanFlip chips other → CanFlip (slot_flip model chips flip) other
  can_still_flip chips flip other (c, at, fits) =
      let now = flipped_once chips flip other.chip c at in
      (now.0, now.1, subst (λ g. FitsBits g other.page other.bits) (sym now.2.geometry) fits)

  wait_by : (flips : List Flip) (chips : List (SlotState W)) (sessions : List Session) → HoldersWait chips sessions
      → HoldersWait (fold (slot_flip model) chips flips) sessions
  wait_by [] chips sessions wait = wait
  wait_by (flip ∷ flips) chips sessions wait =
      wait_by flips (slot_flip model chips flip) sessions (wait_on chips sessions wait flip.chip (slot_with_flip model flip) (λ c. refl))

  -- sessions that hold chips wait as before
  pub wait_flipped : (flips : List Flip) (event : ℕ) (chips : List (SlotState W)) (sessions : List Session) → HoldersWait chips sessions
      → HoldersWait (slot_flips_before model flips event chips) sessions
  wait_flipped flips event chips sessions wait = wait_by (due_flips flips event) chips sessions wait

  module _ (partitions : Partitions) (boot : Boot) where
    stage_stays : (c : ChipRun W) (flip : Flip) (k : Option Known) (p : Option Pending) → stage_by partitions (with_flips model c flip.page flip.bits) k p
        ≡ stage_by partitions c k p
    stage_stays c flip None p = ap (λ g. Attaches (after_answers c.attach_answers (attach_path g)) c.quiet)
        (geometry_after model c.chip (flip_events flip.page flip.bits))
    stage_stays c flip (Some known) None = refl
    stage_stays c flip (Some known) (Some pending) =
        ap (λ g. Works known (progress_of pending.answers) (after_answers pending.answers (operation_path g partitions known pending.op)))
        (geometry_after model c.chip (flip_events flip.page flip.bits))

    slot_flipped : (c : ChipRun W) (flip : Flip) → slot_as partitions (with_flips model c flip.page flip.bits)
        ≡ slot_with_flip model flip (slot_as partitions c)
    slot_flipped c flip = λ j. record {
      state = (with_flips model c flip.page flip.bits).chip;
      stage = stage_stays c flip c.known c.pending j;
      pending_note = None;
      holder = holder_by c.known c.pending;
    }

    kept_by : (flips : List Flip) (chips : List (ChipRun W)) → slots_as partitions (fold (with_flip model boot) chips flips)
        ≡ fold (slot_flip model) (slots_as partitions chips) flips
    kept_by [] chips = refl
    kept_by (flip ∷ flips) chips =
        kept_by flips (with_flip model boot chips flip)
        ∙ ap (λ xs. fold (slot_flip model) xs flips)
        (mapped_change_all (slot_as partitions) (λ c. with_flips model c flip.page flip.bits) (slot_with_flip model flip) chips flip.chip
        (λ c. slot_flipped c flip))

    -- what is kept of the chips of a course after the flips that are due
    pub flips_kept : (event : ℕ) (chips : List (ChipRun W))
        → slots_as partitions (with_flips_before model boot event chips) ≡ slot_flips_before model boot.flips event (slots_as partitions chips)
    flips_kept event chips = kept_by (due_flips boot.flips event) chips
