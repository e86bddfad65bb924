-- The histories of a legal run of a plan: those of each controller over all its boots.
use Rattle.std.proofs.Common.{◌≡◌, ℕ, zero, suc, false, List, [], ◌∷◌, map, Some, subst}
use Rattle.std.specs.Prelude.{slice_get, slice_index_or}
use Rattle.std.specs.List.{AllZip}
use Rattle.std.proofs.lemmas.Option.{none-some, same_Some}
use Rattle.nand_model.specs.declared.words.Note.{Note}
use Rattle.nand_model.specs.Chip.{ChipState, SimFaults, new_chip, sim_faults}
use Rattle.command_model.specs.Boot.{Boot}
use Rattle.run_model.specs.Course.{Course}
use Rattle.run_model.specs.Run.{AreBoots, AreComplete, AreInOrder, HaveOneNumberEach}
use Rattle.read_laws.specs.Fresh.{IsFresh}
use Rattle.read_laws.specs.Laws.{RunsReadBack}
use Rattle.read_laws.proofs.Filled.{new_fresh}
use Rattle.read_laws.proofs.Lives.{run_reads}
use Rattle.plan_model.specs.Plan.{BootPlan, ChipPlan, PlanData, boot_part, devices_of, new_chips}
use Rattle.headline_model.specs.Headline.{AreTrueHistories, Courses, IsRun, IsTrueHistory, boot_parts}
use Rattle.headline_laws.proofs.Parts.{one_number, same_devices}

-- the new chips of a plan are fresh
chips_fresh : (chips : List ChipPlan) (k : ℕ) (s : ChipState SimFaults) → slice_get (new_chips chips) k ≡ Some s → IsFresh s
chips_fresh [] k s h = absurd (none-some s h)
chips_fresh (chip ∷ chips) zero s h =
    subst IsFresh (same_Some (new_chip chip.geometry chip.bad chip.weak) s h) (new_fresh chip.geometry chip.bad)
chips_fresh (chip ∷ chips) (suc k) s h = chips_fresh chips k s h

module _ (plan : PlanData) (c : ℕ) (chips : List ChipPlan) where
  abbrev notes_of : List (Course SimFaults) → List (List Note)
  notes_of own = map (λ (course : Course SimFaults). course.notes) own

  -- what holds of boots whose sessions have one number each holds of the boots of a plan
  in_order : (boots : List BootPlan) (own : List (Course SimFaults))
      → AllZip (λ (boot : Boot) notes. HaveOneNumberEach boot.sessions → AreInOrder boot (new_chips chips) notes)
      (map (boot_part plan c chips) boots) (notes_of own)
      → AllZip (λ boot (course : Course SimFaults). AreInOrder boot (new_chips chips) course.notes) (map (boot_part plan c chips) boots) own
  in_order [] [] h = tt
  in_order [] (course ∷ own) h = absurd h
  in_order (boot ∷ boots) [] h = absurd h
  in_order (boot ∷ boots) (course ∷ own) h = (h.0 (one_number plan c chips boot), in_order boots own h.1)

  complete : (boots : List BootPlan) (own : List (Course SimFaults))
      → AllZip (λ (boot : Boot) (course : Course SimFaults). HaveOneNumberEach boot.sessions → course.dark ≡ false
      → AreComplete boot (new_chips chips) course.notes) (map (boot_part plan c chips) boots) own
      → AllZip (λ boot (course : Course SimFaults). course.dark ≡ false → AreComplete boot (new_chips chips) course.notes)
      (map (boot_part plan c chips) boots) own
  complete [] [] h = tt
  complete [] (course ∷ own) h = absurd h
  complete (boot ∷ boots) [] h = absurd h
  complete (boot ∷ boots) (course ∷ own) h = (h.0 (one_number plan c chips boot), complete boots own h.1)

  -- a controller's courses, whatever its turns
  pub true_history : (turns : List (List ℕ)) (own : List (Course SimFaults))
      → AreBoots sim_faults (new_chips chips) (boot_parts plan c chips) turns own → IsTrueHistory plan c chips own
  true_history turns own runs = record {
    lives = read.faithful.lives;
    history = record {
      logs = read.faithful.logs;
      counted = read.faithful.counted;
      of_logs = read.faithful.of_logs;
      one_thread = read.faithful.one_thread;
      in_order = in_order plan.boots own read.faithful.in_order;
      complete = complete plan.boots own read.faithful.complete;
    };
    reads_back = λ k s life at has. read.reads_back k s life at (chips_fresh chips k s at) has;
  }
    where
      read : RunsReadBack sim_faults (devices_of plan c chips) (new_chips chips) (boot_parts plan c chips) own
      read = run_reads sim_faults (devices_of plan c chips) (new_chips chips) (boot_parts plan c chips) turns own (same_devices plan c chips) runs

-- every legal run of a plan has true histories
pub run_histories : (plan : PlanData) (turns : List (List (List ℕ))) (courses : Courses) → IsRun plan turns courses
    → AreTrueHistories plan courses
run_histories plan turns courses run c chips own is_chips is_own =
    true_history plan c chips (slice_index_or turns c []) own (run.boots c chips own is_chips is_own)
