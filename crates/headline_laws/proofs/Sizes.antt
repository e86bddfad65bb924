-- Each boot of a run begins with chips of the same sizes.
use Rattle.std.proofs.Common.{◌≡◌, ℕ, zero, suc, List, [], ◌∷◌, map, Option, Some, None, refl, ap, sym, ◌∙◌, subst}
use Rattle.std.specs.Prelude.{slice_get, option_map}
use Rattle.std.proofs.lemmas.Option.{none-some, same_Some, slice_get-map}
use Rattle.nand_model.specs.Chip.{ChipState, FaultModel, SimFaults, sim_faults}
use Rattle.nand_model.specs.declared.geometry.Geometry.{Geometry}
use Rattle.chip_paths.specs.ChipRun.{ChipRun}
use Rattle.command_model.specs.Boot.{Boot}
use Rattle.run_model.specs.Course.{Course, IsWholeCourse, end_states}
use Rattle.run_model.specs.History.{events_in, notes_of_chip}
use Rattle.run_laws.proofs.Courses.{AtPlace, EndOf, Holds, by_log}
use Rattle.run_laws.proofs.Faithful.{course_holds, log_of}
use Rattle.run_laws.proofs.Traces.{geometry_after}
use Rattle.plan_model.specs.Plan.{BootPlan, ChipPlan, PlanData, boot_part, new_chips}
use Rattle.headline_model.specs.Headline.{replay_turns, starts_at}
use Rattle.headline_laws.specs.Replays.{AreReplaysOfBoots}

-- the sizes of these chips
abbrev pub sizes_of_chips : {W : Type 0} → List (ChipState W) → List Geometry
sizes_of_chips {W} chips = map (λ (s : ChipState W). s.geometry) chips

-- lists with alike items at the same places have the same map
same_map : {A B : Type 0} (f : A → B) (xs ys : List A) → ((k : ℕ) → option_map f (slice_get xs k) ≡ option_map f (slice_get ys k)) → map f xs ≡ map f ys
same_map f [] [] h = refl
same_map f [] (y ∷ ys) h = absurd (none-some (f y) (h zero))
same_map f (x ∷ xs) [] h = absurd (none-some (f x) (sym (h zero)))
same_map f (x ∷ xs) (y ∷ ys) h =
    ap (λ z. z ∷ map f xs) (same_Some (f x) (f y) (h zero)) ∙ ap (λ zs. f y ∷ zs) (same_map f xs ys (λ k. h (suc k)))

module _ {W : Type 0} (model : FaultModel W) (boot : Boot) (starts : List (ChipState W)) where
  course_keeps_sizes : (course : Course W) → Holds model boot starts course → sizes_of_chips (end_states course) ≡ sizes_of_chips starts
  course_keeps_sizes course h =
      same_map (λ (s : ChipState W). s.geometry) (end_states course) starts
      (λ k. at k (slice_get starts k) (slice_get course.chips k) (slice_get-map (λ (c : ChipRun W). c.chip) course.chips k)
      ((log_of model boot starts course h).2 k))
    where
      at : (k : ℕ) (os : Option (ChipState W)) (oc : Option (ChipRun W)) → slice_get (end_states course) k ≡ option_map (λ (c : ChipRun W). c.chip) oc
          → AtPlace (EndOf model boot starts (by_log model boot starts (log_of model boot starts course h).0) k) (notes_of_chip boot.partitions k course.notes) os oc
          → option_map (λ (s : ChipState W). s.geometry) (slice_get (end_states course) k) ≡ option_map (λ (s : ChipState W). s.geometry) os
      at k None None e a = ap (option_map (λ (s : ChipState W). s.geometry)) e
      at k None (Some c) e a = absurd a
      at k (Some s) None e a = absurd a
      at k (Some s) (Some c) e a =
          ap (option_map (λ (s : ChipState W). s.geometry)) e
          ∙ ap Some (ap (λ (z : ChipState W). z.geometry) a.now_is
          ∙ geometry_after model s (events_in (by_log model boot starts (log_of model boot starts course h).0 k s)))

  pub whole_keeps_sizes : (turns : List ℕ) (course : Course W) → IsWholeCourse model boot starts turns course → sizes_of_chips (end_states course) ≡ sizes_of_chips starts
  whole_keeps_sizes turns course whole =
      course_keeps_sizes course (subst (Holds model boot starts) (sym whole.steps) (course_holds model boot starts whole.attaches turns))

module _ (plan : PlanData) (c : ℕ) (chips : List ChipPlan) where
  boots_keep_sizes : (boots : List BootPlan) (starts : List (ChipState SimFaults)) (own : List (Course SimFaults)) (n : ℕ)
      → AreReplaysOfBoots plan c chips starts boots own → sizes_of_chips (starts_at starts own n) ≡ sizes_of_chips starts
  boots_keep_sizes boots starts own zero h = refl
  boots_keep_sizes boots starts [] (suc n) h = refl
  boots_keep_sizes [] starts (x ∷ xs) (suc n) h = absurd h
  boots_keep_sizes (boot ∷ boots) starts (x ∷ xs) (suc n) h =
      boots_keep_sizes boots (end_states x) xs n h.1
      ∙ whole_keeps_sizes sim_faults (boot_part plan c chips boot) starts (replay_turns boot h.0.rounds c) x h.0.whole

new_sizes : (chips : List ChipPlan) → sizes_of_chips (new_chips chips) ≡ map (λ (chip : ChipPlan). chip.geometry) chips
new_sizes [] = refl
new_sizes (chip ∷ chips) = ap (λ sizes. chip.geometry ∷ sizes) (new_sizes chips)

-- each boot of a replay begins with chips of the plan's sizes
pub plan_sizes : (plan : PlanData) (c : ℕ) (chips : List ChipPlan) (boots : List BootPlan) (own : List (Course SimFaults)) (n : ℕ)
    → AreReplaysOfBoots plan c chips (new_chips chips) boots own
    → map (λ (s : ChipState SimFaults). s.geometry) (starts_at (new_chips chips) own n) ≡ map (λ (chip : ChipPlan). chip.geometry) chips
plan_sizes plan c chips boots own n h = boots_keep_sizes plan c chips boots (new_chips chips) own n h ∙ new_sizes chips
