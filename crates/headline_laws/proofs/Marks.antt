-- The marks of a legal run of a plan: they survive in each chip of each controller, over all boots.
use Rattle.std.proofs.Common.{◌≡◌, ℕ, zero, suc, List, [], ◌∷◌, map, take, Some, refl, ap, sym, ◌∙◌, subst, arith}
use Rattle.std.specs.Prelude.{slice_get, slice_index_or, option_map, Contains}
use Rattle.std.specs.List.{AllZip}
use Rattle.std.proofs.lemmas.Option.{none-some, same_Some, slice_get-map}
use Rattle.nand_model.specs.Chip.{ChipState, SimFaults, after_trace, new_chip, sim_faults}
use Rattle.nand_model.specs.Partitions.{Partitions}
use Rattle.nand_model.specs.declared.geometry.Geometry.{Geometry}
use Rattle.command_model.specs.Boot.{Boot}
use Rattle.run_model.specs.Course.{Course, course_after, end_states}
use Rattle.run_model.specs.History.{notes_of_chip, trace_of}
use Rattle.run_model.specs.Run.{AreBoots, AreInOrder, OneCopyStays, WholeCopiesHoldTheTable}
use Rattle.run_laws.proofs.Faithful.{faithful}
use Rattle.run_laws.proofs.Traces.{geometry_after}
use Rattle.crash_laws.specs.Marked.{WritesFill}
use Rattle.crash_laws.specs.Theorem.{IsNextBoot, IsRunOfNewChip, ends_of}
use Rattle.crash_laws.proofs.Boots.{boot_of}
use Rattle.crash_laws.proofs.Copies.{one_copy_stays, whole_copies_hold}
use Rattle.crash_laws.proofs.Survival.{marks_survive_runs}
use Rattle.plan_model.specs.Plan.{BootPlan, ChipPlan, PlanData, boot_part, devices_of, new_chips}
use Rattle.headline_model.specs.Headline.{Courses, IsRun, KeepMarks, KeepsMarks, boot_parts, starts_at}
use Rattle.headline_laws.proofs.Fills.{notes_fill}
use Rattle.headline_laws.proofs.Histories.{true_history}
use Rattle.headline_laws.proofs.Parts.{one_number, same_devices}

-- the first boots of a run are a run
first_boots_run : (starts : List (ChipState SimFaults)) (boots : List Boot) (turns : List (List ℕ)) (courses : List (Course SimFaults)) (n : ℕ)
    → AreBoots sim_faults starts boots turns courses → AreBoots sim_faults starts (take n boots) (take n turns) (take n courses)
first_boots_run starts boots turns courses zero h = tt
first_boots_run starts [] [] [] (suc n) h = tt
first_boots_run starts [] [] (x ∷ xs) (suc n) h = absurd h
first_boots_run starts [] (t ∷ ts) courses (suc n) h = absurd h
first_boots_run starts (b ∷ bs) [] courses (suc n) h = absurd h
first_boots_run starts (b ∷ bs) (t ∷ ts) [] (suc n) h = absurd h
first_boots_run starts (b ∷ bs) (t ∷ ts) (x ∷ xs) (suc n) h = (h.0, first_boots_run (end_states x) bs ts xs n h.1)

-- and the next one begins where they end
ends-starts : (starts : List (ChipState SimFaults)) (courses : List (Course SimFaults)) (n : ℕ) → ends_of starts (take n courses) ≡ starts_at starts courses n
ends-starts starts courses zero = refl
ends-starts starts [] (suc n) = refl
ends-starts starts (x ∷ xs) (suc n) = ends-starts (end_states x) xs n

-- an item of the first ones is an item
of_first : {A : Type 0} (xs : List A) (n : ℕ) (x : A) → Contains (take n xs) x → Contains xs x
of_first xs zero x has = absurd (omega (arith, has.1))
of_first [] (suc n) x has = absurd (omega (arith, has.1))
of_first (y ∷ ys) (suc n) x (zero, within, is) = (0, omega arith, is)
of_first (y ∷ ys) (suc n) x (suc i, within, is) = let later = of_first ys n x (i, omega (arith, within), is) in (suc later.0, (let l = later.1 in omega (arith, l)), later.2)

-- a chip of a controller is there in each boot, with its geometry
pub record IsThereAt (starts : List (ChipState SimFaults)) (k : ℕ) (g : Geometry) : Type 0 where
  pub chip : ChipState SimFaults
  pub at : slice_get starts k ≡ Some chip
  pub sized : chip.geometry ≡ g

stays_there : (boots : List Boot) (turns : List (List ℕ)) (courses : List (Course SimFaults)) (starts : List (ChipState SimFaults)) (n k : ℕ) (g : Geometry)
    → AreBoots sim_faults starts boots turns courses → IsThereAt starts k g → IsThereAt (starts_at starts courses n) k g
stays_there boots turns courses starts zero k g h there = there
stays_there boots turns [] starts (suc n) k g h there = there
stays_there [] turns (x ∷ xs) starts (suc n) k g h there = absurd (no_boots turns h)
  where
    no_boots : (turns : List (List ℕ)) → AreBoots sim_faults starts [] turns (x ∷ xs) → ⊥
    no_boots [] h = h
    no_boots (t ∷ ts) h = h
stays_there (b ∷ bs) [] (x ∷ xs) starts (suc n) k g h there = absurd h
stays_there (b ∷ bs) (t ∷ ts) (x ∷ xs) starts (suc n) k g h there =
    let boot = boot_of sim_faults b starts t x h.0 k there.chip there.at in
    stays_there bs ts xs (end_states x) n k g h.1
    (record { chip = after_trace sim_faults there.chip (trace_of boot.life); at = boot.next; sized = geometry_after sim_faults there.chip (trace_of boot.life) ∙ there.sized })

module _ (plan : PlanData) (c : ℕ) (chips : List ChipPlan) where
  abbrev devices : Partitions
  devices = devices_of plan c chips

  -- a chip of the plan is new at first
  is_new : (k : ℕ) (chip : ChipPlan) → slice_get chips k ≡ Some chip
      → slice_get (new_chips chips) k ≡ Some (new_chip chip.geometry chip.bad chip.weak)
  is_new k chip at =
      slice_get-map (λ (x : ChipPlan). new_chip x.geometry x.bad x.weak) chips k ∙ ap (option_map (λ (x : ChipPlan). new_chip x.geometry x.bad x.weak)) at

  -- each course among those of the boots has its operations in order
  at_course : (k : ℕ) (g : Geometry) (there : IsThereAt (new_chips chips) k g) (boots : List BootPlan) (own : List (Course SimFaults))
      → AllZip (λ boot (course : Course SimFaults). AreInOrder boot (new_chips chips) course.notes) (map (boot_part plan c chips) boots) own
      → (course : Course SimFaults) → Contains own course → WritesFill g (notes_of_chip devices k course.notes)
  at_course k g there [] [] h course has = absurd (omega (arith, has.1))
  at_course k g there [] (x ∷ xs) h course has = absurd h
  at_course k g there (boot ∷ boots) [] h course has = absurd h
  at_course k g there (boot ∷ boots) (x ∷ xs) h course (zero, within, is) =
      subst (λ (y : Course SimFaults). WritesFill g (notes_of_chip devices k y.notes)) is
      (subst (λ q. WritesFill q (notes_of_chip devices k x.notes)) there.sized
      (notes_fill (boot_part plan c chips boot) (new_chips chips) x.notes h.0 k there.chip there.at))
  at_course k g there (boot ∷ boots) (x ∷ xs) h course (suc n, within, is) = at_course k g there boots xs h.1 course (n, omega (arith, within), is)

  module _ (turns : List (List ℕ)) (own : List (Course SimFaults)) (runs : AreBoots sim_faults (new_chips chips) (boot_parts plan c chips) turns own) where
    module _ (k : ℕ) (chip : ChipPlan) (at : slice_get chips k ≡ Some chip) where
      there : IsThereAt (new_chips chips) k chip.geometry
      there = record { chip = new_chip chip.geometry chip.bad chip.weak; at = is_new k chip at; sized = refl }

      whole_run : IsRunOfNewChip devices (new_chips chips) (boot_parts plan c chips) turns own k chip.geometry chip.bad chip.weak
      whole_run = record {
        one_list = same_devices plan c chips;
        runs = runs;
        new = is_new k chip at;
        fills = at_course k chip.geometry there plan.boots own (true_history plan c chips turns own runs).history.in_order;
      }

      -- the boots before one
      past_run : (n : ℕ) → IsRunOfNewChip devices (new_chips chips) (take n (boot_parts plan c chips)) (take n turns) (take n own) k chip.geometry chip.bad chip.weak
      past_run n = record {
        one_list = λ boot has. whole_run.one_list boot (of_first (boot_parts plan c chips) n boot has);
        runs = first_boots_run (new_chips chips) (boot_parts plan c chips) turns own n runs;
        new = whole_run.new;
        fills = λ course has. whole_run.fills course (of_first own n course has);
      }

      -- and the boot itself
      next_boot : (n : ℕ) (boot : BootPlan) → IsNextBoot devices k chip.geometry (boot_part plan c chips boot) (ends_of (new_chips chips) (take n own))
      next_boot n boot = record {
        one_list = refl;
        fills = λ attaches taken.
            subst (λ q. WritesFill q (notes_of_chip devices k (course_after sim_faults (boot_part plan c chips boot) starts attaches taken).notes)) here.sized
            (notes_fill (boot_part plan c chips boot) starts (course_after sim_faults (boot_part plan c chips boot) starts attaches taken).notes
            ((faithful sim_faults (boot_part plan c chips boot) starts attaches taken).in_order (one_number plan c chips boot)) k here.chip here.at);
      }
        where
          starts : List (ChipState SimFaults)
          starts = ends_of (new_chips chips) (take n own)

          here : IsThereAt starts k chip.geometry
          here = subst (λ s. IsThereAt s k chip.geometry) (sym (ends-starts (new_chips chips) own n))
              (stays_there (boot_parts plan c chips) turns own (new_chips chips) n k chip.geometry runs there)

      copies_stay : (n : ℕ) (boot : BootPlan) → OneCopyStays sim_faults k chip.geometry chip.bad (take n own) (boot_part plan c chips boot) (starts_at (new_chips chips) own n)
      copies_stay n boot =
          subst (OneCopyStays sim_faults k chip.geometry chip.bad (take n own) (boot_part plan c chips boot)) (ends-starts (new_chips chips) own n)
          (one_copy_stays devices (new_chips chips) (take n (boot_parts plan c chips)) (take n turns) (take n own) (boot_part plan c chips boot) k
          chip.geometry chip.bad chip.weak (past_run n) (next_boot n boot))

      copies_hold : (n : ℕ) (boot : BootPlan) → WholeCopiesHoldTheTable sim_faults k chip.geometry chip.bad (take n own) (boot_part plan c chips boot) (starts_at (new_chips chips) own n)
      copies_hold n boot =
          subst (WholeCopiesHoldTheTable sim_faults k chip.geometry chip.bad (take n own) (boot_part plan c chips boot)) (ends-starts (new_chips chips) own n)
          (whole_copies_hold devices (new_chips chips) (take n (boot_parts plan c chips)) (take n turns) (take n own) (boot_part plan c chips boot) k
          chip.geometry chip.bad chip.weak (past_run n) (next_boot n boot))

    -- a boot of a controller is its part of a boot of the plan
    boot_there : (boots : List BootPlan) (n : ℕ) (boot : Boot) → slice_get (map (boot_part plan c chips) boots) n ≡ Some boot
        → (b : BootPlan) × (boot_part plan c chips b ≡ boot)
    boot_there [] n boot at = absurd (none-some boot at)
    boot_there (b ∷ boots) zero boot at = (b, same_Some (boot_part plan c chips b) boot at)
    boot_there (b ∷ boots) (suc n) boot at = boot_there boots n boot at

    keeps_marks : KeepsMarks plan c chips own
    keeps_marks = record {
      marks = λ k chip at. marks_survive_runs devices (new_chips chips) (boot_parts plan c chips) turns own k chip.geometry chip.bad chip.weak (whole_run k chip at);
      copies_stay = λ k n chip boot at is_boot.
          let b = boot_there plan.boots n boot is_boot in
          subst (λ x. OneCopyStays sim_faults k chip.geometry chip.bad (take n own) x (starts_at (new_chips chips) own n)) b.1 (copies_stay k chip at n b.0);
      copies_hold = λ k n chip boot at is_boot.
          let b = boot_there plan.boots n boot is_boot in
          subst (λ x. WholeCopiesHoldTheTable sim_faults k chip.geometry chip.bad (take n own) x (starts_at (new_chips chips) own n)) b.1 (copies_hold k chip at n b.0);
    }

-- every legal run of a plan keeps its marks
pub run_marks : (plan : PlanData) (turns : List (List (List ℕ))) (courses : Courses) → IsRun plan turns courses → KeepMarks plan courses
run_marks plan turns courses run c chips own is_chips is_own =
    keeps_marks plan c chips (slice_index_or turns c []) own (run.boots c chips own is_chips is_own)
