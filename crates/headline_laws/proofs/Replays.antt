-- A plan has one replay, and replays of the boots of each controller make it.
use Rattle.std.proofs.Common.{◌≡◌, ◌≤◌, ◌<◌, ◌⊎◌, inl, inr, ◌+◌, ℕ, zero, suc, List, [], ◌∷◌, ◌++◌, length, map, get_or, Some, refl, ap, ap₂, sym, ◌∙◌, subst, subst₂, arith}
use Rattle.std.specs.Prelude.{slice_get, slice_index_or}
use Rattle.std.proofs.lemmas.Bool.{cases_lt}
use Rattle.std.proofs.lemmas.Option.{same_Some, slice_get-get_or, slice_get_within}
use Rattle.std.proofs.lemmas.List.{get_or-map, same_lists}
use Rattle.nand_model.specs.Chip.{ChipState, SimFaults, sim_faults}
use Rattle.nand_model.specs.Sizes.{numbers_from}
use Rattle.command_model.specs.Boot.{Boot}
use Rattle.run_model.specs.Course.{Course, IsWholeCourse, course_after, end_states, is_over}
use Rattle.run_model.specs.Run.{AreBoots}
use Rattle.plan_model.specs.Plan.{BootPlan, ChipPlan, PlanData, boot_part, new_chips}
use Rattle.headline_model.specs.Headline.{AreReplay, Courses, all_replay_turns, boot_parts, replay_turns, starts_at}
use Rattle.run_laws.specs.Replay.{IsReplayed, rounds_after, session_numbers}
use Rattle.run_laws.proofs.Once.{more_rounds, replayed_once}
use Rattle.headline_laws.specs.Replays.{AreReplaysOfAll, AreReplaysOfBoots, IsReplayOfBoot, own_schedule}
use Rattle.headline_laws.proofs.Numbers.{length-numbers, number_at}
use Rattle.headline_laws.proofs.Parts.{one_number}
use Rattle.headline_laws.proofs.Turns.{replay_turns-rounds}

-- the turns of a controller in a replay
turns_at : (plan : PlanData) (rounds c : ℕ) → c < length plan.controllers
    → slice_index_or (all_replay_turns plan rounds) c [] ≡ map (λ (boot : BootPlan). replay_turns boot rounds c) plan.boots
turns_at plan rounds c there =
    get_or-map (λ c. map (λ (boot : BootPlan). replay_turns boot rounds c) plan.boots) (numbers_from 0 (length plan.controllers)) c 0 []
    (let long = length-numbers 0 (length plan.controllers) in omega (arith, long, there))
    ∙ ap (λ c. map (λ (boot : BootPlan). replay_turns boot rounds c) plan.boots)
    (let e = number_at 0 (length plan.controllers) c 0 there in let f : 0 + c ≡ c = omega arith in e ∙ f)

-- where for each of finitely many things some number suffices, one suffices for all
one_for_all : (P : ℕ → ℕ → Type 0) (count : ℕ) → ((c : ℕ) → c < count → (m : ℕ) × ((n : ℕ) → m ≤ n → P c n))
    → (m : ℕ) × ((n : ℕ) → m ≤ n → (c : ℕ) → c < count → P c n)
one_for_all P zero each = (0, λ n le c there. absurd (omega (arith, there)))
one_for_all P (suc count) each = joined (one_for_all P count (λ c there. each c (omega (arith, there)))) (each count (omega arith))
  where
    joined : (m : ℕ) × ((n : ℕ) → m ≤ n → (c : ℕ) → c < count → P c n) → (m : ℕ) × ((n : ℕ) → m ≤ n → P count n)
        → (m : ℕ) × ((n : ℕ) → m ≤ n → (c : ℕ) → c < suc count → P c n)
    joined before last = (before.0 + last.0, λ n le c there. by_order n le c there (cases_lt c count))
      where
        by_order : (n : ℕ) → before.0 + last.0 ≤ n → (c : ℕ) → c < suc count → (c < count) ⊎ (count ≤ c) → P c n
        by_order n le c there (inl lt) = before.1 n (omega (arith, le)) c lt
        by_order n le c there (inr ge) = subst (λ k. P k n) (let e : count ≡ c = omega (arith, there, ge) in e) (last.1 n (omega (arith, le)))

module _ (plan : PlanData) (c : ℕ) (chips : List ChipPlan) where
  abbrev part : BootPlan → Boot
  part boot = boot_part plan c chips boot

  -- a replay of a boot, by the rounds of its own sessions
  pub as_replayed : (boot : BootPlan) (starts : List (ChipState SimFaults)) (course : Course SimFaults) → IsReplayOfBoot plan c chips boot starts course
      → IsReplayed sim_faults (part boot) starts (own_schedule boot c) course
  as_replayed boot starts course h = record {
    attaches = h.whole.attaches;
    rounds = h.rounds;
    steps = h.whole.steps ∙ ap (course_after sim_faults (part boot) starts h.whole.attaches) (replay_turns-rounds plan c chips boot h.rounds);
    over = h.whole.over;
  }

  pub of_replayed : (boot : BootPlan) (starts : List (ChipState SimFaults)) (course : Course SimFaults)
      → IsReplayed sim_faults (part boot) starts (own_schedule boot c) course → IsReplayOfBoot plan c chips boot starts course
  of_replayed boot starts course h = record {
    rounds = h.rounds;
    whole = record {
      attaches = h.attaches;
      steps = h.steps ∙ ap (course_after sim_faults (part boot) starts h.attaches) (sym (replay_turns-rounds plan c chips boot h.rounds));
      over = h.over;
    };
  }

  -- more rounds change nothing
  with_rounds : (boot : BootPlan) (starts : List (ChipState SimFaults)) (course : Course SimFaults) (h : IsReplayOfBoot plan c chips boot starts course)
      (rounds : ℕ) → h.rounds ≤ rounds → IsWholeCourse sim_faults (part boot) starts (replay_turns boot rounds c) course
  with_rounds boot starts course h rounds le = record {
    attaches = h.whole.attaches;
    steps = steps ∙ sym (more_rounds sim_faults (part boot) starts (one_number plan c chips boot) h.whole.attaches (own_schedule boot c) h.rounds rounds
        (ap is_over (sym steps) ∙ h.whole.over) le)
        ∙ ap (course_after sim_faults (part boot) starts h.whole.attaches) (sym (replay_turns-rounds plan c chips boot rounds));
    over = h.whole.over;
  }
    where
      steps : course ≡ course_after sim_faults (part boot) starts h.whole.attaches
          (rounds_after (own_schedule boot c) (session_numbers (part boot)) h.rounds)
      steps = h.whole.steps ∙ ap (course_after sim_faults (part boot) starts h.whole.attaches) (replay_turns-rounds plan c chips boot h.rounds)

  -- the boots of a controller have one replay
  boots_once : (boots : List BootPlan) (starts : List (ChipState SimFaults)) (own other : List (Course SimFaults))
      → AreReplaysOfBoots plan c chips starts boots own → AreReplaysOfBoots plan c chips starts boots other → other ≡ own
  boots_once [] starts [] [] h g = refl
  boots_once [] starts [] (y ∷ ys) h g = absurd g
  boots_once [] starts (x ∷ xs) other h g = absurd h
  boots_once (boot ∷ boots) starts [] other h g = absurd h
  boots_once (boot ∷ boots) starts (x ∷ xs) [] h g = absurd g
  boots_once (boot ∷ boots) starts (x ∷ xs) (y ∷ ys) h g =
      ap₂ (λ z zs. z ∷ zs) same (boots_once boots (end_states x) xs ys h.1
      (subst (λ (z : Course SimFaults). AreReplaysOfBoots plan c chips (end_states z) boots ys) same g.1))
    where
      same : y ≡ x
      same = replayed_once sim_faults (part boot) starts (one_number plan c chips boot) (own_schedule boot c) x y
          (as_replayed boot starts x h.0) (as_replayed boot starts y g.0)

  of_boots : (rounds : ℕ) (boots : List BootPlan) (starts : List (ChipState SimFaults)) (own : List (Course SimFaults))
      → AreBoots sim_faults starts (map part boots) (map (λ (boot : BootPlan). replay_turns boot rounds c) boots) own
      → AreReplaysOfBoots plan c chips starts boots own
  of_boots rounds [] starts [] h = tt
  of_boots rounds [] starts (x ∷ xs) h = absurd h
  of_boots rounds (boot ∷ boots) starts [] h = absurd h
  of_boots rounds (boot ∷ boots) starts (x ∷ xs) h = (record { rounds = rounds; whole = h.0 }, of_boots rounds boots (end_states x) xs h.1)

  -- and from some number of rounds on each serves all its boots
  to_boots : (boots : List BootPlan) (starts : List (ChipState SimFaults)) (own : List (Course SimFaults)) → AreReplaysOfBoots plan c chips starts boots own
      → (m : ℕ) × ((rounds : ℕ) → m ≤ rounds
      → AreBoots sim_faults starts (map part boots) (map (λ (boot : BootPlan). replay_turns boot rounds c) boots) own)
  to_boots [] starts [] h = (0, λ rounds le. tt)
  to_boots [] starts (x ∷ xs) h = absurd h
  to_boots (boot ∷ boots) starts [] h = absurd h
  to_boots (boot ∷ boots) starts (x ∷ xs) h =
      let later = to_boots boots (end_states x) xs h.1 in (
        h.0.rounds + later.0,
        λ rounds le. (with_rounds boot starts x h.0 rounds (omega (arith, le)), later.1 rounds (omega (arith, le))),
      )

  -- one boot more, from the states that the others left
  pub one_boot_more : (boots : List BootPlan) (starts : List (ChipState SimFaults)) (own : List (Course SimFaults)) (boot : BootPlan) (course : Course SimFaults)
      → AreReplaysOfBoots plan c chips starts boots own → IsReplayOfBoot plan c chips boot (starts_at starts own (length boots)) course
      → AreReplaysOfBoots plan c chips starts (boots ++ boot ∷ []) (own ++ course ∷ [])
  one_boot_more [] starts [] boot course h last = (last, tt)
  one_boot_more [] starts (x ∷ xs) boot course h last = absurd h
  one_boot_more (b ∷ boots) starts [] boot course h last = absurd h
  one_boot_more (b ∷ boots) starts (x ∷ xs) boot course h last = (h.0, one_boot_more boots (end_states x) xs boot course h.1 last)

-- a replay of a plan is one of the boots of each controller
of_replay : (plan : PlanData) (courses : Courses) → AreReplay plan courses → AreReplaysOfAll plan courses
of_replay plan courses h = record {
  controllers = h.run.controllers;
  boots = λ c chips own is_chips is_own.
      of_boots plan c chips h.rounds plan.boots (new_chips chips) own
      (subst (λ turns. AreBoots sim_faults (new_chips chips) (boot_parts plan c chips) turns own)
      (turns_at plan h.rounds c (slice_get_within plan.controllers c chips is_chips)) (h.run.boots c chips own is_chips is_own));
}

-- the boots of all controllers have one replay
all_once : (plan : PlanData) (courses other : Courses) → AreReplaysOfAll plan courses → AreReplaysOfAll plan other → other ≡ courses
all_once plan courses other h g =
    same_lists other courses (g.controllers ∙ sym h.controllers) (λ c d there. at c d there)
  where
    at : (c : ℕ) (d : List (Course SimFaults)) → c < length other → get_or other c d ≡ get_or courses c d
    at c d there =
        let many = h.controllers in
        let also = g.controllers in
        let chips = slice_get-get_or plan.controllers c [] (omega (arith, many, also, there)) in
        boots_once plan c (get_or plan.controllers c []) plan.boots (new_chips (get_or plan.controllers c [])) (get_or courses c d) (get_or other c d)
        (h.boots c (get_or plan.controllers c []) (get_or courses c d) chips (slice_get-get_or courses c d (omega (arith, many, also, there))))
        (g.boots c (get_or plan.controllers c []) (get_or other c d) chips (slice_get-get_or other c d there))

pub only_replay : (plan : PlanData) (courses other : Courses) → AreReplay plan courses → AreReplay plan other → other ≡ courses
only_replay plan courses other h g = all_once plan courses other (of_replay plan courses h) (of_replay plan other g)

-- replays of the boots of each controller are a replay of the plan
pub replays_joined : (plan : PlanData) (courses : Courses) → AreReplaysOfAll plan courses → AreReplay plan courses
replays_joined plan courses h = joined (one_for_all Serves (length plan.controllers) each)
  where
    Serves : ℕ → ℕ → Type 0
    Serves c rounds = (chips : List ChipPlan) (own : List (Course SimFaults)) → slice_get plan.controllers c ≡ Some chips → slice_get courses c ≡ Some own
        → AreBoots sim_faults (new_chips chips) (boot_parts plan c chips) (map (λ (boot : BootPlan). replay_turns boot rounds c) plan.boots) own

    each : (c : ℕ) → c < length plan.controllers → (m : ℕ) × ((rounds : ℕ) → m ≤ rounds → Serves c rounds)
    each c there =
        let many = h.controllers in
        let chips_at = slice_get-get_or plan.controllers c [] there in
        let own_at = slice_get-get_or courses c [] (omega (arith, many, there)) in
        let enough = to_boots plan c (get_or plan.controllers c []) plan.boots (new_chips (get_or plan.controllers c [])) (get_or courses c [])
        (h.boots c (get_or plan.controllers c []) (get_or courses c []) chips_at own_at) in (
          enough.0,
          λ rounds le chips own is_chips is_own.
              subst₂ (λ cs os. AreBoots sim_faults (new_chips cs) (boot_parts plan c cs) (map (λ (boot : BootPlan). replay_turns boot rounds c) plan.boots) os)
              (same_Some (get_or plan.controllers c []) chips (sym chips_at ∙ is_chips)) (same_Some (get_or courses c []) own (sym own_at ∙ is_own))
              (enough.1 rounds le),
        )

    joined : (m : ℕ) × ((rounds : ℕ) → m ≤ rounds → (c : ℕ) → c < length plan.controllers → Serves c rounds) → AreReplay plan courses
    joined all = record {
      rounds = all.0;
      run = record {
        controllers = h.controllers;
        boots = λ c chips own is_chips is_own.
            let there = slice_get_within plan.controllers c chips is_chips in
            subst (λ turns. AreBoots sim_faults (new_chips chips) (boot_parts plan c chips) turns own) (sym (turns_at plan all.0 c there))
            (all.1 all.0 (omega arith) c there chips own is_chips is_own);
      };
    }
