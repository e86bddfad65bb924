-- All controllers go through a boot, and what they answer is added up.
use Rattle.std.proofs.Common.{◌≡◌, ◌<◌, ◌≤◌, ◌+◌, ◌*◌, ◌^◌, ℕ, List, [], ◌∷◌, ◌++◌, length, map, refl, ap, sym, ◌∙◌, subst, arith, append_assoc, append-nil, length-append}
use Rattle.std.specs.Prelude.{flat_map}
use Rattle.std.proofs.lemmas.Grind.{flat_map-append}
use Rattle.std.proofs.lemmas.List.{length-map, map_push}
use Rattle.std.proofs.lemmas.List.Sums.{sum_by_push}
use Rattle.nand_model.specs.Chip.{ChipState, SimFaults}
use Rattle.nand_model.specs.declared.words.Note.{Note}
use Rattle.run_model.specs.Course.{Course}
use Rattle.onfi_bus.specs.Lab.{lab_state}
use Rattle.plan_model.specs.Plan.{PlanData}
use Rattle.plan_laws.specs.Ready.{HaveSizes, boot_at, chips_at}
use Rattle.report_model.specs.Report.{boot_text}
use Rattle.made_plan.specs.Summary.{sums_of}
use Rattle.made_plan.specs.declared.summary.Sums.{Sums}
use Rattle.plan_replay.specs.declared.controller.EndedController.{EndedController}
use Rattle.plan_replay.specs.Ends.{notes_text}
use Rattle.plan_replay.specs.Boots.{AllHaveSizes, EndsBoot, GoThroughBoot, Through, ends_of, notes_of, states_left}
use Rattle.plan_replay.proofs.Through.{AreOnTheWay, all_through, next_sizes, next_there, next_through, none_through}
use Rattle.made_replay.specs.AddedUp.{AddsUpBoot, bad_left, notes_joined}

-- the states of all controllers' chips
abbrev pub States : Type 0
States = List (List (ChipState SimFaults))

-- some controllers went through a boot and left these states, and these begin it next
pub record IsOnTheWay (plan : PlanData) (n : ℕ) (starts rest left : States) (before sums : Sums) (bad : ℕ) : Type 0 where
  pub text : List ℕ
  pub ends : List EndedController
  pub way : AreOnTheWay plan n starts rest ends [] text
  pub left_are : left ≡ states_left ends
  pub sums_are : (earlier : List Note) → before ≡ sums_of earlier → sums ≡ sums_of (earlier ++ notes_joined ends)
  pub bad_are : bad ≡ bad_left ends
  pub few : bad ≤ length ends * 2 ^ 32

-- none has begun
pub none_added : (plan : PlanData) (n : ℕ) (starts left : States) (sums : Sums) → left ≡ [] → IsOnTheWay plan n starts starts left sums sums 0
none_added plan n starts left sums none = record {
  text = [];
  ends = [];
  way = none_through plan n starts [] [] refl;
  left_are = none;
  sums_are = λ earlier same. same ∙ ap sums_of (sym (append-nil earlier));
  bad_are = refl;
  few = omega arith;
}

module _ (plan : PlanData) (n : ℕ) (starts rest later left : States) (own : List (ChipState SimFaults)) (before sums : Sums) (bad : ℕ)
    (h : IsOnTheWay plan n starts rest left before sums bad) (split : rest ≡ own ∷ later) (sizes : AllHaveSizes plan starts) where
  -- how many went through
  count : length left ≡ length h.ends
  count = ap length h.left_are ∙ length-map h.ends (λ (ended : EndedController). map lab_state ended.flashes)

  -- the next controller is there
  pub next_is : length left < length plan.controllers
  next_is = let there = next_there plan n starts rest later own h.ends [] h.text h.way split sizes in omega (arith, there, count)

  -- and its flashes have its sizes
  pub next_fits : HaveSizes (chips_at plan (length left)) own
  next_fits = subst (λ k. HaveSizes (chips_at plan k) own) (sym count) (next_sizes plan n starts rest later own h.ends [] h.text h.way split sizes)

  -- the sums stay far below their greatest number
  pub few_bad : length plan.controllers ≤ 8 → bad ≤ 8 * 2 ^ 32
  few_bad most = let there = next_is in let few = h.few in omega (arith, there, few, most, count)

  -- it goes through the boot, and is added up
  pub next_added : (ended : EndedController) (after : States) (more : Sums) (k : ℕ) → k ≡ length left
      → (course : Course SimFaults) × EndsBoot plan n k own course ended → after ≡ left ++ map lab_state ended.flashes ∷ []
      → ((earlier : List Note) → sums ≡ sums_of earlier → more ≡ sums_of (earlier ++ notes_of ended)) → ended.bad < 2 ^ 32
      → IsOnTheWay plan n starts later after before more (bad + ended.bad)
  next_added ended after more k place went left_is added small = record {
    text = h.text ++ notes_text (length h.ends) (notes_of ended);
    ends = h.ends ++ ended ∷ [];
    way = next_through plan n starts rest later own h.ends [] h.text h.way split ended (h.text ++ notes_text (length h.ends) (notes_of ended))
        (subst (λ i. (course : Course SimFaults) × EndsBoot plan n i own course ended) (place ∙ count) went) refl;
    left_are = left_is ∙ ap (λ states. states ++ map lab_state ended.flashes ∷ []) h.left_are
        ∙ sym (map_push (λ (e : EndedController). map lab_state e.flashes) h.ends ended);
    sums_are = λ earlier same.
        added (earlier ++ notes_joined h.ends) (h.sums_are earlier same)
        ∙ ap sums_of (append_assoc earlier (notes_joined h.ends) (notes_of ended) ∙ ap (λ notes. earlier ++ notes) (sym one_more));
    bad_are = ap (λ b. b + ended.bad) h.bad_are ∙ sym (sum_by_push (λ (e : EndedController). e.bad) h.ends ended);
    few = let few = h.few in omega (arith, few, small, length-append h.ends (ended ∷ []));
  }
    where
      one_more : notes_joined (h.ends ++ ended ∷ []) ≡ notes_joined h.ends ++ notes_of ended
      one_more =
          ap (flat_map (λ (notes : List Note). notes)) (map_push notes_of h.ends ended)
          ∙ flat_map-append (λ (notes : List Note). notes) (map notes_of h.ends) (notes_of ended ∷ [])
          ∙ ap (λ notes. notes_joined h.ends ++ notes) (append-nil (notes_of ended))

-- all went through
pub all_added : (plan : PlanData) (n : ℕ) (starts rest left : States) (before sums : Sums) (bad : ℕ) → IsOnTheWay plan n starts rest left before sums bad
    → rest ≡ [] → AllHaveSizes plan starts → AddsUpBoot plan n starts left before sums bad
all_added plan n starts rest left before sums bad h none sizes = record {
  text = boot_text plan n (boot_at plan n) (map notes_of (ends_of went.through));
  ended = record {
    through = went.through;
    are_through = went.are_through;
    starts_are = went.starts_are;
    after_are = h.left_are ∙ ap states_left (sym went.ends_are);
    many = sym (length-map went.through (λ (t : Through). t.ended)) ∙ ap length went.ends_are ∙ went.many;
    printed = refl;
  };
  sums_are = λ earlier same. h.sums_are earlier same ∙ ap (λ ends. sums_of (earlier ++ notes_joined ends)) (sym went.ends_are);
  bad_are = h.bad_are ∙ ap bad_left (sym went.ends_are);
}
  where
    went : GoThroughBoot plan n starts h.ends [] h.text
    went = all_through plan n starts rest h.ends [] h.text h.way none sizes
