-- The new chips of a plan's controllers, each plain or behind its bus.
use Rattle.std.proofs.Common.{◌≡◌, ◌<◌, ◌≤◌, ◌+◌, ◌∙◌, ◌⊎◌, inl, inr, ℕ, List, [], ◌∷◌, ◌++◌, length, map, take, Some, ap, sym, subst, arith, append_assoc, length-append}
use Rattle.std.specs.Prelude.{slice_get}
use Rattle.std.proofs.lemmas.List.{length-map, map-append, map_more, map_push}
use Rattle.nand_model.specs.Chip.{ChipState, SimFaults, new_chip}
use Rattle.chip_sim.specs.declared.chip.SimChip.{SimChip}
use Rattle.chip_sim.specs.State.{sim_state}
use Rattle.onfi_bus.specs.declared.lab.LabChip.{LabChip}
use Rattle.onfi_bus.specs.Lab.{lab_state}
use Rattle.plan_model.specs.Plan.{ChipPlan, new_chips}
use Rattle.plan_grammar.specs.declared.lines.PlanLines.{PlanLines}
use Rattle.plan_grammar.specs.Meaning.{plan_of}
use Rattle.plan_laws.specs.Ready.{chips_at}
use Rattle.plan_text.specs.Plan.{IsOfBytes, on_bus}
use Rattle.plan_text.proofs.WasRead.{limits_of}
use Rattle.ctl_core.proofs.FirstAndLast.{pushed_at}
use Rattle.plan_replay.specs.Buses.{AreAllOnTheirBuses, AreOnTheirBuses, is_bus_chip}

-- a controller has few chips
pub few_new : (plan : PlanLines) (c : ℕ) (chips : List SimChip) → IsOfBytes plan → c < length (plan_of plan).controllers
    → map sim_state chips ≡ new_chips (chips_at (plan_of plan) c) → length chips ≤ 8
few_new plan c chips read below is =
    let few = ((limits_of plan read).chips c [] below).few in
    let same = ap length is in
    omega (
      arith,
      few,
      same,
      length-map chips sim_state,
      length-map (chips_at (plan_of plan) c) (λ (p : ChipPlan). new_chip p.geometry p.bad p.weak),
    )

-- the chips so far and what is left make the whole
pub states_on : (made next : List LabChip) (rest later : List SimChip) (sim : SimChip) (chip : LabChip) (whole : List (ChipState SimFaults))
    → map lab_state made ++ map sim_state rest ≡ whole → rest ≡ sim ∷ later → lab_state chip ≡ sim_state sim → next ≡ made ++ chip ∷ []
    → map lab_state next ++ map sim_state later ≡ whole
states_on made next rest later sim chip whole h split is push =
    ap (λ fs. map lab_state fs ++ map sim_state later) push
    ∙ ap (λ ss. ss ++ map sim_state later) (map-append lab_state made (chip ∷ []))
    ∙ append_assoc (map lab_state made) (lab_state chip ∷ []) (map sim_state later)
    ∙ ap (λ s. map lab_state made ++ s ∷ map sim_state later) is
    ∙ ap (λ cs. map lab_state made ++ map sim_state cs) (sym split) ∙ h

-- the chips so far are no more than all of them
pub few_made : (made : List LabChip) (rest chips : List SimChip) → map lab_state made ++ map sim_state rest ≡ map sim_state chips
    → length chips ≤ 8 → length made ≤ 8
few_made made rest chips h few =
    let same = ap length h in
    omega (
      arith,
      same,
      few,
      length-append (map lab_state made) (map sim_state rest),
      length-map made lab_state,
      length-map rest sim_state,
      length-map chips sim_state,
    )

-- the new chips of the first controllers
pub record AreNew (plan : PlanLines) (count : ℕ) (flashes : List (List LabChip)) : Type 0 where
  pub many : length flashes ≡ count
  pub states : map (map lab_state) flashes ≡ map new_chips (take count (plan_of plan).controllers)
  pub buses : AreAllOnTheirBuses plan flashes

module _ (plan : PlanLines) where
  pub none_on_buses : (c : ℕ) (made : List LabChip) → made ≡ [] → AreOnTheirBuses plan c made
  none_on_buses c made none = subst (AreOnTheirBuses plan c) (sym none) (λ k chip at. cc)

  -- one more chip on its bus
  pub next_on_buses : (c number : ℕ) (made next : List LabChip) (chip : LabChip) → AreOnTheirBuses plan c made → number ≡ length made
      → is_bus_chip chip ≡ on_bus plan c number → next ≡ made ++ chip ∷ [] → AreOnTheirBuses plan c next
  next_on_buses c number made next chip h count bus push =
      subst (AreOnTheirBuses plan c) (sym push) (λ k other at. by_place k other (pushed_at made chip k other at))
    where
      by_place : (k : ℕ) (other : LabChip) → (slice_get made k ≡ Some other) ⊎ ((k ≡ length made) × (chip ≡ other))
          → is_bus_chip other ≡ on_bus plan c k
      by_place k other (inl at) = h k other at
      by_place k other (inr (last, same)) =
          subst (λ o. is_bus_chip o ≡ on_bus plan c k) same (bus ∙ ap (on_bus plan c) (count ∙ sym last))

  pub none_new : (flashes : List (List LabChip)) → flashes ≡ [] → AreNew plan 0 flashes
  none_new flashes none = record {
    many = ap length none;
    states = ap (map (map lab_state)) none;
    buses = subst (AreAllOnTheirBuses plan) (sym none) (λ c chips at. cc);
  }

  -- those of one more controller
  pub next_new : (c : ℕ) (flashes next : List (List LabChip)) (own : List LabChip) → AreNew plan c flashes → c < length (plan_of plan).controllers
      → map lab_state own ≡ new_chips (chips_at (plan_of plan) c) → AreOnTheirBuses plan c own → next ≡ flashes ++ own ∷ []
      → AreNew plan (c + 1) next
  next_new c flashes next own h below states buses push = record {
    many = (let same = ap length push in let many = h.many in omega (arith, same, many, length-append flashes (own ∷ [])));
    states = ap (map (map lab_state)) push ∙ map_push (map lab_state) flashes own
        ∙ ap (λ ss. ss ++ map lab_state own ∷ []) h.states
        ∙ ap (λ s. map new_chips (take c (plan_of plan).controllers) ++ s ∷ []) states
        ∙ sym (map_more new_chips (plan_of plan).controllers c [] below);
    buses = subst (AreAllOnTheirBuses plan) (sym push) (λ k chips at. by_place k chips (pushed_at flashes own k chips at));
  }
    where
      by_place : (k : ℕ) (chips : List LabChip) → (slice_get flashes k ≡ Some chips) ⊎ ((k ≡ length flashes) × (own ≡ chips))
          → AreOnTheirBuses plan k chips
      by_place k chips (inl at) = h.buses k chips at
      by_place k chips (inr (last, same)) =
          subst (AreOnTheirBuses plan k) same (subst (λ n. AreOnTheirBuses plan n own) (sym (last ∙ h.many)) buses)
