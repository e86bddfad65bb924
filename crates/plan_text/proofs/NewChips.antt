-- The new chips of a controller.
use Rattle.std.proofs.Common.{◌≡◌, ◌∙◌, ℕ, ◌<◌, Bool, true, ltb, List, [], ◌∷◌, ◌++◌, length, map, Some, sym, ap, append_assoc}
use Rattle.std.specs.Prelude.{All, option_map, slice_get}
use Rattle.std.specs.List.{list_all}
use Rattle.std.proofs.lemmas.List.{map-append}
use Rattle.std.proofs.lemmas.List.Elements.{All-cons, All-nil, All-head, All-tail}
use Rattle.std.proofs.lemmas.Bool.{and_parts, ltb-true}
use Rattle.std.proofs.lemmas.Option.{get_or_from_slice_get, slice_get-map}
use Rattle.nand_model.specs.Chip.{ChipState, SimFaults, new_chip}
use Rattle.chip_sim.specs.declared.chip.SimChip.{SimChip}
use Rattle.chip_sim.specs.State.{sim_state}
use Rattle.plan_model.specs.Plan.{new_chips}
use Rattle.plan_grammar.specs.declared.lines.PlanLines.{PlanLines}
use Rattle.plan_grammar.specs.declared.lines.ChipLines.{ChipLines}
use Rattle.plan_grammar.specs.Devices.{bad_blocks, weak_places}
use Rattle.plan_grammar.specs.Meaning.{chip_plan, plan_of}
use Rattle.plan_laws.specs.Ready.{chips_at}
use Rattle.plan_laws.proofs.Goods.{KeepsChip, KeepsChips}
use Rattle.plan_laws.proofs.Limits.{plan_keeps}
use Rattle.plan_laws.proofs.Lists.{all_at}
use Rattle.plan_text.specs.Plan.{IsOfBytes, IsMadeChip}

-- the chips so far and what is left make the whole
pub chips_on : (made next : List SimChip) (rest later : List ChipLines) (chip : ChipLines) (flash : SimChip) (whole : List (ChipState SimFaults)) →
    map sim_state made ++ new_chips (map chip_plan rest) ≡ whole → rest ≡ chip ∷ later →
    sim_state flash ≡ new_chip chip.geometry (bad_blocks chip) (weak_places chip) → next ≡ made ++ flash ∷ [] →
    map sim_state next ++ new_chips (map chip_plan later) ≡ whole
chips_on made next rest later chip flash whole h split is push =
    ap (λ fs. map sim_state fs ++ new_chips (map chip_plan later)) push
    ∙ ap (λ ss. ss ++ new_chips (map chip_plan later)) (map-append sim_state made (flash ∷ []))
    ∙ append_assoc (map sim_state made) (sim_state flash ∷ []) (new_chips (map chip_plan later))
    ∙ ap (λ s. map sim_state made ++ s ∷ new_chips (map chip_plan later)) is
    ∙ ap (λ cs. map sim_state made ++ new_chips (map chip_plan cs)) (sym split) ∙ h

below_all : (blocks : List ℕ) (n : ℕ) → list_all (λ b. ltb b n) blocks ≡ true → All (λ b. b < n) blocks
below_all [] n h = All-nil (λ b. b < n)
below_all (b ∷ blocks) n h =
    let parts = and_parts (ltb b n) (list_all (λ x. ltb x n) blocks) h in
    All-cons (λ x. x < n) b blocks (ltb-true b n parts.0) (below_all blocks n parts.1)

made_all : (chips : List ChipLines) → All KeepsChip chips → All IsMadeChip chips
made_all [] h = All-nil IsMadeChip
made_all (chip ∷ chips) h =
    let kept = All-head KeepsChip chip chips h in
    All-cons IsMadeChip chip chips (below_all (bad_blocks chip) chip.geometry.blocks kept.bad, kept.apart)
    (made_all chips (All-tail KeepsChip chip chips h))

-- the chips of a controller by its number
pub chips_are : (plan : PlanLines) (c : ℕ) (chips : List ChipLines) → slice_get plan.controllers c ≡ Some chips →
    chips_at (plan_of plan) c ≡ map chip_plan chips
chips_are plan c chips e =
    get_or_from_slice_get (plan_of plan).controllers c (map chip_plan chips) []
    (slice_get-map (map chip_plan) plan.controllers c ∙ ap (option_map (map chip_plan)) e)

-- each of them can be made
pub made_of : (plan : PlanLines) (c : ℕ) (chips : List ChipLines) → IsOfBytes plan → slice_get plan.controllers c ≡ Some chips → All IsMadeChip chips
made_of plan c chips (bytes, h) e = made_all chips (all_at KeepsChips plan.controllers c chips e (plan_keeps bytes plan h).chips).good
