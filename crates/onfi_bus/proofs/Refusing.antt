-- A cycle is refused exactly where no legal list begins with what came so far and this cycle.
use Rattle.std.proofs.Common.{◌≡◌, List, [], ◌∷◌, ◌++◌, Some, None, refl, subst}
use Rattle.std.specs.Prelude.{◌↔◌}
use Rattle.nand_model.specs.declared.geometry.Geometry.{Geometry}
use Rattle.onfi_bus.specs.Moves.{Move, step_of}
use Rattle.onfi_bus.specs.Phrases.{Beat, IsLegal, Leads}
use Rattle.onfi_bus.specs.declared.cycle.Cycle.{Cycle}
use Rattle.onfi_bus.specs.declared.phase.Act.{Act}
use Rattle.onfi_bus.specs.declared.phase.Phase.{Phase}
use Rattle.onfi_bus.specs.declared.phase.Phase.TheVariants.{Idle}
use Rattle.onfi_bus.proofs.Taking.{Leads-append, Leads-one, Leads-split, legal_taken}
use Rattle.onfi_bus.proofs.Going.{taken_legal}

module _ (g : Geometry) (list : List Beat) (phase : Phase) (cycle : Cycle) (r : Leads g Idle list phase) where
  -- a cycle that is refused goes on with no legal list
  none_legal : step_of g phase cycle ≡ None → (act : Act) → IsLegal g (list ++ (cycle, act) ∷ []) → ⊥
  none_legal none act legal =
      let whole = legal_taken g (list ++ (cycle, act) ∷ []) legal in
      let parts = Leads-split g list ((cycle, act) ∷ []) Idle whole.0 whole.1 in
      let same = Leads-one g list Idle parts.0 phase parts.1 r in
      let step = parts.2 in
      let at : step_of g phase cycle ≡ Some (step.0, act) = subst (λ p. step_of g p cycle ≡ Some (step.0, act)) same step.1 in
      cc (none, at)

  -- and another one with some
  legal_some : (move : Move) → step_of g phase cycle ≡ move → ((act : Act) → IsLegal g (list ++ (cycle, act) ∷ []) → ⊥) → move ≡ None
  legal_some None e none = refl
  legal_some (Some (next, act)) e none =
      absurd (none act (taken_legal g (list ++ (cycle, act) ∷ []) next (Leads-append g list ((cycle, act) ∷ []) Idle phase next r (next, e, refl))))

  pub refused : (step_of g phase cycle ≡ None) ↔ ((act : Act) → IsLegal g (list ++ (cycle, act) ∷ []) → ⊥)
  refused = (none_legal, λ none. legal_some (step_of g phase cycle) refl none)
