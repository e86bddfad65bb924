use Rattle.std.proofs.Common.{refl, sym, subst, arith}
use Rattle.plan_grammar.specs.declared.lines.PlanLines.{PlanLines}
use Rattle.plan_store.specs.FlipCount.{AreFlips}
use Rattle.plan_index.specs.Data.{AreData}
use Rattle.plan_costs.specs.Costs.{AreCosts}
use Rattle.plan_costs.proofs.Boots.{costs_kept}
use Rattle.plan_store.specs.SessionCount.{HaveFewSessions}
use Rattle.plan_store.specs.Hardware.{HardwareInStep}
use Rattle.plan_store.proofs.FlipCounts.{flips_fault}
use Rattle.plan_store.proofs.SessionCounts.{few_kept}
use Rattle.plan_store.proofs.Found.{open_boot_found}
use Rattle.plan_store.proofs.draft.PlanDraft.cut_line.Goals as goal

pub invariant_of-draft : goal.invariant_of-draft
invariant_of-draft c =
    let last = open_boot_found c.draft.inside.lines c.in_ok-boot.boot.now c.in_ok-boot.ensures in
    record {
      hardware = subst (λ (plan : PlanLines). HardwareInStep plan.controllers c.draft.inside.hardware) (sym c.in_ok-add_fault.ensures) c.draft.invariant.hardware;
      flips = subst (λ (plan : PlanLines). AreFlips plan.boots c.draft.inside.flips) (sym c.in_ok-add_fault.ensures)
          (flips_fault c.draft.inside.lines.boots c.draft.inside.flips c.draft.inside.flips c.in_ok-boot.boot.now _ last
          (omega arith) c.draft.invariant.flips.few c.draft.invariant.flips);
      sessions = subst (λ (plan : PlanLines). HaveFewSessions plan.boots) (sym c.in_ok-add_fault.ensures)
          (few_kept c.draft.inside.lines.boots _ (λ boot. refl) c.draft.invariant.sessions);
      payloads = subst (λ (plan : PlanLines). AreData plan.payloads c.draft.inside.data) (sym c.in_ok-add_fault.ensures) c.draft.invariant.payloads;
      costs = subst (λ (plan : PlanLines). AreCosts plan c.draft.inside.costs) (sym c.in_ok-add_fault.ensures)
          (costs_kept c.draft.inside.lines c.draft.inside.costs c.in_ok-boot.boot.now _ last (λ boot. refl) c.draft.invariant.costs);
    }
