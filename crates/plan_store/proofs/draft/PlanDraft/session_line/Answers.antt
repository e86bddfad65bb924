use Rattle.std.proofs.Common.{◌≡◌, ◌<◌, true, ltb, length, refl, sym, ◌∙◌, subst, arith}
use Rattle.std.proofs.lemmas.Bool.{ltb-true}
use Rattle.plan_grammar.specs.declared.kind.PlanKind.TheVariants.{OutOfChip, TooLarge}
use Rattle.plan_grammar.specs.declared.lines.PlanLines.{PlanLines}
use Rattle.plan_grammar.specs.Limits.{most_sessions}
use Rattle.plan_store.specs.Hardware.{HardwareInStep}
use Rattle.plan_store.specs.FlipCount.{AreFlips}
use Rattle.plan_index.specs.Data.{AreData}
use Rattle.plan_costs.specs.Costs.{AreCosts}
use Rattle.plan_costs.proofs.Boots.{costs_session}
use Rattle.plan_store.specs.SessionCount.{HaveFewSessions}
use Rattle.plan_store.proofs.FlipCounts.{flips_kept}
use Rattle.plan_store.proofs.SessionCounts.{few_session}
use Rattle.plan_store.proofs.Found.{rule_true, running_boot_found}
use Rattle.plan_store.proofs.draft.PlanDraft.session_line.Goals as goal

pub overflow_cast-session : goal.overflow_cast-session
overflow_cast-session c =
    let there : c.has_controller.result ≡ true = rule_true c.has_controller.result OutOfChip c.in_ok-rule.field-0 (sym c.in_ok-rule.ensures) in
    let small = ltb-true c.in_ok-controller.controller (length c.draft.inside.lines.controllers) (sym c.has_controller.ensures ∙ there) in
    omega (arith, small, c.draft.invariant.hardware.few_controllers)

pub invariant_of-draft : goal.invariant_of-draft
invariant_of-draft c = record {
  hardware = subst (λ (plan : PlanLines). HardwareInStep plan.controllers c.draft.inside.hardware) (sym c.in_ok-add_session.ensures) c.draft.invariant.hardware;
  flips = subst (λ (plan : PlanLines). AreFlips plan.boots c.draft.inside.flips) (sym c.in_ok-add_session.ensures)
      (flips_kept c.draft.inside.lines.boots c.draft.inside.flips _ (λ boot. refl) c.draft.invariant.flips);
  sessions =
      let last = running_boot_found c.draft.inside.lines c.in_ok-running_boot.field-0.now c.in_ok-running_boot.ensures in
      let room = ltb-true c.len-sessions.result 64 (rule_true (ltb c.len-sessions.result 64) TooLarge c.in_ok-rule-2.field-0 (sym c.in_ok-rule-2.ensures)) in
      subst (λ (plan : PlanLines). HaveFewSessions plan.boots) (sym c.in_ok-add_session.ensures)
      (few_session c.draft.inside.lines.boots c.in_ok-running_boot.field-0.now _ last
      (subst (λ n. n < most_sessions) c.len-sessions.ensures room) c.draft.invariant.sessions);
  payloads = subst (λ (plan : PlanLines). AreData plan.payloads c.draft.inside.data) (sym c.in_ok-add_session.ensures) c.draft.invariant.payloads;
  costs =
      let last = running_boot_found c.draft.inside.lines c.in_ok-running_boot.field-0.now c.in_ok-running_boot.ensures in
      subst (λ (plan : PlanLines). AreCosts plan c.draft.inside.costs) (sym c.in_ok-add_session.ensures)
      (costs_session c.draft.inside.lines c.draft.inside.costs c.in_ok-running_boot.field-0.now _ last c.new.ensures c.draft.invariant.costs);
}
