use Rattle.std.proofs.Common.{◌≡◌, not, Ok, Err, refl, sym, ap, ◌∙◌, subst}
use Rattle.std.proofs.lemmas.Result.{err_from_is_err_and}
use Rattle.plan_grammar.specs.declared.kind.PlanKind.TheVariants.{BadWords}
use Rattle.plan_grammar.specs.Sessions.{schedule_line}
use Rattle.plan_words.specs.Answer.{Answers}
use Rattle.plan_grammar.specs.declared.lines.PlanLines.{PlanLines}
use Rattle.plan_index.specs.Data.{AreData}
use Rattle.plan_costs.specs.Costs.{AreCosts}
use Rattle.plan_costs.proofs.Boots.{costs_kept}
use Rattle.plan_store.specs.Hardware.{HardwareInStep}
use Rattle.plan_store.specs.FlipCount.{AreFlips}
use Rattle.plan_store.specs.SessionCount.{HaveFewSessions}
use Rattle.plan_store.proofs.FlipCounts.{flips_kept}
use Rattle.plan_store.proofs.SessionCounts.{few_kept, few_in_last}
use Rattle.plan_store.proofs.Found.{rule_true, running_boot_found}
use Rattle.plan_store.proofs.ScheduleLines.{schedule_refused, schedule_taken}
use Rattle.plan_store.proofs.draft.PlanDraft.schedule_line.Goals as goal

pub invariant_of-draft : goal.invariant_of-draft
invariant_of-draft c =
    let last = running_boot_found c.draft.inside.lines c.in_ok-running_boot.field-0.now c.in_ok-running_boot.ensures in
    record {
      hardware = subst (λ (plan : PlanLines). HardwareInStep plan.controllers c.draft.inside.hardware) (sym c.set_schedule.ensures) c.draft.invariant.hardware;
      flips = subst (λ (plan : PlanLines). AreFlips plan.boots c.draft.inside.flips) (sym c.set_schedule.ensures)
          (flips_kept c.draft.inside.lines.boots c.draft.inside.flips _ (λ boot. refl) c.draft.invariant.flips);
      sessions = subst (λ (plan : PlanLines). HaveFewSessions plan.boots) (sym c.set_schedule.ensures)
          (few_kept c.draft.inside.lines.boots _ (λ boot. refl) c.draft.invariant.sessions);
      payloads = subst (λ (plan : PlanLines). AreData plan.payloads c.draft.inside.data) (sym c.set_schedule.ensures) c.draft.invariant.payloads;
      costs = subst (λ (plan : PlanLines). AreCosts plan c.draft.inside.costs) (sym c.set_schedule.ensures)
          (costs_kept c.draft.inside.lines c.draft.inside.costs c.in_ok-running_boot.field-0.now _ last (λ boot. refl) c.draft.invariant.costs);
    }

pub session_numbers-requires : goal.session_numbers-requires
session_numbers-requires c =
    let last = running_boot_found c.draft.inside.lines c.in_ok-running_boot.field-0.now c.in_ok-running_boot.ensures in
    rw c.len-sessions.ensures (few_in_last c.draft.inside.lines.boots c.in_ok-running_boot.field-0.now last c.draft.invariant.sessions)

pub returns-in_err-schedule : goal.returns-in_err-schedule
returns-in_err-schedule c =
    let p = err_from_is_err_and c.from_residual-in_err-schedule.result c.from_residual-in_err-schedule.ensures.1 in
    rw (p.1, p.2) (subst (λ (plan : PlanLines). Answers {A = PlanLines} (Err c.in_err-schedule.field-0.0) (schedule_line plan c.args.words)) c.draft.view_is
    (schedule_refused c.draft.inside.lines c.args.words c.in_ok-running_boot.field-0.now c.len-sessions.result c.in_err-schedule.field-0.0
    c.in_ok-running_boot.ensures (ap not (sym c.is_empty.ensures) ∙ rule_true (not c.is_empty.result) BadWords c.in_ok-rule.field-0 (sym c.in_ok-rule.ensures))
    c.len-sessions.ensures c.in_err-schedule.ensures))

pub returns : goal.returns
returns c =
    subst (λ (plan : PlanLines). schedule_line plan c.args.words ≡ Ok c.set_schedule.new.plan) c.draft.view_is
    (schedule_taken c.draft.inside.lines c.args.words c.in_ok-running_boot.field-0.now c.len-sessions.result c.in_ok-schedule.schedule
    c.in_ok-running_boot.ensures (ap not (sym c.is_empty.ensures) ∙ rule_true (not c.is_empty.result) BadWords c.in_ok-rule.field-0 (sym c.in_ok-rule.ensures))
    c.len-sessions.ensures c.in_ok-schedule.ensures ∙ ap Ok (sym c.set_schedule.ensures))
