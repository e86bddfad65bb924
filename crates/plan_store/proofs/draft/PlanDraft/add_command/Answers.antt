use Rattle.std.proofs.Common.{◌≡◌, Ok, Err, refl, sym, ap, ◌∙◌, subst}
use Rattle.std.proofs.lemmas.Result.{err_from_is_err_and}
use Rattle.plan_grammar.specs.declared.lines.PlanLines.{PlanLines}
use Rattle.plan_words.specs.Answer.{Answers}
use Rattle.plan_index.specs.Data.{AreData}
use Rattle.plan_costs.specs.Costs.{AreCosts}
use Rattle.plan_store.specs.Hardware.{HardwareInStep}
use Rattle.plan_store.specs.FlipCount.{AreFlips}
use Rattle.plan_store.specs.SessionCount.{HaveFewSessions}
use Rattle.plan_store.specs.CommandRules.{HasSession, command_rules}
use Rattle.plan_store.proofs.FlipCounts.{flips_kept}
use Rattle.plan_store.proofs.SessionCounts.{few_command}
use Rattle.plan_store.proofs.CommandLines.{rules_refused, costs_refused, command_taken, is_next}
use Rattle.plan_store.proofs.draft.PlanDraft.add_command.Goals as goal

pub returns-in_err-rules_on : goal.returns-in_err-rules_on
returns-in_err-rules_on c =
    let lines : PlanLines = c.self.inside.lines in
    let d = c.in_ok-size.ensures lines (c.deref.ensures.value ∙ c.self.invariant.hardware.devices) in
    let p = err_from_is_err_and c.from_residual-in_err-rules_on.result c.from_residual-in_err-rules_on.ensures.1 in
    rw (p.1, p.2) (subst (λ (plan : PlanLines). command_rules plan c.args.controller c.args.command ≡ Err c.in_err-rules_on.field-0.0) c.self.view_is
    (rules_refused lines c.args.controller c.device_in.result c.args.command c.in_ok-size.field-0.now c.named_length-len.result
    c.in_err-rules_on.field-0.0 d c.device_in.ensures (c.named_length-len.ensures lines c.self.invariant.payloads) (sym c.in_err-rules_on.ensures)))

pub returns-in_err-costs : goal.returns-in_err-costs
returns-in_err-costs c =
    let lines : PlanLines = c.self.inside.lines in
    let d = c.in_ok-size.ensures lines (c.deref.ensures.value ∙ c.self.invariant.hardware.devices) in
    let len_is = c.named_length-len.ensures lines c.self.invariant.payloads in
    let has = subst (λ (plan : PlanLines). HasSession plan c.args.sessions) (sym c.self.view_is) c.requires in
    let next = is_next lines c.args.controller c.device_in.result c.args.command c.in_ok-size.field-0.now c.named_length-len.result c.args.sessions
    has d c.device_in.ensures len_is c.unwrap_or.result c.unwrap_or.ensures in
    let p = err_from_is_err_and c.from_residual-in_err-costs.result c.from_residual-in_err-costs.ensures.1 in
    rw (p.1, p.2) (subst (λ (plan : PlanLines). Answers {A = PlanLines} (Err c.in_err-costs.field-0.0) (command_rules plan c.args.controller c.args.command)) c.self.view_is
    (costs_refused lines c.args.controller c.device_in.result c.args.command c.in_ok-size.field-0.now c.named_length-len.result
    c.in_err-costs.field-0.0 c.in_ok-rules_on.field-0 d c.device_in.ensures len_is (sym c.in_ok-rules_on.ensures)
    (c.in_err-costs.ensures lines c.self.invariant.costs next)))

pub invariant_of-result : goal.invariant_of-result
invariant_of-result c =
    let lines : PlanLines = c.self.inside.lines in
    let d = c.in_ok-size.ensures lines (c.deref.ensures.value ∙ c.self.invariant.hardware.devices) in
    let has = subst (λ (plan : PlanLines). HasSession plan c.args.sessions) (sym c.self.view_is) c.requires in
    let next = is_next lines c.args.controller c.device_in.result c.args.command c.in_ok-size.field-0.now c.named_length-len.result c.args.sessions
    has d c.device_in.ensures (c.named_length-len.ensures lines c.self.invariant.payloads) c.unwrap_or.result c.unwrap_or.ensures in
    record {
      hardware = subst (λ (plan : PlanLines). HardwareInStep plan.controllers c.self.inside.hardware) (sym c.in_ok-add_command.ensures) c.self.invariant.hardware;
      flips = subst (λ (plan : PlanLines). AreFlips plan.boots c.self.inside.flips) (sym c.in_ok-add_command.ensures)
          (flips_kept lines.boots c.self.inside.flips _ (λ boot. refl) c.self.invariant.flips);
      sessions = subst (λ (plan : PlanLines). HaveFewSessions plan.boots) (sym c.in_ok-add_command.ensures)
          (few_command lines.boots c.args.command c.self.invariant.sessions);
      payloads = subst (λ (plan : PlanLines). AreData plan.payloads c.self.inside.data) (sym c.in_ok-add_command.ensures) c.self.invariant.payloads;
      costs = subst (λ (plan : PlanLines). AreCosts plan c.in_ok-costs.costs) (sym c.in_ok-add_command.ensures)
          (c.in_ok-costs.ensures lines c.self.invariant.costs next).1;
    }

pub returns : goal.returns
returns c =
    let lines : PlanLines = c.self.inside.lines in
    let d = c.in_ok-size.ensures lines (c.deref.ensures.value ∙ c.self.invariant.hardware.devices) in
    let len_is = c.named_length-len.ensures lines c.self.invariant.payloads in
    let has = subst (λ (plan : PlanLines). HasSession plan c.args.sessions) (sym c.self.view_is) c.requires in
    let next = is_next lines c.args.controller c.device_in.result c.args.command c.in_ok-size.field-0.now c.named_length-len.result c.args.sessions
    has d c.device_in.ensures len_is c.unwrap_or.result c.unwrap_or.ensures in
    subst (λ (plan : PlanLines). command_rules plan c.args.controller c.args.command ≡ Ok c.add_command.new.plan) c.self.view_is
    (command_taken lines c.args.controller c.device_in.result c.args.command c.in_ok-size.field-0.now c.named_length-len.result
    c.in_ok-costs.costs c.in_ok-rules_on.field-0 d c.device_in.ensures len_is (sym c.in_ok-rules_on.ensures)
    (c.in_ok-costs.ensures lines c.self.invariant.costs next) ∙ ap Ok (sym c.in_ok-add_command.ensures))
