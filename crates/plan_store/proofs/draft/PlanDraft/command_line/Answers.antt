use Rattle.std.proofs.Common.{sym, subst}
use Rattle.plan_grammar.specs.declared.kind.PlanKind.TheVariants.{WrongPlace}
use Rattle.plan_grammar.specs.declared.lines.PlanLines.{PlanLines}
use Rattle.plan_grammar.specs.Rules.{last_of}
use Rattle.plan_store.specs.CommandRules.{HasSession}
use Rattle.plan_store.proofs.Found.{running_boot_found, there_found}
use Rattle.plan_store.proofs.draft.PlanDraft.command_line.Goals as goal

pub add_command-requires : goal.add_command-requires
add_command-requires c =
    subst (λ (plan : PlanLines). HasSession plan c.len-sessions.result) c.self.view_is (record {
      boot = c.in_ok-boot.boot.now;
      boot_is = running_boot_found c.self.inside.lines c.in_ok-boot.boot.now c.in_ok-boot.ensures;
      session = c.in_ok-controller.field-0.now;
      session_is = there_found (last_of c.in_ok-boot.boot.now.sessions) WrongPlace c.in_ok-controller.field-0.now c.in_ok-controller.ensures;
      count_is = sym c.len-sessions.ensures;
    })
