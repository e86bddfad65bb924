use Rattle.std.proofs.Common.{List, refl, sym, ap, subst, arith}
use Rattle.std.specs.List.{list_all}
use Rattle.plan_grammar.specs.declared.lines.BootLines.{BootLines}
use Rattle.plan_grammar.specs.declared.lines.ChipLines.{ChipLines}
use Rattle.plan_grammar.specs.declared.lines.DataLine.{DataLine}
use Rattle.plan_index.specs.Data.{AreData}
use Rattle.plan_store.specs.Hardware.{HardwareInStep}
use Rattle.plan_store.specs.FlipCount.{AreFlips}
use Rattle.plan_store.specs.SessionCount.{has_few_sessions}
use Rattle.plan_store.proofs.draft.PlanDraft.new.Goals as goal

pub invariant_of-result : goal.invariant_of-result
invariant_of-result c = record {
  hardware = subst (λ (controllers : List (List ChipLines)). HardwareInStep controllers c.new-4.result) (sym c.new.ensures) c.new-4.ensures;
  flips = subst (λ (boots : List BootLines). AreFlips boots 0) (sym c.new-3.ensures) (record { count_is = refl; few = omega arith });
  sessions = ap (list_all has_few_sessions) c.new-3.ensures;
  payloads = subst (λ (payloads : List DataLine). AreData payloads c.new-5.result) (sym c.new-2.ensures) c.new-5.ensures;
  costs = c.new-6.ensures _ c.new-3.ensures;
}
