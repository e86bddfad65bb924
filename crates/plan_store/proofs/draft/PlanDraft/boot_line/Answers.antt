use Rattle.std.proofs.Common.{List, sym, subst}
use Rattle.plan_grammar.specs.declared.lines.BootLines.{BootLines}
use Rattle.plan_costs.specs.Costs.{AreCosts}
use Rattle.plan_store.specs.FlipCount.{AreFlips}
use Rattle.plan_store.specs.SessionCount.{HaveFewSessions}
use Rattle.plan_store.proofs.FlipCounts.{flips_push}
use Rattle.plan_store.proofs.SessionCounts.{few_push}
use Rattle.plan_store.proofs.draft.PlanDraft.boot_line.Goals as goal

pub invariant_of-result : goal.invariant_of-result
invariant_of-result c =
    let boot : BootLines = record { faults = c.new.result; sessions = c.new-2.result; schedule = c.new-3.result } in
    record {
      hardware = c.self.invariant.hardware;
      flips = subst (λ (boots : List BootLines). AreFlips boots c.self.inside.flips) (sym c.in_ok-append.ensures.ok)
          (flips_push c.self.inside.lines.boots c.self.inside.flips boot c.new.ensures c.self.invariant.flips);
      sessions = subst HaveFewSessions (sym c.in_ok-append.ensures.ok)
          (few_push c.self.inside.lines.boots boot c.new-2.ensures c.self.invariant.sessions);
      payloads = c.self.invariant.payloads;
      costs = subst (λ (boots : List BootLines). AreCosts (record c.self.inside.lines { boots = boots }) c.with_boot.result) (sym c.in_ok-append.ensures.ok)
          (c.with_boot.ensures c.self.inside.lines boot c.new-2.ensures c.self.invariant.costs);
    }
