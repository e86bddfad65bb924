use Rattle.plan_store.proofs.Found.{costs_begun}
use Rattle.plan_store.proofs.draft.PlanDraft.header_line.Goals as goal

pub invariant_of-draft : goal.invariant_of-draft
invariant_of-draft c = record {
  hardware = c.draft.invariant.hardware;
  flips = c.draft.invariant.flips;
  sessions = c.draft.invariant.sessions;
  payloads = c.draft.invariant.payloads;
  costs = costs_begun c.draft.inside.lines c.draft.inside.costs c.draft.invariant.costs;
}
