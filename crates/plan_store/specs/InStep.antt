-- What is kept beside a plan's lines tells them.
use Rattle.plan_index.specs.Data.{AreData}
use Rattle.plan_costs.specs.Costs.{AreCosts}
use Rattle.plan_store.specs.declared.draft.PlanDraft.TheInside.{Inside}
use Rattle.plan_store.specs.Hardware.{HardwareInStep}
use Rattle.plan_store.specs.FlipCount.{AreFlips}
use Rattle.plan_store.specs.SessionCount.{HaveFewSessions}

-- what is kept is of these lines
pub record InStep (draft : Inside) : Type 0 where
  pub hardware : HardwareInStep draft.lines.controllers draft.hardware
  pub flips : AreFlips draft.lines.boots draft.flips
  pub sessions : HaveFewSessions draft.lines.boots
  pub payloads : AreData draft.lines.payloads draft.data
  pub costs : AreCosts draft.lines draft.costs
