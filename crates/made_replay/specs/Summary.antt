-- The summary of the replay of the plan of a number.
use Rattle.std.specs.Prelude.{◌≡◌, ℕ, List}
use Rattle.plan_model.specs.Plan.{PlanData}
use Rattle.plan_grammar.specs.Meaning.{plan_of}
use Rattle.headline_model.specs.Headline.{IsReplayOf}
use Rattle.made_plan.specs.Made.{made_lines}
use Rattle.made_plan.specs.Summary.{summary_of_run}

-- the plan of N
abbrev pub plan_of_number : ℕ → PlanData
plan_of_number n = plan_of (made_lines n)

-- the text is the summary of the replay of the plan of N, the one whose report that other text is
pub record IsSummaryOf (n : ℕ) (text : List ℕ) : Type 0 where
  pub report : List ℕ
  pub replay : IsReplayOf (plan_of_number n) report
  pub printed : text ≡ summary_of_run n (plan_of_number n) replay.courses
