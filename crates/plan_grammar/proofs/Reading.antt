-- The one answer to bytes, as a function.
use Rattle.std.proofs.Common.{ℕ, ◌+◌, List, [], ◌∷◌, length, Result, Ok, Err}
use Rattle.std.specs.Prelude.{cond}
use Rattle.lab_text.specs.Text.{lines_of}
use Rattle.plan_grammar.specs.declared.kind.PlanKind.{PlanKind}
use Rattle.plan_grammar.specs.declared.kind.PlanKind.TheVariants.{Ended as NoBoot}
use Rattle.plan_grammar.specs.declared.lines.PlanLines.{PlanLines}
use Rattle.plan_grammar.specs.Rules.{is_empty}
use Rattle.plan_grammar.specs.Grammar.{line, no_lines}

-- a line and a kind
abbrev pub Refusal : Type 0
Refusal = ℕ × PlanKind

abbrev pub after_line : Result PlanLines PlanKind → ℕ → (PlanLines → Result PlanLines Refusal) →
    Result PlanLines Refusal
after_line (Ok plan) at go_on = go_on plan
after_line (Err kind) at go_on = Err (at, kind)

-- lines, the first of which has this number
abbrev pub lines_read : ℕ → List (List ℕ) → PlanLines → Result PlanLines Refusal
lines_read at [] plan = Ok plan
lines_read at (bytes ∷ later) plan = after_line (line plan bytes) at (λ next. lines_read (at + 1) later next)

abbrev pub ended : ℕ → PlanLines → Result PlanLines Refusal
ended at plan = cond (is_empty plan.boots) (Err (at, NoBoot)) (Ok plan)

abbrev pub ended_after : ℕ → Result PlanLines Refusal → Result PlanLines Refusal
ended_after at (Ok plan) = ended at plan
ended_after at (Err refusal) = Err refusal

-- the answer to bytes that are not too many
abbrev pub answer : List ℕ → Result PlanLines Refusal
answer bytes = ended_after (length (lines_of bytes) + 1) (lines_read 1 (lines_of bytes) no_lines)
