-- What reading a plan answers.
use Rattle.std.specs.Prelude.{◌≡◌, ℕ, ◌+◌, ◌<◌, ◌≤◌, List, ◌∷◌, ◌++◌, length, Result, Ok, Err}
use Rattle.lab_text.specs.Text.{lines_of, longest_line}
use Rattle.plan_grammar.specs.declared.kind.PlanKind.{PlanKind}
use Rattle.plan_grammar.specs.declared.lines.PlanLines.{PlanLines}
use Rattle.plan_grammar.specs.Grammar.{IsRefused, Reads, line, no_lines}
use Rattle.plan_words.specs.declared.error.LineError.{LineError}
use Rattle.plan_words.specs.declared.error.LineError.TheVariants.{Broken, OutOfMemory}
use Rattle.plan_text.specs.declared.error.PlanError.{PlanError}
use Rattle.plan_text.specs.declared.error.PlanError.TheVariants.{Refused, Memory}

-- the bytes are refused at this line for this kind, unless memory ran out
abbrev pub IsRefusalOf : List ℕ → PlanError → Type 0
IsRefusalOf bytes (Refused at kind) = IsRefused bytes at kind
IsRefusalOf bytes Memory = Unit {0}

-- the first of the lines of these bytes, which is not too long, and the bytes that follow it
pub record IsFirstLine (bytes first later : List ℕ) : Type 0 where
  pub lines : lines_of bytes ≡ first ∷ lines_of later
  pub short : length first ≤ longest_line
  pub shorter : length later < length bytes

-- the first line of these bytes leads from one plan to another, and the other lines are those of
-- later bytes
pub record LeadsOn (old : PlanLines) (bytes : List ℕ) (new : PlanLines) (later : List ℕ) : Type 0 where
  pub first : List ℕ
  pub lines : lines_of bytes ≡ first ∷ lines_of later
  pub good : line old first ≡ Ok new
  pub shorter : length later < length bytes

-- the first line of these bytes breaks a rule, and this is the first one
pub record BreaksFor (old : PlanLines) (bytes : List ℕ) (kind : PlanKind) : Type 0 where
  pub first : List ℕ
  pub others : List (List ℕ)
  pub lines : lines_of bytes ≡ first ∷ others
  pub bad : line old first ≡ Err kind

-- why the first line is not taken
abbrev pub StopsFor : PlanLines → List ℕ → LineError → Type 0
StopsFor old bytes (Broken kind) = BreaksFor old bytes kind
StopsFor old bytes OutOfMemory = Unit {0}

-- the error of a plan that is refused at a line
abbrev pub refusal : ℕ → LineError → PlanError
refusal at (Broken kind) = Refused at kind
refusal at OutOfMemory = Memory

-- so many lines, all of them good, lead to a plan, and the other lines are those of the rest
pub record IsReadUpTo (bytes : List ℕ) (plan : PlanLines) (rest : List ℕ) (count : ℕ) : Type 0 where
  pub before : List (List ℕ)
  pub lines : lines_of bytes ≡ before ++ lines_of rest
  pub good : Reads no_lines before plan
  pub count_is : count ≡ length before
  pub few : count + length rest ≤ length bytes
