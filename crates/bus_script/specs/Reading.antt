-- What reading a script answers, a line at a time.
use Rattle.std.specs.Prelude.{◌≡◌, ℕ, ◌<◌, ◌≤◌, List, ◌∷◌, length, Result, Ok, Err, ⊤}
use Rattle.lab_text.specs.Text.{lines_of, longest_line}
use Rattle.plan_grammar.specs.declared.kind.PlanKind.{PlanKind}
use Rattle.plan_words.specs.declared.error.LineError.{LineError}
use Rattle.plan_words.specs.declared.error.LineError.TheVariants.{Broken, OutOfMemory}
use Rattle.bus_script.specs.Script.{line}
use Rattle.bus_script.specs.declared.error.ScriptError.{ScriptError}
use Rattle.bus_script.specs.declared.error.ScriptError.TheVariants.{Refused, Memory}
use Rattle.bus_script.specs.declared.script.ScriptLines.{ScriptLines}

-- the first of the lines of these bytes, which is not too long, and the bytes that follow it
pub record IsFirstLine (bytes first later : List ℕ) : Type 0 where
  pub lines : lines_of bytes ≡ first ∷ lines_of later
  pub short : length first ≤ longest_line
  pub shorter : length later < length bytes

-- the first of the lines of these bytes is too long
pub record BeginsTooLong (bytes : List ℕ) : Type 0 where
  pub first : List ℕ
  pub others : List (List ℕ)
  pub lines : lines_of bytes ≡ first ∷ others
  pub long : longest_line < length first

-- the first line of these bytes leads from a script so far to another, and the other lines are those
-- of later bytes
pub record LeadsOn (old : ScriptLines) (bytes : List ℕ) (new : ScriptLines) (later : List ℕ) : Type 0 where
  pub first : List ℕ
  pub lines : lines_of bytes ≡ first ∷ lines_of later
  pub good : line old first ≡ Ok new
  pub shorter : length later < length bytes

-- the first line of these bytes breaks a rule, and this is the first one
pub record BreaksFor (old : ScriptLines) (bytes : List ℕ) (kind : PlanKind) : Type 0 where
  pub first : List ℕ
  pub others : List (List ℕ)
  pub lines : lines_of bytes ≡ first ∷ others
  pub bad : line old first ≡ Err kind

-- why the first line is not taken
abbrev pub StopsFor : ScriptLines → List ℕ → LineError → Type 0
StopsFor old bytes (Broken kind) = BreaksFor old bytes kind
StopsFor old bytes OutOfMemory = ⊤

-- the error of a script that is refused at a line
abbrev pub refusal : ℕ → LineError → ScriptError
refusal at (Broken kind) = Refused at kind
refusal at OutOfMemory = Memory
