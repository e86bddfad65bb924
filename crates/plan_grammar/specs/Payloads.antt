-- The lines of data.
use Rattle.std.specs.Prelude.{ℕ, ◌+◌, not, ◌&&◌, nat_le, List, [], ◌∷◌, ◌++◌, is_some, Result, Ok, Err}
use Rattle.plan_grammar.specs.declared.kind.PlanKind.{PlanKind}
use Rattle.plan_grammar.specs.declared.kind.PlanKind.TheVariants.{WrongPlace, BadWords, Overlap, TooLarge}
use Rattle.plan_grammar.specs.declared.lines.PlanLines.{PlanLines}
use Rattle.plan_grammar.specs.Limits.{most_data}
use Rattle.plan_grammar.specs.Rules.{◌>>=◌, rule, is_empty}
use Rattle.plan_grammar.specs.Forms.{is_name, pieces}
use Rattle.plan_grammar.specs.Devices.{pieces_length, all_data, data_named}
use Rattle.plan_grammar.specs.Hardware.{has_chip}

-- data by their words
unfoldable pub data_words : PlanLines → (name : List ℕ) (words : List (List ℕ)) → Result PlanLines PlanKind
data_words plan name words = do
  _ ← rule (is_name name && not (is_empty words)) BadWords
  parts ← pieces words
  _ ← rule (not (is_some (data_named plan name))) Overlap
  _ ← rule (nat_le (all_data plan + pieces_length parts) most_data) TooLarge
  Ok (record plan { payloads = plan.payloads ++ record { name = name; pieces = parts } ∷ [] })

-- data have a name
unfoldable pub data_form : PlanLines → List (List ℕ) → Result PlanLines PlanKind
data_form plan [] = Err BadWords
data_form plan (name ∷ words) = data_words plan name words

-- `data NAME PIECE` and further PIECEs, after the last controller, which has a chip, before the
-- first boot
unfoldable pub data_line : PlanLines → List (List ℕ) → Result PlanLines PlanKind
data_line plan words = do
  _ ← rule (has_chip plan && is_empty plan.boots) WrongPlace
  data_form plan words
