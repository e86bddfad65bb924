-- One option of a command with its value.
use Rattle.std.specs.Prelude.{ℕ, not, List, [], ◌∷◌, None, Result, Ok}
use Rattle.lab_text.specs.Text.{number_of}
use Rattle.plan_grammar.specs.declared.kind.PlanKind.{PlanKind}
use Rattle.plan_grammar.specs.declared.kind.PlanKind.TheVariants.{BadWords}
use Rattle.plan_grammar.specs.declared.words.OptionKind.{OptionKind}
use Rattle.plan_grammar.specs.declared.words.Options.{Options}
use Rattle.plan_grammar.specs.Rules.{◌>>=◌, rule}
use Rattle.plan_grammar.specs.Options.{has_value, with_option, by_value}

-- the options with one more, whose value is the next word where it has one, and the words after it
unfoldable pub take_option : Options → OptionKind → List (List ℕ) →
    Result (Options × List (List ℕ)) PlanKind
take_option o option [] = do
  _ ← rule (not (has_value option)) BadWords
  more ← with_option o option None
  Ok (more, [])
take_option o option (next ∷ words) = by_value (has_value option)
    (with_option o option (number_of next) >>= λ more. Ok (more, words))
    (with_option o option None >>= λ more. Ok (more, next ∷ words))
