-- The words of a call as `clap` reads them.
use Rattle.std.specs.Prelude.{ℕ, true, List, [], ◌∷◌, codes, Option, Some, None}
use Rattle.clap.specs.Simple.{App, Shape, new_app, new_rule, on_top, with_rule}

-- a command without flags
abbrev pub without_flags : App
without_flags = on_top (λ (s : Shape). record s {
  no_binary_name = true;
  disable_help_flag = true;
  disable_version_flag = true;
}) (new_app (codes "nandlab"))

-- a command of two positionals: a word and a number
abbrev pub two_positionals : App
two_positionals = with_rule (with_rule without_flags (new_rule (codes "word"))) (new_rule (codes "number"))

-- the words that positionals have
abbrev pub positionals : Option (List ℕ) → Option (List ℕ) → List (List ℕ)
positionals None number = []
positionals (Some word) None = word ∷ []
positionals (Some word) (Some number) = word ∷ number ∷ []
