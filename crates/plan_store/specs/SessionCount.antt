-- No boot has more sessions than a plan may have.
use Rattle.std.specs.Prelude.{◌≡◌, ℕ, Bool, true, nat_lt, nat_le, List, length, Result, Ok}
use Rattle.std.specs.List.{list_all}
use Rattle.plan_grammar.specs.declared.kind.PlanKind.{PlanKind}
use Rattle.plan_grammar.specs.declared.kind.PlanKind.TheVariants.{OutOfChip}
use Rattle.plan_grammar.specs.declared.lines.BootLines.{BootLines}
use Rattle.plan_grammar.specs.Limits.{most_sessions}
use Rattle.plan_grammar.specs.Rules.{◌>>=◌, rule}
use Rattle.plan_grammar.specs.Forms.{numbers}

-- a boot has at most 64 sessions
abbrev pub has_few_sessions : BootLines → Bool
has_few_sessions boot = nat_le (length boot.sessions) most_sessions

-- each of these boots has at most 64 sessions
abbrev pub HaveFewSessions : List BootLines → Type 0
HaveFewSessions boots = list_all has_few_sessions boots ≡ true

-- the numbers of a schedule's words, each of one of so many sessions
unfoldable pub session_numbers : ℕ → List (List ℕ) → Result (List ℕ) PlanKind
session_numbers count words = do
  sessions ← numbers words
  _ ← rule (list_all (λ s. nat_lt s count) sessions) OutOfChip
  Ok sessions
