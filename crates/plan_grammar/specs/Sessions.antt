-- The lines of sessions and schedules.
use Rattle.std.specs.Prelude.{ℕ, not, nat_lt, List, [], ◌∷◌, ◌++◌, length, Result, Ok, Err}
use Rattle.std.specs.List.{list_all}
use Rattle.plan_grammar.specs.declared.kind.PlanKind.{PlanKind}
use Rattle.plan_grammar.specs.declared.kind.PlanKind.TheVariants.{WrongPlace, BadWords, OutOfChip, TooLarge}
use Rattle.plan_grammar.specs.declared.lines.PlanLines.{PlanLines}
use Rattle.plan_grammar.specs.declared.lines.BootLines.{BootLines}
use Rattle.plan_grammar.specs.declared.lines.SessionLines.{SessionLines}
use Rattle.plan_grammar.specs.Limits.{most_sessions}
use Rattle.plan_grammar.specs.Rules.{◌>>=◌, rule, is_empty}
use Rattle.plan_grammar.specs.Forms.{one_word, number, numbers}
use Rattle.plan_grammar.specs.Faults.{last_boot, with_last_boot}

-- the boot to which sessions, commands and a schedule may be added: it has no schedule yet
unfoldable pub running_boot : PlanLines → Result BootLines PlanKind
running_boot plan = do
  boot ← last_boot plan
  _ ← rule (is_empty boot.schedule) WrongPlace
  Ok boot

-- the plan with one more session in the last boot
abbrev pub with_session : SessionLines → PlanLines → PlanLines
with_session session plan = with_last_boot (λ (boot : BootLines). record boot {
  sessions = boot.sessions ++ session
      ∷ [];
}) plan

-- a session has one word
unfoldable pub session_form : BootLines → PlanLines → List (List ℕ) → Result PlanLines PlanKind
session_form boot plan words = do
  word ← one_word words
  c ← number word
  _ ← rule (nat_lt c (length plan.controllers)) OutOfChip
  _ ← rule (nat_lt (length boot.sessions) most_sessions) TooLarge
  Ok (with_session (record { controller = c; commands = [] }) plan)

-- `session C`, in a boot
unfoldable pub session_line : PlanLines → List (List ℕ) → Result PlanLines PlanKind
session_line plan words = do
  boot ← running_boot plan
  session_form boot plan words

-- `schedule S` and further Ss, in a boot, after its sessions, at most once
unfoldable pub schedule_line : PlanLines → List (List ℕ) → Result PlanLines PlanKind
schedule_line plan words = do
  boot ← running_boot plan
  _ ← rule (not (is_empty words)) BadWords
  sessions ← numbers words
  _ ← rule (list_all (λ s. nat_lt s (length boot.sessions)) sessions) OutOfChip
  Ok (with_last_boot (λ (last : BootLines). record last { schedule = sessions }) plan)
