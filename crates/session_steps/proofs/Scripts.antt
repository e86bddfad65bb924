-- What is left of commands, and the sessions of a course.
use Rattle.std.proofs.Common.{◌≡◌, ℕ, Bool, true, false, List, [], ◌∷◌, ◌++◌, length, drop, replicate, refl, sym, ap, ◌∙◌, arith, append-nil, append_assoc}
use Rattle.std.proofs.lemmas.List.Elements.{All-drop}
use Rattle.nand_model.specs.declared.geometry.Geometry.{Geometry}
use Rattle.nand_model.specs.declared.words.Command.{Command}
use Rattle.nand_model.specs.declared.words.Op.{Op}
use Rattle.nand_model.specs.declared.words.Outcome.{Outcome}
use Rattle.nand_model.specs.declared.words.Reply.{Reply}
use Rattle.command_model.specs.Command.{Next, Do, Over, next_step}
use Rattle.command_model.specs.Session.{SessionRun, without_finished}
use Rattle.command_model.specs.Runnable.{Fits}
use Rattle.tool_steps.specs.Steps.{asks_something, is_over}
use Rattle.tool_steps.proofs.Asks.{asks_first, asks_nothing}
use Rattle.session_steps.specs.Standing.{idle_first, nothing_written, with_idle}
use Rattle.session_steps.specs.Mirrors.{CanAllRun}
use Rattle.session_steps.proofs.Idle.{drop-idle, idle-asks, idle-not}

-- the session of a course before the first of these commands
abbrev pub before : ℕ → List Command → List Outcome → SessionRun
before number commands outcomes = record { number = number; commands = commands; replies = []; outcomes = outcomes }

-- the session of a course within the first of these commands
abbrev pub within : ℕ → List Command → List Reply → List Outcome → SessionRun
within number commands replies outcomes = record { number = number; commands = commands; replies = replies; outcomes = outcomes }

-- a command that asks for an operation is not finished
pub not_finished : (sizes : Command → Geometry) (number : ℕ) (command : Command) (commands : List Command) (replies : List Reply) (outcomes : List Outcome)
    (op : Op)
    → next_step (sizes command) command replies ≡ Do op
    → without_finished sizes number (command ∷ commands) replies outcomes ≡ within number (command ∷ commands) replies outcomes
not_finished sizes number command commands replies outcomes op e = rw e refl

-- a command that is over is taken out
pub one_finished : (sizes : Command → Geometry) (number : ℕ) (command : Command) (commands : List Command) (replies : List Reply) (outcomes : List Outcome)
    (outcome : Outcome)
    → next_step (sizes command) command replies ≡ Over outcome
    → without_finished sizes number (command ∷ commands) replies outcomes ≡ without_finished sizes number commands [] (outcomes ++ outcome ∷ [])
one_finished sizes number command commands replies outcomes outcome e = rw e refl

-- what follows is an operation, unless it is the end
pub an_op : (next : Next) → is_over next ≡ false → (op : Op) × (next ≡ Do op)
an_op (Do op) h = (op, refl)
an_op (Over outcome) h = cc

-- the first of these commands is finished before it began, or waits for its first operation
module _ (sizes : Command → Geometry) (number : ℕ) where
  one_waits : (command : Command) (commands : List Command) (outcomes : List Outcome) → Fits (sizes command) command → asks_something command ≡ true
      → without_finished sizes number (command ∷ commands) [] outcomes ≡ before number (command ∷ commands) outcomes
  one_waits command commands outcomes fits asks =
      let first : (op : Op) × (next_step (sizes command) command [] ≡ Do op) = an_op _ (asks_first (sizes command) command fits asks) in
      not_finished sizes number command commands [] outcomes first.0 first.1

  -- of commands that can be run, those that ask for no operation are finished before the others began
  pub idle_finished : (commands : List Command) (outcomes : List Outcome) → CanAllRun sizes commands
      → without_finished sizes number commands [] outcomes
      ≡ before number (drop (idle_first commands) commands) (outcomes ++ replicate (idle_first commands) nothing_written)
  idle_finished [] outcomes h = ap (before number []) (sym (append-nil outcomes))
  idle_finished (command ∷ commands) outcomes h =
      by_test (asks_something command) refl
      (idle_finished commands (outcomes ++ nothing_written ∷ []) (All-drop (λ c. Fits (sizes c) c) 1 (command ∷ commands) h))
    where
      by_test : (b : Bool) → asks_something command ≡ b
          → without_finished sizes number commands [] (outcomes ++ nothing_written ∷ [])
          ≡ before number (drop (idle_first commands) commands)
          ((outcomes ++ nothing_written ∷ []) ++ replicate (idle_first commands) nothing_written)
          → without_finished sizes number (command ∷ commands) [] outcomes
          ≡ before number (drop (idle_first (command ∷ commands)) (command ∷ commands))
          (outcomes ++ replicate (idle_first (command ∷ commands)) nothing_written)
      by_test true asks later =
          one_waits command commands outcomes (h 0 command (omega arith)) asks
          ∙ ap (before number (command ∷ commands)) (sym (append-nil outcomes))
          ∙ ap (λ k. before number (drop k (command ∷ commands)) (outcomes ++ replicate k nothing_written)) (sym (idle-asks command commands asks))
      by_test false none later =
          one_finished sizes number command commands [] outcomes nothing_written (asks_nothing (sizes command) command (h 0 command (omega arith)) none)
          ∙ later
          ∙ ap (before number (drop (idle_first commands) commands)) (append_assoc outcomes (nothing_written ∷ []) (replicate (idle_first commands) nothing_written))
          ∙ ap (λ k. before number (drop k (command ∷ commands)) (outcomes ++ replicate k nothing_written)) (sym (idle-not command commands none))

  -- the session of a course after these outcomes of its first commands
  pub settled : (commands : List Command) (outcomes : List Outcome) → CanAllRun sizes (drop (length outcomes) commands)
      → without_finished sizes number (drop (length outcomes) commands) [] outcomes
      ≡ before number (drop (length (with_idle commands outcomes)) commands) (with_idle commands outcomes)
  settled commands outcomes h =
      idle_finished (drop (length outcomes) commands) outcomes h
      ∙ ap (λ cs. before number cs (with_idle commands outcomes)) (sym (drop-idle commands outcomes))
