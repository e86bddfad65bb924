-- What a tool answers, from the script that it follows and the last reply.
use Rattle.std.specs.Prelude.{◌≡◌, ℕ, Bool, true, false, nat_lt, ◌≤◌, List, [], ◌∷◌, length, Option, Some, None}
use Rattle.nand_model.specs.declared.geometry.Geometry.{Geometry}
use Rattle.nand_model.specs.declared.words.Reply.{Reply}
use Rattle.nand_model.specs.declared.words.Command.{Command}
use Rattle.nand_model.specs.declared.words.Command.TheVariants.{NandWrite}
use Rattle.command_model.specs.Command.{Script, End, Next, Do, Over, next_in, after_replies, script_of, cost_of}
use Rattle.command_model.specs.Laws.{IsOver}
use Rattle.tool_steps.specs.declared.step.Step.{Step}
use Rattle.tool_steps.specs.declared.step.Step.TheVariants.{Do as Perform, Done as Finished}
use Rattle.tool_steps.specs.declared.step.Turn.{Turn}
use Rattle.tool_steps.specs.declared.step.Turn.TheVariants.{Ask as AskNow, End as EndNow}
use Rattle.tool_steps.specs.declared.step.State.{State}
use Rattle.tool_steps.specs.declared.step.State.TheVariants.{At, Over as IsAtEnd}

-- the replies that a call hands over
abbrev pub handed : Option Reply → List Reply
handed None = []
handed (Some reply) = reply ∷ []

-- the script that is left after the last reply, if there is one
abbrev pub after_last : Option Reply → Script → Script
after_last last script = after_replies (handed last) script

-- the step that stands for what follows
abbrev pub step_of : Next → Step
step_of (Do op) = Perform op
step_of (Over outcome) = Finished

-- whether nothing more is asked for
abbrev pub is_over : Next → Bool
is_over (Do op) = false
is_over (Over outcome) = true

-- what is left of a command that stands so
abbrev pub state_left : {P : Type 0} → (P → Script) → State P → Script
state_left left (At place) = left place
state_left left (IsAtEnd outcome) = End outcome

-- a turn with which this is left comes to a script: its operation is asked for, or it is over with
-- its outcome
abbrev pub TurnsTo : Turn → (left script : Script) → Type 0
TurnsTo (AskNow op) left script = (left ≡ script) × (next_in script ≡ Do op)
TurnsTo (EndNow outcome) left script = script ≡ End outcome

-- a tool has had these replies to a command's operations
abbrev pub HasHad : Geometry → Command → List Reply → Script → Type 0
HasHad g command replies script = script ≡ after_replies replies (script_of g command)

-- whether a command asks for an operation at all
abbrev pub asks_something : Command → Bool
asks_something (NandWrite dev blocks mark raw oob pad off bytes) = nat_lt 0 (length bytes)
asks_something _ = true

-- with this allowance for failing pages, the cost bounds the operations whatever the replies are
abbrev pub EndsAtLast : Geometry → Command → ℕ → Type 0
EndsAtLast g command weak = (replies : List Reply) → cost_of g command weak ≤ length replies
    → IsOver (next_in (after_replies replies (script_of g command)))
