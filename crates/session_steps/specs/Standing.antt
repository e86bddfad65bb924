-- Where a session stands, beside the notes of its controller.
use Rattle.std.specs.Prelude.{◌≡◌, ℕ, suc, Bool, List, [], ◌∷◌, ◌++◌, length, drop, replicate, slice_get, Option, Some, None, option_map, if◌then◌else◌, ⊤}
use Rattle.nand_model.specs.declared.words.Command.{Command}
use Rattle.nand_model.specs.declared.words.Note.{Note}
use Rattle.nand_model.specs.declared.words.Note.TheVariants.{Answered}
use Rattle.nand_model.specs.declared.words.Op.{Op}
use Rattle.nand_model.specs.declared.words.Ending.TheVariants.{Whole}
use Rattle.nand_model.specs.declared.words.Outcome.{Outcome}
use Rattle.nand_model.specs.declared.words.Outcome.TheVariants.{NandWrite as Written}
use Rattle.nand_model.specs.declared.words.Reply.{Reply}
use Rattle.command_model.specs.Command.{Script, End, Ask}
use Rattle.tool_steps.specs.Steps.{after_last, asks_something}
use Rattle.tool_steps.specs.Work.{left_of}
use Rattle.tool_steps.specs.declared.tool.Tool.{Tool}
use Rattle.session_steps.specs.Ended.{EndOfSession}
use Rattle.session_steps.specs.declared.session.Session.{Session}

-- the number of a session, what is left of the command that it began last, and the outcomes that it
-- has put down
pub record Standing : Type 0 where
  pub number : ℕ
  pub script : Option Script
  pub outcomes : List Outcome

-- the reply in a note
abbrev pub reply_in : Option Note → Option Reply
reply_in None = None
reply_in (Some (Answered session reply)) = Some reply
reply_in (Some _) = None

-- the reply in the note at a place, if a place is given
abbrev pub reply_at : List Note → Option ℕ → Option Reply
reply_at notes None = None
reply_at notes (Some place) = reply_in (slice_get notes place)

-- what is left of a tool's command once the tool has this reply
abbrev pub script_after : Option Reply → Option Tool → Option Script
script_after reply tool = option_map (λ (t : Tool). after_last reply (left_of t)) tool

-- where a session stands once its tool has the last reply, which is among these notes
abbrev pub standing : List Note → Session → Standing
standing notes s =
    record { number = s.number; script = script_after (reply_at notes s.last) s.tool; outcomes = s.outcomes.items }

-- where a session stands that has no last reply to hand over
abbrev pub standing_alone : Session → Standing
standing_alone s = record { number = s.number; script = script_after None s.tool; outcomes = s.outcomes.items }

-- the operation that a command asks for
abbrev pub op_asked : Option Script → Option Op
op_asked None = None
op_asked (Some (End outcome)) = None
op_asked (Some (Ask op go_on)) = Some op

-- how many of these commands stand before the first that asks for an operation
abbrev pub idle_first : List Command → ℕ
idle_first [] = 0
idle_first (command ∷ commands) = if asks_something command then 0 else suc (idle_first commands)

-- the outcome of a nandwrite of no data, the one command that asks for no operation
abbrev pub nothing_written : Outcome
nothing_written = Written 0 0 0 Whole

-- these outcomes of the first commands, and those of the next ones that ask for no operation
abbrev pub with_idle : List Command → List Outcome → List Outcome
with_idle commands outcomes = outcomes ++ replicate (idle_first (drop (length outcomes) commands)) nothing_written

-- the outcomes of all finished commands, where so many were put down before the one begun last
abbrev pub outcomes_with : List Command → List Outcome → Option Script → List Outcome
outcomes_with commands outcomes None = with_idle commands outcomes
outcomes_with commands outcomes (Some (End outcome)) = with_idle commands (outcomes ++ outcome ∷ [])
outcomes_with commands outcomes (Some (Ask op go_on)) = outcomes

-- the outcomes of all finished commands
abbrev pub outcomes_by : List Command → Standing → List Outcome
outcomes_by commands st = outcomes_with commands st.outcomes st.script

-- the commands that are not finished
abbrev pub commands_by : List Command → Standing → List Command
commands_by commands st = drop (length (outcomes_by commands st)) commands

-- the outcomes of all finished commands are put down, and none is begun
abbrev pub put_down : List Command → Standing → Standing
put_down commands st = record { number = st.number; script = None; outcomes = outcomes_by commands st }

-- a command is begun
abbrev pub begun : Script → Standing → Standing
begun script st = record { number = st.number; script = Some script; outcomes = st.outcomes }

-- no command is begun, or the one begun last is over
abbrev pub IsBetween : Option Script → Type 0
IsBetween None = ⊤
IsBetween (Some (End outcome)) = ⊤
IsBetween (Some (Ask op go_on)) = ⊥

-- the first of these commands, which is there, is such a one
abbrev pub First : (Command → Type 0) → List Command → Type 0
First P [] = ⊥
First P (command ∷ commands) = P command

-- the command asks for an operation
abbrev pub IsAsking : Option Script → Type 0
IsAsking None = ⊥
IsAsking (Some (End outcome)) = ⊥
IsAsking (Some (Ask op go_on)) = ⊤

-- the session asked for an operation, and no reply to it has come
abbrev pub IsWaiting : Session → Type 0
IsWaiting s = (s.last ≡ None) × IsAsking (script_after None s.tool)

-- the number of a session
abbrev pub number_of : Session → ℕ
number_of s = s.number

-- the end of a session with these commands that stands so
abbrev pub end_of : List Command → Bool → Standing → EndOfSession
end_of commands cut st = record { session = st.number; cut = cut; outcomes = outcomes_by commands st }
