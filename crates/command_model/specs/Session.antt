-- Sessions: how far each has come in its commands, and what it asked for and was answered.
use Rattle.std.specs.Prelude.{ℕ, List, [], ◌∷◌, ◌++◌, Option, Some, None, ◌==◌, if◌then◌else◌, map, Bool, true, false, ◌≡◌, ⊤}
use Rattle.command_model.specs.Command.{Next, Do, Over, next_step}
use Rattle.nand_model.specs.declared.words.Reply.{Reply}
use Rattle.nand_model.specs.declared.words.Command.{Command}
use Rattle.nand_model.specs.declared.words.Outcome.{Outcome}
use Rattle.nand_model.specs.declared.geometry.Geometry.{Geometry}
use Rattle.nand_model.specs.declared.words.Op.{Op}
use Rattle.nand_model.specs.declared.words.Note.{Note}
use Rattle.nand_model.specs.declared.words.Note.TheVariants.{Began, Answered, Attached, Torn}

-- a session: its commands that are not finished, the replies to the first of these, and the
-- outcomes of those that are
pub record SessionRun : Type 0 where
  pub number : ℕ
  pub commands : List Command
  pub replies : List Reply
  pub outcomes : List Outcome

-- a session with its finished commands taken out
abbrev pub without_finished : (Command → Geometry) → ℕ → List Command → List Reply → List Outcome → SessionRun
without_finished sizes number [] replies outcomes =
    record { number = number; commands = []; replies = []; outcomes = outcomes }
without_finished sizes number (command ∷ commands) replies outcomes =
    go (next_step (sizes command) command replies) (without_finished sizes number commands [])
  where
    go : Next → (List Outcome → SessionRun) → SessionRun
    go (Over outcome) rest = rest (outcomes ++ outcome ∷ [])
    go (Do op) rest = record { number = number; commands = command ∷ commands; replies = replies; outcomes = outcomes }

-- the operation that comes next, if one does
abbrev pub op_of_next : Next → Option Op
op_of_next (Do op) = Some op
op_of_next (Over outcome) = None

-- the next operation of these commands, after these replies to the first of them
abbrev pub next_op_of : (Command → Geometry) → List Command → List Reply → Option Op
next_op_of sizes [] replies = None
next_op_of sizes (command ∷ commands) replies = op_of_next (next_step (sizes command) command replies)

-- a session with one more reply
abbrev pub with_reply : (Command → Geometry) → Reply → SessionRun → SessionRun
with_reply sizes reply s = without_finished sizes s.number s.commands (s.replies ++ reply ∷ []) s.outcomes

-- the sessions of this number with one more reply
abbrev pub replied : (Command → Geometry) → ℕ → Reply → List SessionRun → List SessionRun
replied sizes session reply sessions =
    map (λ (s : SessionRun). if s.number == session then with_reply sizes reply s else s) sessions

-- the next operation of a session, if it is there and has one
abbrev pub next_op : (Command → Geometry) → Option SessionRun → Option Op
next_op sizes None = None
next_op sizes (Some s) = next_op_of sizes s.commands s.replies

-- no command is left
abbrev pub is_finished : List Command → Bool
is_finished [] = true
is_finished (command ∷ commands) = false

-- what a session asked for and what it was answered, in the order of the notes
pub data Exchange : Type 0 where
  Asked : Op → Exchange
  Replied : Reply → Exchange

-- what a note has of a session
abbrev pub exchange_in : ℕ → Note → List Exchange
exchange_in session (Began s op) = if s == session then Asked op ∷ [] else []
exchange_in session (Answered s reply) = if s == session then Replied reply ∷ [] else []
exchange_in session (Attached chip origin version copies quiet states) = []
exchange_in session (Torn chip number event cut fairness) = []

-- all exchanges of a session
abbrev pub exchanges_of : ℕ → List Note → List Exchange
exchanges_of session [] = []
exchanges_of session (note ∷ notes) = exchange_in session note ++ exchanges_of session notes

-- the exchanges of a session are those of its commands, in order and each once: from each state of
-- its commands, nothing, or the next operation, and after its reply so on
abbrev pub FollowsCommands : (Command → Geometry) → SessionRun → List Exchange → Type 0
FollowsCommands sizes s [] = ⊤
FollowsCommands sizes s (Asked op ∷ []) = next_op_of sizes s.commands s.replies ≡ Some op
FollowsCommands sizes s (Asked op ∷ Replied reply ∷ rest) =
    (next_op_of sizes s.commands s.replies ≡ Some op) × FollowsCommands sizes (with_reply sizes reply s) rest
FollowsCommands sizes s (Asked op ∷ Asked next ∷ rest) = ⊥
FollowsCommands sizes s (Replied reply ∷ rest) = ⊥

-- where a session stands after its exchanges
abbrev pub session_after : (Command → Geometry) → SessionRun → List Exchange → SessionRun
session_after sizes s [] = s
session_after sizes s (Asked op ∷ rest) = session_after sizes s rest
session_after sizes s (Replied reply ∷ rest) = session_after sizes (with_reply sizes reply s) rest

-- an answer to each operation before the next
abbrev pub Alternate : List Exchange → Type 0
Alternate [] = ⊤
Alternate (Asked op ∷ []) = ⊤
Alternate (Asked op ∷ Replied reply ∷ rest) = Alternate rest
Alternate (Asked op ∷ Asked next ∷ rest) = ⊥
Alternate (Replied reply ∷ rest) = ⊥
