-- Theorems about commands, each as a statement that a function's contract can carry.
use Rattle.std.specs.Prelude.{ℕ, ◌+◌, List, [], ◌∷◌, ◌≤◌, Bool, ⊤, length, ◌≡◌}
use Rattle.command_model.specs.Command.{Script, End, Ask, script_of, Next, Do, Over, after_replies, next_in, cost_of}
use Rattle.command_model.specs.Cost.{troubled_blocks}
use Rattle.nand_model.specs.Partitions.{device_of}
use Rattle.nand_model.specs.declared.words.Reply.{Reply}
use Rattle.nand_model.specs.declared.words.Reply.TheVariants.{ProgramFailed, BadBlock}
use Rattle.nand_model.specs.declared.words.Op.{Op}
use Rattle.nand_model.specs.declared.words.Op.TheVariants.{Write, RawWrite}
use Rattle.nand_model.specs.declared.geometry.Geometry.{Geometry}
use Rattle.nand_model.specs.declared.words.Command.TheVariants.{NandWrite}
use Rattle.nand_model.specs.declared.words.Command.{Command}

-- the written pages among the answered operations that failed or were refused
abbrev pub is_trouble : Reply → ℕ
is_trouble ProgramFailed = 1
is_trouble BadBlock = 1
is_trouble _ = 0

-- the trouble of an operation with this reply: only writes make any
abbrev pub trouble_of : Op → Reply → ℕ
trouble_of (Write dev page body free) reply = is_trouble reply
trouble_of (RawWrite dev page image) reply = is_trouble reply
trouble_of _ reply = 0

-- the trouble in these replies to a script
abbrev pub troubles : List Reply → Script → ℕ
troubles [] script = 0
troubles (r ∷ replies) (End outcome) = 0
troubles (r ∷ replies) (Ask op go_on) = trouble_of op r + troubles replies (go_on r)

-- Each block to which a nandwrite comes gives it at most one trouble, so that its cost with these
-- blocks as the allowance is a bound for every list of replies
abbrev pub TroublesAreFew : Geometry → Type 0
TroublesAreFew g =
    (dev blocks : ℕ) (mark raw oob pad : Bool) (off : ℕ) (bytes : List ℕ) (replies : List Reply) →
    troubles replies (script_of g (NandWrite dev blocks mark raw oob pad off bytes))
    ≤ troubled_blocks g (NandWrite dev blocks mark raw oob pad off bytes)

-- nothing more is asked for
abbrev pub IsOver : Next → Type 0
IsOver (Over outcome) = ⊤
IsOver (Do op) = ⊥

-- a command ends after at most its cost, for every list of replies with no more trouble than is
-- allowed for
abbrev pub CommandsEnd : Geometry → Command → Type 0
CommandsEnd g command =
    (weak : ℕ) (replies : List Reply) → troubles replies (script_of g command) ≤ weak → cost_of g command weak
    ≤ length replies →
    IsOver (next_in (after_replies replies (script_of g command)))

-- each operation that a script asks for, whatever the replies, is of this device
abbrev pub AsksOnly : ℕ → Script → Type 0
AsksOnly dev (End outcome) = ⊤
AsksOnly dev (Ask op go_on) = (device_of op ≡ dev) × ((reply : Reply) → AsksOnly dev (go_on reply))
