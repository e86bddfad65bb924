-- Scripts: what a command asks for, as its replies come, and how it ends.
use Rattle.std.specs.Prelude.{List, [], ◌∷◌, Bool, false, not, ◌==◌, true, ℕ, ◌-◌, ◌*◌, if◌then◌else◌}
use Rattle.nand_model.specs.Sizes.{raw_len}
use Rattle.nand_model.specs.declared.geometry.Geometry.{Geometry}
use Rattle.nand_model.specs.declared.words.Op.{Op}
use Rattle.nand_model.specs.declared.words.Reply.{Reply}
use Rattle.nand_model.specs.declared.words.Reply.TheVariants.{State, Done}
use Rattle.nand_model.specs.declared.words.Outcome.{Outcome}

-- A script: it is over with an outcome, or it asks for an operation and goes on by the reply.
pub data Script : Type 0 where
  End : Outcome → Script
  Ask : Op → (Reply → Script) → Script

-- what follows some replies: the next operation, or the end with the outcome
pub data Next : Type 0 where
  Do : Op → Next
  Over : Outcome → Next

-- the script after these replies
abbrev pub after_replies : List Reply → Script → Script
after_replies [] script = script
after_replies (r ∷ replies) (Ask op go_on) = after_replies replies (go_on r)
after_replies (r ∷ replies) (End outcome) = End outcome

-- what a script asks for or ends with
abbrev pub next_in : Script → Next
next_in (End outcome) = Over outcome
next_in (Ask op go_on) = Do op

-- whether IsBad answered a state other than 0
abbrev pub says_bad : Reply → Bool
says_bad (State n) = not (n == 0)
says_bad _ = false

-- the operation was done
abbrev pub is_done : Reply → Bool
is_done Done = true
is_done _ = false

-- one more where the test holds
abbrev pub one_if : Bool → ℕ
one_if true = 1
one_if false = 0

-- the bytes of a page that a command handles: its body, with `-o` its spare too
abbrev pub unit_size : Geometry → Bool → ℕ
unit_size g oob = if oob then raw_len g else g.page

-- the bytes of the bodies of a block
abbrev pub block_size : Geometry → ℕ
block_size g = g.pages_per_block * g.page

-- a count of 0 means all from the start to the end
abbrev pub count_or_rest : ℕ → ℕ → ℕ → ℕ
count_or_rest count start all = if count == 0 then all - start else count
