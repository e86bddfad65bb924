-- How a session ended.
use Rattle.std.specs.Prelude.{ℕ, Bool, List, [], ◌∷◌, ◌++◌}
use Rattle.nand_model.specs.declared.words.Outcome.{Outcome}

-- a session, whether it was cut short, and the outcomes of its finished commands in order
pub record EndOfSession : Type 0 where
  pub session : ℕ
  pub cut : Bool
  pub outcomes : List Outcome

-- with the outcome of one more command
abbrev pub with_outcome : EndOfSession → Outcome → EndOfSession
with_outcome ended outcome = record ended { outcomes = ended.outcomes ++ outcome ∷ [] }
