-- A list of notes beside the room that it has.
use Rattle.std.specs.Prelude.{ℕ, List}
use Rattle.nand_model.specs.declared.words.Note.{Note}

-- the notes, and how many more may be added before memory has to be asked for
pub record NotesAndRoom : Type 0 where
  pub notes : List Note
  pub room : ℕ
