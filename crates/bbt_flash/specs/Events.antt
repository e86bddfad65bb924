-- What is told of an event, and which events bring which calls.
use Rattle.std.specs.Prelude.{ℕ, ◌<◌, Bool, true, false, List, [], Option, Some, None}
use Rattle.nand_model.specs.Chip.{PageEvent, ReadEvent, ProgramEvent, EraseEvent}
use Rattle.nand_model.specs.Path.{Answer, Good, Failed}
use Rattle.nand_model.specs.Sizes.{page_count}
use Rattle.nand_model.specs.declared.geometry.Geometry.{Geometry}
use Rattle.nand_model.specs.declared.words.Event.{Event}
use Rattle.nand_model.specs.declared.words.Event.TheVariants.{Read, Program, Erase}

-- the page or the block of an event is one of a chip of these sizes
abbrev pub IsOnChip : Geometry → Event → Type 0
IsOnChip g (Read page) = page < page_count g
IsOnChip g (Program page) = page < page_count g
IsOnChip g (Erase block) = block < g.blocks

-- the answer to a program or an erase that was good or failed
abbrev pub answer_of : Bool → Answer
answer_of true = Good
answer_of false = Failed

-- the next event is a read
abbrev pub is_read : Option PageEvent → Bool
is_read None = false
is_read (Some (ReadEvent page)) = true
is_read (Some (ProgramEvent page image)) = false
is_read (Some (EraseEvent block)) = false

-- the next event is a program
abbrev pub is_program : Option PageEvent → Bool
is_program None = false
is_program (Some (ReadEvent page)) = false
is_program (Some (ProgramEvent page image)) = true
is_program (Some (EraseEvent block)) = false

-- the next event is a program or an erase
abbrev pub is_change : Option PageEvent → Bool
is_change None = false
is_change (Some (ReadEvent page)) = false
is_change (Some (ProgramEvent page image)) = true
is_change (Some (EraseEvent block)) = true

-- the image of a program that is next
abbrev pub image_of : Option PageEvent → List ℕ
image_of None = []
image_of (Some (ReadEvent page)) = []
image_of (Some (ProgramEvent page image)) = image
image_of (Some (EraseEvent block)) = []
