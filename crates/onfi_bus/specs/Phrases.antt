-- The phrases of a bus, after the page operations of ONFI, with two column cycles and three row
-- cycles, the low byte first.
--
--   phrase    cycles
--   read      00h, five addresses, 30h, then any bytes out and any (05h, two addresses, E0h)
--   program   80h, five addresses, any bytes in and any (85h, two addresses), 10h
--   erase     60h, three addresses, D0h
--   status    70h, then any bytes out
--   reset     FFh, at any place: it ends the phrase before it
use Rattle.std.specs.Prelude.{◌≡◌, ℕ, ◌+◌, ◌*◌, ◌/◌, ◌<◌, List, [], ◌∷◌, ◌++◌, replicate, Some, ⊤}
use Rattle.nand_model.specs.Sizes.{page_count, raw_len}
use Rattle.nand_model.specs.declared.geometry.Geometry.{Geometry}
use Rattle.onfi_bus.specs.Moves.{step_of}
use Rattle.onfi_bus.specs.declared.cycle.Cycle.{Cycle}
use Rattle.onfi_bus.specs.declared.cycle.Cycle.TheVariants.{Command, Address, In, Out}
use Rattle.onfi_bus.specs.declared.phase.Act.{Act}
use Rattle.onfi_bus.specs.declared.phase.Act.TheVariants.{Wait, Clear, Put, ReadPage, ProgramPage, EraseBlock, GiveByte, GiveStatus, Reset}
use Rattle.onfi_bus.specs.declared.phase.Phase.{Phase}

-- a cycle, and what it does
abbrev pub Beat : Type 0
Beat = Cycle × Act

-- the number of two address cycles, the low byte first
abbrev pub column_of : ℕ → ℕ → ℕ
column_of low high = low + 256 * high

-- the number of three address cycles, the low byte first
abbrev pub row_of : ℕ → ℕ → ℕ → ℕ
row_of low middle high = low + 256 * middle + 65536 * high

-- the five address cycles of a page and a column of it
pub record Place : Type 0 where
  pub column_low : ℕ
  pub column_high : ℕ
  pub row_low : ℕ
  pub row_middle : ℕ
  pub row_high : ℕ

-- the column that they name
abbrev pub column_at : Place → ℕ
column_at p = column_of p.column_low p.column_high

-- the page that they name
abbrev pub page_at : Place → ℕ
page_at p = row_of p.row_low p.row_middle p.row_high

-- what may follow the confirm of a read: a byte out, or a move to another column
pub data ReadItem : Type 0 where
  ByteOut : ReadItem
  ReadFrom : (low high : ℕ) → ReadItem

-- what may follow the addresses of a program: a byte in, or a move to another column
pub data LoadItem : Type 0 where
  ByteIn : (byte : ℕ) → LoadItem
  LoadFrom : (low high : ℕ) → LoadItem

-- a whole phrase but a reset
pub data Phrase : Type 0 where
  Read : Place → List ReadItem → Phrase
  Program : Place → List LoadItem → Phrase
  Erase : (low middle high : ℕ) → Phrase
  AskStatus : (bytes : ℕ) → Phrase

-- two address cycles, and then more
abbrev pub column_beats : ℕ → ℕ → List Beat → List Beat
column_beats low high rest = (Address low, Wait) ∷ (Address high, Wait) ∷ rest

-- three address cycles, and then more
abbrev pub row_beats : ℕ → ℕ → ℕ → List Beat → List Beat
row_beats low middle high rest = (Address low, Wait) ∷ (Address middle, Wait) ∷ (Address high, Wait) ∷ rest

-- five address cycles, and then more
abbrev pub place_beats : Place → List Beat → List Beat
place_beats p rest = column_beats p.column_low p.column_high (row_beats p.row_low p.row_middle p.row_high rest)

-- the bytes out of a read from a column on: each gives the byte at the column, which goes on by one
abbrev pub read_beats : ℕ → List ReadItem → List Beat
read_beats column [] = []
read_beats column (ByteOut ∷ items) = (Out, GiveByte column) ∷ read_beats (column + 1) items
read_beats column (ReadFrom low high ∷ items) =
    (Command 0x05, Wait) ∷ column_beats low high ((Command 0xe0, Wait) ∷ read_beats (column_of low high) items)

-- the bytes in of a program from a column on: each is put at the column, which goes on by one. Then
-- what was put is programmed
abbrev pub load_beats : ℕ → ℕ → List LoadItem → List Beat
load_beats page column [] = (Command 0x10, ProgramPage page) ∷ []
load_beats page column (ByteIn byte ∷ items) = (In byte, Put column byte) ∷ load_beats page (column + 1) items
load_beats page column (LoadFrom low high ∷ items) =
    (Command 0x85, Wait) ∷ column_beats low high (load_beats page (column_of low high) items)

-- the cycles of a phrase, each with what it does
abbrev pub beats : Geometry → Phrase → List Beat
beats g (Read p items) =
    (Command 0x00, Wait) ∷ place_beats p ((Command 0x30, ReadPage (page_at p)) ∷ read_beats (column_at p) items)
beats g (Program p items) = (Command 0x80, Clear) ∷ place_beats p (load_beats (page_at p) (column_at p) items)
beats g (Erase low middle high) =
    (Command 0x60, Wait) ∷ row_beats low middle high
    ((Command 0xd0, EraseBlock (row_of low middle high / g.pages_per_block)) ∷ [])
beats g (AskStatus bytes) = (Command 0x70, Wait) ∷ replicate bytes (Out, GiveStatus)

-- no byte out stands at a column past the last byte, and each move is to a column of the page
abbrev pub CanRead : Geometry → ℕ → List ReadItem → Type 0
CanRead g column [] = ⊤
CanRead g column (ByteOut ∷ items) = (column < raw_len g) × CanRead g (column + 1) items
CanRead g column (ReadFrom low high ∷ items) =
    (column_of low high < raw_len g) × CanRead g (column_of low high) items

-- the same of bytes in
abbrev pub CanLoad : Geometry → ℕ → List LoadItem → Type 0
CanLoad g column [] = ⊤
CanLoad g column (ByteIn byte ∷ items) = (column < raw_len g) × CanLoad g (column + 1) items
CanLoad g column (LoadFrom low high ∷ items) =
    (column_of low high < raw_len g) × CanLoad g (column_of low high) items

-- the addresses name a column of a page with its spare, and a page of the chip
abbrev pub IsPlace : Geometry → Place → Type 0
IsPlace g p = (column_at p < raw_len g) × (page_at p < page_count g)

-- a phrase for a chip of these sizes
abbrev pub IsPhrase : Geometry → Phrase → Type 0
IsPhrase g (Read p items) = IsPlace g p × CanRead g (column_at p) items
IsPhrase g (Program p items) = IsPlace g p × CanLoad g (column_at p) items
IsPhrase g (Erase low middle high) = row_of low middle high < page_count g
IsPhrase g (AskStatus bytes) = ⊤

-- a list of whole phrases: none; one and then others; or what begins such a list, a reset, and then
-- others
pub data Phrases (g : Geometry) : List Beat → Type 0 where
  NoPhrase : Phrases g []
  Then : (p : Phrase) → IsPhrase g p → {rest : List Beat} → Phrases g rest → Phrases g (beats g p ++ rest)
  ResetAfter : (start more : List Beat) → Phrases g (start ++ more) → {rest : List Beat} →
      Phrases g rest → Phrases g (start ++ (Command 0xff, Reset) ∷ rest)

-- a legal list of cycles, each with what it does: it begins a list of whole phrases
abbrev pub IsLegal : Geometry → List Beat → Type 0
IsLegal g list = (more : List Beat) × Phrases g (list ++ more)

-- one cycle after another leads from a phase to another, and each does this
abbrev pub Leads : Geometry → Phase → List Beat → Phase → Type 0
Leads g from [] to = from ≡ to
Leads g from (beat ∷ later) to =
    (next : Phase) × (step_of g from beat.0 ≡ Some (next, beat.1)) × Leads g next later to
