-- What each cycle leads to and what it does, one cycle at a time.
use Rattle.std.specs.Prelude.{◌≡◌, ℕ, ◌+◌, ◌*◌, ◌/◌, ◌<◌, ◌≤◌, ◌==◌, nat_lt, if◌then◌else◌, Bool, true, false, Option, Some, None, ⊤}
use Rattle.std.specs.Coded.{Unit-prop}
use Rattle.std.proofs.Props.{props}
use Rattle.nand_model.specs.Sizes.{page_count, raw_len}
use Rattle.nand_model.specs.declared.geometry.Geometry.{Geometry}
use Rattle.onfi_bus.specs.declared.cycle.Cycle.{Cycle}
use Rattle.onfi_bus.specs.declared.cycle.Cycle.TheVariants.{Command, Address, In, Out}
use Rattle.onfi_bus.specs.declared.phase.Act.{Act}
use Rattle.onfi_bus.specs.declared.phase.Act.TheVariants.{Wait, Clear, Put, ReadPage, ProgramPage, EraseBlock, GiveByte, GiveStatus, Reset}
use Rattle.onfi_bus.specs.declared.phase.ColumnUse.{ColumnUse}
use Rattle.onfi_bus.specs.declared.phase.ColumnUse.TheVariants.{ToRead, ToProgram, MoveRead, MoveLoad}
use Rattle.onfi_bus.specs.declared.phase.Phase.{Phase}
use Rattle.onfi_bus.specs.declared.phase.Phase.TheVariants.{Idle, ColumnLow, ColumnHigh, RowLow, RowMiddle, RowHigh, ReadConfirm, Reading, MoveConfirm, Loading, EraseConfirm, Status}
use Rattle.onfi_bus.specs.declared.phase.RowUse.{RowUse}
use Rattle.onfi_bus.specs.declared.phase.RowUse.TheVariants.{ReadAt, ProgramAt, ToErase}

-- where a cycle leads, and what it does; nothing where it is illegal
abbrev pub Move : Type 0
Move = Option (Phase × Act)

-- a reset, which ends what is under way
abbrev pub or_reset : ℕ → Move
or_reset n = if n == 0xff then Some (Idle, Reset) else None

-- a command that confirms what is there, or a reset
abbrev pub confirmed : ℕ → ℕ → Phase → Act → Move
confirmed n expected phase act = if n == expected then Some (phase, act) else or_reset n

-- a command that opens a phrase, or a reset
abbrev pub opened : ℕ → Move
opened n =
    if n == 0x00 then Some (ColumnLow ToRead, Wait)
    else if n == 0x80 then Some (ColumnLow ToProgram, Clear)
    else if n == 0x60 then Some (RowLow ToErase, Wait)
    else if n == 0x70 then Some (Status, Wait)
    else or_reset n

-- a command
abbrev pub commanded : Geometry → Phase → ℕ → Move
commanded g Idle n = opened n
commanded g Status n = opened n
commanded g (Reading column) n = if n == 0x05 then Some (ColumnLow MoveRead, Wait) else opened n
commanded g (ReadConfirm column page) n = confirmed n 0x30 (Reading column) (ReadPage page)
commanded g (MoveConfirm column) n = confirmed n 0xe0 (Reading column) Wait
commanded g (Loading page column) n =
    if n == 0x85 then Some (ColumnLow (MoveLoad page), Wait) else confirmed n 0x10 Idle (ProgramPage page)
commanded g (EraseConfirm page) n = confirmed n 0xd0 Idle (EraseBlock (page / g.pages_per_block))
commanded g (ColumnLow to) n = or_reset n
commanded g (ColumnHigh to low) n = or_reset n
commanded g (RowLow to) n = or_reset n
commanded g (RowMiddle to low) n = or_reset n
commanded g (RowHigh to low) n = or_reset n

-- what a column that is there leads to
abbrev pub with_column : ColumnUse → ℕ → Phase
with_column ToRead column = RowLow (ReadAt column)
with_column ToProgram column = RowLow (ProgramAt column)
with_column MoveRead column = MoveConfirm column
with_column (MoveLoad page) column = Loading page column

-- what a page that is there leads to
abbrev pub with_row : RowUse → ℕ → Phase
with_row (ReadAt column) page = ReadConfirm column page
with_row (ProgramAt column) page = Loading page column
with_row ToErase page = EraseConfirm page

-- a byte of an address leads on where a number can still begin so
abbrev pub led_below : ℕ → ℕ → Phase → Move
led_below number limit phase = if nat_lt number limit then Some (phase, Wait) else None

-- a byte of an address
abbrev pub addressed : Geometry → Phase → ℕ → Move
addressed g (ColumnLow to) b = led_below b (raw_len g) (ColumnHigh to b)
addressed g (ColumnHigh to low) b = led_below (low + 256 * b) (raw_len g) (with_column to (low + 256 * b))
addressed g (RowLow to) b = led_below b (page_count g) (RowMiddle to b)
addressed g (RowMiddle to low) b = led_below (low + 256 * b) (page_count g) (RowHigh to (low + 256 * b))
addressed g (RowHigh to low) b = led_below (low + 65536 * b) (page_count g) (with_row to (low + 65536 * b))
addressed g Idle b = None
addressed g Status b = None
addressed g (Reading column) b = None
addressed g (ReadConfirm column page) b = None
addressed g (MoveConfirm column) b = None
addressed g (Loading page column) b = None
addressed g (EraseConfirm page) b = None

-- a byte in
abbrev pub loaded : Geometry → Phase → ℕ → Move
loaded g (Loading page column) b =
    if nat_lt column (raw_len g) then Some (Loading page (column + 1), Put column b) else None
loaded g Idle b = None
loaded g Status b = None
loaded g (Reading column) b = None
loaded g (ReadConfirm column page) b = None
loaded g (MoveConfirm column) b = None
loaded g (EraseConfirm page) b = None
loaded g (ColumnLow to) b = None
loaded g (ColumnHigh to low) b = None
loaded g (RowLow to) b = None
loaded g (RowMiddle to low) b = None
loaded g (RowHigh to low) b = None

-- a byte out
abbrev pub given : Geometry → Phase → Move
given g (Reading column) =
    if nat_lt column (raw_len g) then Some (Reading (column + 1), GiveByte column) else None
given g Status = Some (Status, GiveStatus)
given g Idle = None
given g (ReadConfirm column page) = None
given g (MoveConfirm column) = None
given g (Loading page column) = None
given g (EraseConfirm page) = None
given g (ColumnLow to) = None
given g (ColumnHigh to low) = None
given g (RowLow to) = None
given g (RowMiddle to low) = None
given g (RowHigh to low) = None

-- where a cycle leads from a phase, and what it does
abbrev pub step_of : Geometry → Phase → Cycle → Move
step_of g phase (Command n) = commanded g phase n
step_of g phase (Address b) = addressed g phase b
step_of g phase (In b) = loaded g phase b
step_of g phase Out = given g phase

-- the page of a column use is there
abbrev pub ColumnUseFits : Geometry → ColumnUse → Type 0
ColumnUseFits g ToRead = ⊤
ColumnUseFits g ToProgram = ⊤
ColumnUseFits g MoveRead = ⊤
ColumnUseFits g (MoveLoad page) = page < page_count g

-- the column of a row use is one of a page
abbrev pub RowUseFits : Geometry → RowUse → Type 0
RowUseFits g (ReadAt column) = column < raw_len g
RowUseFits g (ProgramAt column) = column < raw_len g
RowUseFits g ToErase = ⊤

-- the numbers of a phase are those of columns and pages, or begin as one
abbrev pub PhaseFits : Geometry → Phase → Type 0
PhaseFits g Idle = ⊤
PhaseFits g Status = ⊤
PhaseFits g (ColumnLow to) = ColumnUseFits g to
PhaseFits g (ColumnHigh to low) = ColumnUseFits g to × (low < raw_len g)
PhaseFits g (RowLow to) = RowUseFits g to
PhaseFits g (RowMiddle to low) = RowUseFits g to × (low < page_count g)
PhaseFits g (RowHigh to low) = RowUseFits g to × (low < page_count g)
PhaseFits g (ReadConfirm column page) = (column < raw_len g) × (page < page_count g)
PhaseFits g (Reading column) = column ≤ raw_len g
PhaseFits g (MoveConfirm column) = column < raw_len g
PhaseFits g (Loading page column) = (column ≤ raw_len g) × (page < page_count g)
PhaseFits g (EraseConfirm page) = page < page_count g

ColumnUseFits-prop : (g : Geometry) (to : ColumnUse) → IsProp (ColumnUseFits g to)
ColumnUseFits-prop g ToRead = Unit-prop
ColumnUseFits-prop g ToProgram = Unit-prop
ColumnUseFits-prop g MoveRead = Unit-prop
ColumnUseFits-prop g (MoveLoad page) = hlevel props

RowUseFits-prop : (g : Geometry) (to : RowUse) → IsProp (RowUseFits g to)
RowUseFits-prop g (ReadAt column) = hlevel props
RowUseFits-prop g (ProgramAt column) = hlevel props
RowUseFits-prop g ToErase = Unit-prop

pub PhaseFits-prop : (g : Geometry) (phase : Phase) → IsProp (PhaseFits g phase)
PhaseFits-prop g Idle = Unit-prop
PhaseFits-prop g Status = Unit-prop
PhaseFits-prop g (ColumnLow to) = ColumnUseFits-prop g to
PhaseFits-prop g (ColumnHigh to low) = hlevel (props, ColumnUseFits-prop g to)
PhaseFits-prop g (RowLow to) = RowUseFits-prop g to
PhaseFits-prop g (RowMiddle to low) = hlevel (props, RowUseFits-prop g to)
PhaseFits-prop g (RowHigh to low) = hlevel (props, RowUseFits-prop g to)
PhaseFits-prop g (ReadConfirm column page) = hlevel props
PhaseFits-prop g (Reading column) = hlevel props
PhaseFits-prop g (MoveConfirm column) = hlevel props
PhaseFits-prop g (Loading page column) = hlevel props
PhaseFits-prop g (EraseConfirm page) = hlevel props

-- an act that may need room for a page: the event program
abbrev pub changes_page : Act → Bool
changes_page Wait = false
changes_page Clear = false
changes_page (Put column byte) = false
changes_page (ReadPage page) = false
changes_page (ProgramPage page) = true
changes_page (EraseBlock block) = false
changes_page (GiveByte column) = false
changes_page GiveStatus = false
changes_page Reset = false

-- the numbers of an act are those of a column, a page and a block
abbrev pub NumbersFit : Geometry → Act → Type 0
NumbersFit g Wait = ⊤
NumbersFit g Clear = ⊤
NumbersFit g (Put column byte) = column < raw_len g
NumbersFit g (ReadPage page) = page < page_count g
NumbersFit g (ProgramPage page) = page < page_count g
NumbersFit g (EraseBlock block) = block < g.blocks
NumbersFit g (GiveByte column) = column < raw_len g
NumbersFit g GiveStatus = ⊤
NumbersFit g Reset = ⊤

-- the act changes no chip, and its numbers are those of a column and a page
abbrev pub LookFits : Geometry → Act → Type 0
LookFits g Wait = ⊤
LookFits g Clear = ⊤
LookFits g (Put column byte) = column < raw_len g
LookFits g (ReadPage page) = page < page_count g
LookFits g (ProgramPage page) = ⊥
LookFits g (EraseBlock block) = ⊥
LookFits g (GiveByte column) = column < raw_len g
LookFits g GiveStatus = ⊤
LookFits g Reset = ⊤

-- only the command that confirms a program or an erase changes the chip
abbrev pub ActFits : Geometry → Cycle → Act → Type 0
ActFits g cycle Wait = ⊤
ActFits g cycle Clear = ⊤
ActFits g cycle (Put column byte) = column < raw_len g
ActFits g cycle (ReadPage page) = page < page_count g
ActFits g cycle (ProgramPage page) = (page < page_count g) × (cycle ≡ Command 0x10)
ActFits g cycle (EraseBlock block) = (block < g.blocks) × (cycle ≡ Command 0xd0)
ActFits g cycle (GiveByte column) = column < raw_len g
ActFits g cycle GiveStatus = ⊤
ActFits g cycle Reset = ⊤
