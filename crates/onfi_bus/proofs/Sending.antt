-- Where cycles lead from a phase that is known.
use Rattle.std.proofs.Common.{◌≡◌, ℕ, ◌+◌, ◌*◌, ◌/◌, ◌<◌, List, [], ◌∷◌, ◌++◌, length, take, Option, Some, None, refl, sym, subst, ap, ◌∙◌, arith}
use Rattle.std.proofs.lemmas.Bool.{lt-ltb}
use Rattle.std.proofs.lemmas.List.{length-replicate, take_more, take_more_set}
use Rattle.std.proofs.Math.Seq.{take-length}
use Rattle.std.specs.Prelude.{IfSome, Bool, not, is_none, is_some, nat_lt, slice_index, slice_set}
use Rattle.nand_model.specs.Chip.{ChipState, FaultModel, Call, ProgramCall, EraseCall, PageEvent, ProgramEvent, EraseEvent, Complete, failure_of, happens}
use Rattle.nand_model.specs.Sizes.{page_count, raw_len}
use Rattle.nand_model.specs.declared.geometry.Geometry.{Geometry}
use Rattle.onfi_bus.specs.Device.{Device, after_act, answer, status_byte}
use Rattle.onfi_bus.specs.Moves.{step_of, with_column, with_row}
use Rattle.onfi_bus.specs.Phrases.{row_of}
use Rattle.onfi_bus.specs.State.{Follows, device_of, failed_of, move_of, phase_of, register_of, sizes_of}
use Rattle.onfi_bus.specs.declared.cycle.Cycle.{Cycle}
use Rattle.onfi_bus.specs.declared.cycle.Cycle.TheVariants.{Command, Address, In, Out}
use Rattle.onfi_bus.specs.declared.phase.Act.{Act}
use Rattle.onfi_bus.specs.declared.phase.Act.TheVariants.{Wait, Clear, EraseBlock, GiveByte, GiveStatus, ProgramPage, Put, ReadPage}
use Rattle.onfi_bus.specs.declared.phase.ColumnUse.{ColumnUse}
use Rattle.onfi_bus.specs.declared.phase.ColumnUse.TheVariants.{ToRead, ToProgram}
use Rattle.onfi_bus.specs.declared.phase.Phase.{Phase}
use Rattle.onfi_bus.specs.declared.phase.Phase.TheVariants.{Idle, ColumnLow, ColumnHigh, RowLow, RowMiddle, RowHigh, ReadConfirm, Reading, Loading, EraseConfirm, Status}
use Rattle.onfi_bus.specs.declared.phase.RowUse.{RowUse}
use Rattle.onfi_bus.specs.declared.phase.RowUse.TheVariants.{ReadAt, ProgramAt, ToErase}
use Rattle.onfi_bus.specs.declared.state.BusState.{BusState}
use Rattle.onfi_bus.proofs.Taking.{below_leads, taken_if}
use Rattle.onfi_bus.proofs.Going.{bytes_there}
use Rattle.onfi_bus.proofs.Sizes.{first_page_block}

-- where a cycle leads from a phase that is known
pub move_at : (g : Geometry) (bus : BusState) (phase next : Phase) (act : Act) (cycle : Cycle) → sizes_of bus ≡ g → phase_of bus ≡ phase
    → step_of g phase cycle ≡ Some (next, act) → move_of bus cycle ≡ Some (next, act)
move_at g bus phase next act cycle sizes at step =
    subst (λ (s : Geometry). step_of s (phase_of bus) cycle ≡ Some (next, act)) (sym sizes) (subst (λ (p : Phase). step_of g p cycle ≡ Some (next, act)) (sym at) step)

-- a byte out leads on where the column is one of a page
pub out_leads : (g : Geometry) (column : ℕ) → column < raw_len g → step_of g (Reading column) Out ≡ Some (Reading (column + 1), GiveByte column)
out_leads g column there = taken_if (nat_lt column (raw_len g)) (Reading (column + 1), GiveByte column) (lt-ltb column (raw_len g) there)

-- the byte that is given
pub byte_told : {W : Type 0} (chip : ChipState W) (g : Geometry) (old : BusState) (column byte : ℕ) → sizes_of old ≡ g → phase_of old ≡ Reading column → column < raw_len g
    → ((next : Phase) (act : Act) → move_of old Out ≡ Some (next, act) → IfSome (answer (device_of chip old) act) (λ b. byte ≡ b))
    → byte ≡ slice_index (register_of old) column
byte_told chip g old column byte sizes at there told =
    told (Reading (column + 1)) (GiveByte column) (move_at g old (Reading column) (Reading (column + 1)) (GiveByte column) Out sizes at (out_leads g column there))

-- what holds of the value in an option holds of the value that it has
pub at_some : {A : Type 0} (P : A → Type 0) (o : Option A) (x : A) → o ≡ Some x → IfSome o P → P x
at_some P o x e h = subst (λ (v : Option _). IfSome v P) e h

module _ {W : Type 0} (model : FaultModel W) where
  pub followed : (before after : ChipState W) (g : Geometry) (old new : BusState) (phase next : Phase) (act : Act) (cycle : Cycle)
      → sizes_of old ≡ g → phase_of old ≡ phase → step_of g phase cycle ≡ Some (next, act) → Follows model before after old new cycle
      → (phase_of new ≡ next) × (device_of after new ≡ after_act model (device_of before old) act)
  followed before after g old new phase next act cycle sizes at step follows = follows next act (move_at g old phase next act cycle sizes at step)

  -- the two address cycles of column 0
  pub column_sent : (chip : ChipState W) (g : Geometry) (b0 b1 b2 : BusState) (to : ColumnUse) → sizes_of b0 ≡ g → sizes_of b1 ≡ g
      → Follows model chip chip b0 b1 (Address 0) → Follows model chip chip b1 b2 (Address 0) → phase_of b0 ≡ ColumnLow to
      → (phase_of b2 ≡ with_column to 0) × (device_of chip b2 ≡ device_of chip b0)
  column_sent chip g b0 b1 b2 to s0 s1 f0 f1 at =
      let low = followed chip chip g b0 b1 (ColumnLow to) (ColumnHigh to 0) Wait (Address 0) s0 at (below_leads g 0 (raw_len g) (ColumnHigh to 0) (bytes_there g)) f0 in
      let high = followed chip chip g b1 b2 (ColumnHigh to 0) (with_column to 0) Wait (Address 0) s1 low.0 (below_leads g 0 (raw_len g) (with_column to 0) (bytes_there g)) f1 in
      (high.0, high.1 ∙ low.1)

  -- the three address cycles of a page
  pub row_sent : (chip : ChipState W) (g : Geometry) (b0 b1 b2 b3 : BusState) (to : RowUse) (low middle high : ℕ) → sizes_of b0 ≡ g → sizes_of b1 ≡ g → sizes_of b2 ≡ g
      → Follows model chip chip b0 b1 (Address low) → Follows model chip chip b1 b2 (Address middle) → Follows model chip chip b2 b3 (Address high)
      → row_of low middle high < page_count g → phase_of b0 ≡ RowLow to
      → (phase_of b3 ≡ with_row to (row_of low middle high)) × (device_of chip b3 ≡ device_of chip b0)
  row_sent chip g b0 b1 b2 b3 to low middle high s0 s1 s2 f0 f1 f2 there at =
      let small : low < page_count g = omega arith in
      let more : low + 256 * middle < page_count g = omega arith in
      let one = followed chip chip g b0 b1 (RowLow to) (RowMiddle to low) Wait (Address low) s0 at (below_leads g low (page_count g) (RowMiddle to low) small) f0 in
      let two = followed chip chip g b1 b2 (RowMiddle to low) (RowHigh to (low + 256 * middle)) Wait (Address middle) s1 one.0 (below_leads g (low + 256 * middle) (page_count g) (RowHigh to (low + 256 * middle)) more) f1 in
      let three = followed chip chip g b2 b3 (RowHigh to (low + 256 * middle)) (with_row to (row_of low middle high)) Wait (Address high) s2 two.0 (below_leads g (row_of low middle high) (page_count g) (with_row to (row_of low middle high)) there) f2 in
      (three.0, three.1 ∙ two.1 ∙ one.1)

  -- the cycles of a read up to its first byte out
  pub read_begun : (chip : ChipState W) (g : Geometry) (b0 b1 b2 b3 b4 : BusState) (page : ℕ) → sizes_of b0 ≡ g → sizes_of b3 ≡ g → phase_of b0 ≡ Idle
      → Follows model chip chip b0 b1 (Command 0x00)
      → ((to : ColumnUse) → phase_of b1 ≡ ColumnLow to → phase_of b2 ≡ with_column to 0)
      → ((to : RowUse) → phase_of b2 ≡ RowLow to → phase_of b3 ≡ with_row to page)
      → Follows model chip chip b3 b4 (Command 0x30)
      → (phase_of b4 ≡ Reading 0) × (register_of b4 ≡ (chip.pages page).cells)
  read_begun chip g b0 b1 b2 b3 b4 page s0 s3 idle f0 column row f3 =
      let one = followed chip chip g b0 b1 Idle (ColumnLow ToRead) Wait (Command 0x00) s0 idle refl f0 in
      let there = row (ReadAt 0) (column ToRead one.0) in
      let last = followed chip chip g b3 b4 (ReadConfirm 0 page) (Reading 0) (ReadPage page) (Command 0x30) s3 there refl f3 in
      (last.0, ap (λ (d : Device W). d.register) last.1)

  -- the cycles of a program up to its first byte in
  pub program_begun : (chip : ChipState W) (g : Geometry) (b0 b1 b2 b3 : BusState) (page : ℕ) → chip.geometry ≡ g → sizes_of b0 ≡ g → phase_of b0 ≡ Idle
      → Follows model chip chip b0 b1 (Command 0x80)
      → ((to : ColumnUse) → phase_of b1 ≡ ColumnLow to → phase_of b2 ≡ with_column to 0)
      → ((to : ColumnUse) → phase_of b1 ≡ ColumnLow to → device_of chip b2 ≡ device_of chip b1)
      → ((to : RowUse) → phase_of b2 ≡ RowLow to → phase_of b3 ≡ with_row to page)
      → ((to : RowUse) → phase_of b2 ≡ RowLow to → device_of chip b3 ≡ device_of chip b2)
      → (phase_of b3 ≡ Loading page 0) × (length (register_of b3) ≡ raw_len g)
  program_begun chip g b0 b1 b2 b3 page same s0 idle f0 column column_device row row_device =
      let one = followed chip chip g b0 b1 Idle (ColumnLow ToProgram) Clear (Command 0x80) s0 idle refl f0 in
      let two = column ToProgram one.0 in
      let device = row_device (ProgramAt 0) two ∙ column_device ToProgram one.0 ∙ one.1 in (
        row (ProgramAt 0) two,
        ap (λ (d : Device W). length d.register) device ∙ length-replicate (raw_len chip.geometry) 0xff ∙ ap raw_len same,
      )

  -- the row cycles of an erase behind its command
  pub erase_begun : (chip : ChipState W) (g : Geometry) (b0 b1 b2 : BusState) (page : ℕ) → sizes_of b0 ≡ g → phase_of b0 ≡ Idle
      → Follows model chip chip b0 b1 (Command 0x60)
      → ((to : RowUse) → phase_of b1 ≡ RowLow to → phase_of b2 ≡ with_row to page)
      → phase_of b2 ≡ EraseConfirm page
  erase_begun chip g b0 b1 b2 page s0 idle f0 row =
      let one = followed chip chip g b0 b1 Idle (RowLow ToErase) Wait (Command 0x60) s0 idle refl f0 in row ToErase one.0

  -- a byte in
  pub byte_sent : (chip : ChipState W) (g : Geometry) (old new : BusState) (page column byte : ℕ) → sizes_of old ≡ g → phase_of old ≡ Loading page column → column < raw_len g
      → Follows model chip chip old new (In byte) → (phase_of new ≡ Loading page (column + 1)) × (register_of new ≡ slice_set (register_of old) column byte)
  byte_sent chip g old new page column byte sizes at there follows =
      let one = followed chip chip g old new (Loading page column) (Loading page (column + 1)) (Put column byte) (In byte) sizes at
      (taken_if (nat_lt column (raw_len g)) (Loading page (column + 1), Put column byte) (lt-ltb column (raw_len g) there)) follows in
      (one.0, ap (λ (d : Device W). d.register) one.1)

  -- a byte out
  pub byte_given : (chip : ChipState W) (g : Geometry) (old new : BusState) (column : ℕ) → sizes_of old ≡ g → phase_of old ≡ Reading column → column < raw_len g
      → Follows model chip chip old new Out → (phase_of new ≡ Reading (column + 1)) × (register_of new ≡ register_of old)
  byte_given chip g old new column sizes at there follows =
      let one = followed chip chip g old new (Reading column) (Reading (column + 1)) (GiveByte column) Out sizes at (out_leads g column there) follows in
      (one.0, ap (λ (d : Device W). d.register) one.1)

  -- what a program that is confirmed comes to
  pub programmed_by : (before after : ChipState W) (g : Geometry) (old new : BusState) (page column : ℕ) → sizes_of old ≡ g → phase_of old ≡ Loading page column
      → IfSome (move_of old (Command 0x10)) (λ move. phase_of new ≡ move.0)
      → IfSome (move_of old (Command 0x10)) (λ move. device_of after new ≡ after_act model (device_of before old) move.1)
      → (phase_of new ≡ Idle) × (device_of after new ≡ after_act model (device_of before old) (ProgramPage page))
  programmed_by before after g old new page column sizes at phase device =
      let move = move_at g old (Loading page column) Idle (ProgramPage page) (Command 0x10) sizes at refl in (
        at_some (λ (m : Phase × Act). phase_of new ≡ m.0) (move_of old (Command 0x10)) (Idle, ProgramPage page) move phase,
        at_some (λ (m : Phase × Act). device_of after new ≡ after_act model (device_of before old) m.1) (move_of old (Command 0x10)) (Idle, ProgramPage page) move device,
      )

  -- what an erase that is confirmed comes to
  pub erased_by : (before after : ChipState W) (g : Geometry) (old new : BusState) (page : ℕ) → sizes_of old ≡ g → phase_of old ≡ EraseConfirm page
      → IfSome (move_of old (Command 0xd0)) (λ move. phase_of new ≡ move.0)
      → IfSome (move_of old (Command 0xd0)) (λ move. device_of after new ≡ after_act model (device_of before old) move.1)
      → (phase_of new ≡ Idle) × (device_of after new ≡ after_act model (device_of before old) (EraseBlock (page / g.pages_per_block)))
  erased_by before after g old new page sizes at phase device =
      let move = move_at g old (EraseConfirm page) Idle (EraseBlock (page / g.pages_per_block)) (Command 0xd0) sizes at refl in (
        at_some (λ (m : Phase × Act). phase_of new ≡ m.0) (move_of old (Command 0xd0)) (Idle, EraseBlock (page / g.pages_per_block)) move phase,
        at_some (λ (m : Phase × Act). device_of after new ≡ after_act model (device_of before old) m.1) (move_of old (Command 0xd0)) (Idle, EraseBlock (page / g.pages_per_block)) move device,
      )

  -- what the status tells
  pub status_told : (chip : ChipState W) (g : Geometry) (b0 b1 : BusState) (byte : ℕ) → sizes_of b0 ≡ g → sizes_of b1 ≡ g → phase_of b0 ≡ Idle
      → Follows model chip chip b0 b1 (Command 0x70)
      → ((next : Phase) (act : Act) → move_of b1 Out ≡ Some (next, act) → IfSome (answer (device_of chip b1) act) (λ b. byte ≡ b))
      → byte ≡ status_byte (failed_of b0)
  status_told chip g b0 b1 byte s0 s1 idle f0 told =
      let one = followed chip chip g b0 b1 Idle Status Wait (Command 0x70) s0 idle refl f0 in
      let given : byte ≡ status_byte (failed_of b1) = told Status GiveStatus (move_at g b1 Status Status GiveStatus Out s1 one.0 refl) in
      given ∙ ap (λ (d : Device W). status_byte d.failed) one.1

-- the bytes so far with one more
pub put_more : (register new image : List ℕ) (i : ℕ) → new ≡ slice_set register i (slice_index image i) → i < length register → i < length image
    → take i register ≡ take i image → take (i + 1) new ≡ take (i + 1) image
put_more register new image i is there here same =
    ap (take (i + 1)) is ∙ take_more_set register i (slice_index image i) there ∙ ap (λ (xs : List ℕ). xs ++ slice_index image i ∷ []) same ∙ sym (take_more image i 0 here)

-- all bytes of a list
pub all_taken : (xs ys : List ℕ) (i : ℕ) → length xs ≡ i → length ys ≡ i → take i xs ≡ take i ys → xs ≡ ys
all_taken xs ys i e f same = sym (take_whole xs i e) ∙ same ∙ take_whole ys i f
  where
    take_whole : (zs : List ℕ) (n : ℕ) → length zs ≡ n → take n zs ≡ zs
    take_whole zs n h = ap (λ (m : ℕ). take m zs) (sym h) ∙ take-length zs

-- what a program that is confirmed leaves of the chip, and whether it failed
pub record Done {W : Type 0} (model : FaultModel W) (before after : ChipState W) (event : PageEvent) (call : Call) (bus : BusState) : Type 0 where
  pub idle : phase_of bus ≡ Idle
  pub state : after ≡ happens model before (Complete event)
  pub failed : failed_of bus ≡ is_some (failure_of model before call)

pub program_done : {W : Type 0} (model : FaultModel W) (before after : ChipState W) (g : Geometry) (old new : BusState) (page column : ℕ) (image : List ℕ)
    → sizes_of old ≡ g → phase_of old ≡ Loading page column → register_of old ≡ image
    → IfSome (move_of old (Command 0x10)) (λ move. phase_of new ≡ move.0)
    → IfSome (move_of old (Command 0x10)) (λ move. device_of after new ≡ after_act model (device_of before old) move.1)
    → Done model before after (ProgramEvent page image) (ProgramCall page) new
program_done {W} model before after g old new page column image sizes at register phase device =
    let both = programmed_by model before after g old new page column sizes at phase device in
    record {
      idle = both.0;
      state = ap (λ (d : Device W). d.chip) both.1 ∙ ap (λ (bytes : List ℕ). happens model before (Complete (ProgramEvent page bytes))) register;
      failed = ap (λ (d : Device W). d.failed) both.1;
    }

pub erase_done : {W : Type 0} (model : FaultModel W) (before after : ChipState W) (g : Geometry) (old new : BusState) (page block : ℕ)
    → sizes_of old ≡ g → phase_of old ≡ EraseConfirm page → page / g.pages_per_block ≡ block
    → IfSome (move_of old (Command 0xd0)) (λ move. phase_of new ≡ move.0)
    → IfSome (move_of old (Command 0xd0)) (λ move. device_of after new ≡ after_act model (device_of before old) move.1)
    → Done model before after (EraseEvent block) (EraseCall block) new
erase_done {W} model before after g old new page block sizes at inside phase device =
    let both = erased_by model before after g old new page sizes at phase device in
    record {
      idle = both.0;
      state = ap (λ (d : Device W). d.chip) both.1 ∙ ap (λ (n : ℕ). happens model before (Complete (EraseEvent n))) inside;
      failed = ap (λ (d : Device W). d.failed) both.1 ∙ ap (λ (n : ℕ). is_some (failure_of model before (EraseCall n))) inside;
    }

-- a call that failed exactly where there is a failure is good exactly where there is none
pub good_unless : {D : Type 0} (failed : Bool) (failure : Option D) → failed ≡ is_some failure → not failed ≡ is_none failure
good_unless failed None e = ap not e
good_unless failed (Some d) e = ap not e

-- an erase of a block at its first page
pub erase_sent : {W : Type 0} (model : FaultModel W) (before after : ChipState W) (g : Geometry) (b0 b1 b2 b3 : BusState) (block : ℕ)
    → block < g.blocks → sizes_of b0 ≡ g → phase_of b0 ≡ Idle
    → Follows model before before b0 b1 (Command 0x60) → sizes_of b1 ≡ sizes_of b0
    → ((to : RowUse) → phase_of b1 ≡ RowLow to → phase_of b2 ≡ with_row to (block * g.pages_per_block)) → sizes_of b2 ≡ sizes_of b1
    → IfSome (move_of b2 (Command 0xd0)) (λ move. phase_of b3 ≡ move.0)
    → IfSome (move_of b2 (Command 0xd0)) (λ move. device_of after b3 ≡ after_act model (device_of before b2) move.1)
    → Done model before after (EraseEvent block) (EraseCall block) b3
erase_sent model before after g b0 b1 b2 b3 block there s0 idle f0 s1 row s2 phase device =
    let at = erase_begun model before g b0 b1 b2 (block * g.pages_per_block) s0 idle f0 row in
    erase_done model before after g b2 b3 (block * g.pages_per_block) block (s2 ∙ s1 ∙ s0) at (first_page_block g block) phase device
