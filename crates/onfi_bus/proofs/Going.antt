-- Cycles that are taken, one at a time, are those of a legal list.
use Rattle.std.proofs.Common.{◌≡◌, ℕ, suc, ◌+◌, ◌*◌, ◌/◌, ◌<◌, ◌≤◌, ◌⊎◌, inl, inr, List, [], ◌∷◌, ◌++◌, replicate, Some, None, refl, sym, subst, ap, ◌∙◌, append_assoc, append-nil, arith}
use Rattle.std.specs.Prelude.{◌==◌, if◌then◌else◌, nat_lt, ⊤, IfSome}
use Rattle.std.proofs.Math.Nat.{div-lt_iff_lt-mul, mul-le-mul_right}
use Rattle.std.proofs.lemmas.Bool.{cond_both, eqb-true, ltb-true}
use Rattle.nand_model.proofs.Bounds.{bounds, page-some, pages-some}
use Rattle.nand_model.specs.Sizes.{page_count, raw_len}
use Rattle.nand_model.specs.declared.geometry.Geometry.{Geometry}
use Rattle.onfi_bus.specs.Moves.{ActFits, ColumnUseFits, Move, PhaseFits, RowUseFits, addressed, commanded, confirmed, given, led_below, loaded, opened, or_reset, step_of, with_column, with_row}
use Rattle.onfi_bus.specs.Phrases.{Beat, Read, Program, Erase, AskStatus, Place, ReadItem, ByteOut, ReadFrom, LoadItem, ByteIn, LoadFrom, Phrases, NoPhrase, Then, ResetAfter, CanRead, CanLoad, IsLegal, IsPlace, Leads, beats, column_at, column_beats, column_of, load_beats, page_at, place_beats, read_beats, row_beats, row_of}
use Rattle.onfi_bus.specs.declared.cycle.Cycle.{Cycle}
use Rattle.onfi_bus.specs.declared.cycle.Cycle.TheVariants.{Command, Address, In, Out}
use Rattle.onfi_bus.specs.declared.phase.Act.{Act}
use Rattle.onfi_bus.specs.declared.phase.Act.TheVariants.{Wait, Clear, EraseBlock, GiveByte, GiveStatus, ProgramPage, Put, ReadPage, Reset}
use Rattle.onfi_bus.specs.declared.phase.ColumnUse.{ColumnUse}
use Rattle.onfi_bus.specs.declared.phase.ColumnUse.TheVariants.{ToRead, ToProgram, MoveRead, MoveLoad}
use Rattle.onfi_bus.specs.declared.phase.Phase.{Phase}
use Rattle.onfi_bus.specs.declared.phase.Phase.TheVariants.{Idle, ColumnLow, ColumnHigh, RowLow, RowMiddle, RowHigh, ReadConfirm, Reading, MoveConfirm, Loading, EraseConfirm, Status}
use Rattle.onfi_bus.specs.declared.phase.RowUse.{RowUse}
use Rattle.onfi_bus.specs.declared.phase.RowUse.TheVariants.{ReadAt, ProgramAt, ToErase}

-- the list goes on with items of a read from a column on, and then phrases
record ReadsOn (g : Geometry) (column : ℕ) (list : List Beat) : Type 0 where
  items : List ReadItem
  can : CanRead g column items
  rest : List Beat
  phrases : Phrases g rest
  is : list ≡ read_beats column items ++ rest

-- the list goes on with items of a program from a column on, its confirm, and then phrases
record LoadsOn (g : Geometry) (page column : ℕ) (list : List Beat) : Type 0 where
  items : List LoadItem
  can : CanLoad g column items
  rest : List Beat
  phrases : Phrases g rest
  is : list ≡ load_beats page column items ++ rest

-- the list goes on with bytes of a status, and then phrases
record TellsOn (g : Geometry) (list : List Beat) : Type 0 where
  count : ℕ
  rest : List Beat
  phrases : Phrases g rest
  is : list ≡ replicate count (Out, GiveStatus) ++ rest

-- behind what comes before the column of this use, the list completes phrases
abbrev Begun : Geometry → ColumnUse → List Beat → Type 0
Begun g ToRead list = Phrases g ((Command 0x00, Wait) ∷ list)
Begun g ToProgram list = Phrases g ((Command 0x80, Clear) ∷ list)
Begun g MoveRead list = (column : ℕ) → ReadsOn g column ((Command 0x05, Wait) ∷ list)
Begun g (MoveLoad page) list = (column : ℕ) → LoadsOn g page column ((Command 0x85, Wait) ∷ list)

-- behind what comes before the page of this use, the list completes phrases
abbrev Addressed : Geometry → RowUse → List Beat → Type 0
Addressed g (ReadAt column) list =
    (low high : ℕ) → column_of low high ≡ column → Phrases g ((Command 0x00, Wait) ∷ column_beats low high list)
Addressed g (ProgramAt column) list =
    (low high : ℕ) → column_of low high ≡ column → Phrases g ((Command 0x80, Clear) ∷ column_beats low high list)
Addressed g ToErase list = Phrases g ((Command 0x60, Wait) ∷ list)

-- behind what leads to a phase, the list completes phrases
abbrev Completes : Geometry → Phase → List Beat → Type 0
Completes g Idle list = Phrases g list
Completes g Status list = TellsOn g list
Completes g (Reading column) list = ReadsOn g column list
Completes g (Loading page column) list = LoadsOn g page column list
Completes g (ColumnLow to) list = Begun g to list
Completes g (ColumnHigh to low) list = Begun g to ((Address low, Wait) ∷ list)
Completes g (RowLow to) list = Addressed g to list
Completes g (RowMiddle to low) list = Addressed g to ((Address low, Wait) ∷ list)
Completes g (RowHigh to low) list =
    (a b : ℕ) → a + 256 * b ≡ low → Addressed g to ((Address a, Wait) ∷ (Address b, Wait) ∷ list)
Completes g (ReadConfirm column page) list =
    (p : Place) → column_at p ≡ column → page_at p ≡ page → Phrases g ((Command 0x00, Wait) ∷ place_beats p list)
Completes g (MoveConfirm column) list =
    (from low high : ℕ) → column_of low high ≡ column → ReadsOn g from ((Command 0x05, Wait) ∷ column_beats low high list)
Completes g (EraseConfirm page) list =
    (low middle high : ℕ) → row_of low middle high ≡ page → Phrases g ((Command 0x60, Wait) ∷ row_beats low middle high list)

-- a step from a phase leads to a phase that fits, and what completes phrases behind it does so behind
-- the step, unless the step is a reset
record GoodStep (g : Geometry) (from : Phase) (cycle : Cycle) (step : Phase × Act) : Type 0 where
  pub fits : PhaseFits g step.0
  pub act : ActFits g cycle step.1
  pub back : ((list : List Beat) → Completes g step.0 list → Completes g from ((cycle, step.1) ∷ list))
      ⊎ ((cycle ≡ Command 0xff) × (step.1 ≡ Reset) × (step.0 ≡ Idle))

abbrev Good : Geometry → Phase → Cycle → Move → Type 0
Good g from cycle None = ⊤
Good g from cycle (Some step) = GoodStep g from cycle step

step_le : {a b : ℕ} → a < b → a + 1 ≤ b
step_le h = omega arith

le_of_lt : {a b : ℕ} → a < b → a ≤ b
le_of_lt h = omega arith

pub pages_there : (g : Geometry) → 0 < page_count g
pages_there g =
    let all : 8 * g.pages_per_block ≤ g.blocks * g.pages_per_block = mul-le-mul_right g.pages_per_block (bounds g).blocks_low in
    elim (bounds g).block [ inl h ↦ omega arith | inr h ↦ omega arith ]

block_there : (g : Geometry) (page : ℕ) → page < page_count g → page / g.pages_per_block < g.blocks
block_there g page there = (div-lt_iff_lt-mul (pages-some g)).1 there

pub bytes_there : (g : Geometry) → 0 < raw_len g
bytes_there g = omega (arith, page-some g)

-- the later tests of the command that opens a phrase
abbrev status_or : ℕ → Move
status_or n = if n == 0x70 then Some (Status, Wait) else or_reset n

abbrev erase_or : ℕ → Move
erase_or n = if n == 0x60 then Some (RowLow ToErase, Wait) else status_or n

abbrev program_or : ℕ → Move
program_or n = if n == 0x80 then Some (ColumnLow ToProgram, Clear) else erase_or n

module _ (g : Geometry) where
  reads_none : (column : ℕ) (list : List Beat) → Phrases g list → ReadsOn g column list
  reads_none column list k = record { items = []; can = tt; rest = list; phrases = k; is = refl }

  tells_none : (list : List Beat) → Phrases g list → TellsOn g list
  tells_none list k = record { count = 0; rest = list; phrases = k; is = refl }

  load_end : (page column : ℕ) (list : List Beat) → Phrases g list → LoadsOn g page column ((Command 0x10, ProgramPage page) ∷ list)
  load_end page column list k = record { items = []; can = tt; rest = list; phrases = k; is = refl }

  byte_out : (column : ℕ) (list : List Beat) → column < raw_len g → ReadsOn g (column + 1) list → ReadsOn g column ((Out, GiveByte column) ∷ list)
  byte_out column list h k = record {
    items = ByteOut ∷ k.items;
    can = (h, k.can);
    rest = k.rest;
    phrases = k.phrases;
    is = ap (λ (z : List Beat). (Out, GiveByte column) ∷ z) k.is;
  }

  status_out : (list : List Beat) → TellsOn g list → TellsOn g ((Out, GiveStatus) ∷ list)
  status_out list k = record {
    count = suc k.count;
    rest = k.rest;
    phrases = k.phrases;
    is = ap (λ (z : List Beat). (Out, GiveStatus) ∷ z) k.is;
  }

  byte_in : (page column byte : ℕ) (list : List Beat) → column < raw_len g → LoadsOn g page (column + 1) list
      → LoadsOn g page column ((In byte, Put column byte) ∷ list)
  byte_in page column byte list h k = record {
    items = ByteIn byte ∷ k.items;
    can = (h, k.can);
    rest = k.rest;
    phrases = k.phrases;
    is = ap (λ (z : List Beat). (In byte, Put column byte) ∷ z) k.is;
  }

  load_from : (page column low high : ℕ) (list : List Beat) → column_of low high < raw_len g → LoadsOn g page (column_of low high) list
      → LoadsOn g page column ((Command 0x85, Wait) ∷ column_beats low high list)
  load_from page column low high list h k = record {
    items = LoadFrom low high ∷ k.items;
    can = (h, k.can);
    rest = k.rest;
    phrases = k.phrases;
    is = ap (λ (z : List Beat). (Command 0x85, Wait) ∷ column_beats low high z) k.is;
  }

  read_from : (from column : ℕ) (list : List Beat) → column < raw_len g → ReadsOn g column list
      → (low high : ℕ) → column_of low high ≡ column → ReadsOn g from ((Command 0x05, Wait) ∷ column_beats low high ((Command 0xe0, Wait) ∷ list))
  read_from from column list h k low high same =
      let k' : ReadsOn g (column_of low high) list = subst (λ (c : ℕ). ReadsOn g c list) (sym same) k in
      record {
        items = ReadFrom low high ∷ k'.items;
        can = (subst (λ (c : ℕ). c < raw_len g) (sym same) h, k'.can);
        rest = k'.rest;
        phrases = k'.phrases;
        is = ap (λ (z : List Beat). (Command 0x05, Wait) ∷ column_beats low high ((Command 0xe0, Wait) ∷ z)) k'.is;
      }

  read_whole : (column page : ℕ) (list : List Beat) → column < raw_len g → page < page_count g → ReadsOn g column list
      → Completes g (ReadConfirm column page) ((Command 0x30, ReadPage page) ∷ list)
  read_whole column page list h there k p same_column same_page =
      let k' : ReadsOn g (column_at p) list = subst (λ (c : ℕ). ReadsOn g c list) (sym same_column) k in
      let place : IsPlace g p = (subst (λ (c : ℕ). c < raw_len g) (sym same_column) h, subst (λ (n : ℕ). n < page_count g) (sym same_page) there) in
      let whole : Phrases g (beats g (Read p k'.items) ++ k'.rest) = Then (Read p k'.items) (place, k'.can) k'.phrases in
      subst (λ (n : ℕ). Phrases g ((Command 0x00, Wait) ∷ place_beats p ((Command 0x30, ReadPage n) ∷ list))) same_page
      (subst (λ (z : List Beat). Phrases g ((Command 0x00, Wait) ∷ place_beats p ((Command 0x30, ReadPage (page_at p)) ∷ z))) (sym k'.is) whole)

  program_whole : (column low middle high : ℕ) (list : List Beat) → column < raw_len g → row_of low middle high < page_count g
      → LoadsOn g (row_of low middle high) column list → Addressed g (ProgramAt column) (row_beats low middle high list)
  program_whole column low middle high list h there k column_low column_high same =
      let p : Place = record { column_low = column_low; column_high = column_high; row_low = low; row_middle = middle; row_high = high } in
      let k' : LoadsOn g (page_at p) (column_at p) list = subst (λ (c : ℕ). LoadsOn g (row_of low middle high) c list) (sym same) k in
      let place : IsPlace g p = (subst (λ (c : ℕ). c < raw_len g) (sym same) h, there) in
      let whole : Phrases g (beats g (Program p k'.items) ++ k'.rest) = Then (Program p k'.items) (place, k'.can) k'.phrases in
      subst (λ (z : List Beat). Phrases g ((Command 0x80, Clear) ∷ place_beats p z)) (sym k'.is) whole

  erase_whole : (page : ℕ) (list : List Beat) → page < page_count g → Phrases g list
      → Completes g (EraseConfirm page) ((Command 0xd0, EraseBlock (page / g.pages_per_block)) ∷ list)
  erase_whole page list there k low middle high same =
      let whole : Phrases g (beats g (Erase low middle high) ++ list) = Then (Erase low middle high) (subst (λ (n : ℕ). n < page_count g) (sym same) there) k in
      subst (λ (n : ℕ). Phrases g ((Command 0x60, Wait) ∷ row_beats low middle high ((Command 0xd0, EraseBlock (n / g.pages_per_block)) ∷ list))) same whole

  to_column : (to : ColumnUse) (low high : ℕ) (list : List Beat) → column_of low high < raw_len g → Completes g (with_column to (column_of low high)) list
      → Begun g to (column_beats low high list)
  to_column ToRead low high list h k = k low high refl
  to_column ToProgram low high list h k = k low high refl
  to_column MoveRead low high list h k = λ from. k from low high refl
  to_column (MoveLoad page) low high list h k = λ column. load_from page column low high list h k

  to_row : (to : RowUse) (low middle high : ℕ) (list : List Beat) → RowUseFits g to → row_of low middle high < page_count g
      → Completes g (with_row to (row_of low middle high)) list → Addressed g to (row_beats low middle high list)
  to_row (ReadAt column) low middle high list fits there k =
      λ column_low column_high same. k (record { column_low = column_low; column_high = column_high; row_low = low; row_middle = middle; row_high = high }) same refl
  to_row (ProgramAt column) low middle high list fits there k = program_whole column low middle high list fits there k
  to_row ToErase low middle high list fits there k = k low middle high refl

  -- the high byte of a page's number, behind two bytes of this value
  to_high : (to : RowUse) (low high : ℕ) (list : List Beat) → RowUseFits g to → low + 65536 * high < page_count g
      → Completes g (with_row to (low + 65536 * high)) list → Completes g (RowHigh to low) ((Address high, Wait) ∷ list)
  to_high to low high list fits there k a b same =
      let row : low + 65536 * high ≡ row_of a b high = ap (λ (z : ℕ). z + 65536 * high) (sym same) in
      to_row to a b high list fits (subst (λ (z : ℕ). z < page_count g) row there) (subst (λ (z : ℕ). Completes g (with_row to z) list) row k)

  column_fits : (to : ColumnUse) (column : ℕ) → ColumnUseFits g to → column < raw_len g → PhaseFits g (with_column to column)
  column_fits ToRead column fits h = h
  column_fits ToProgram column fits h = h
  column_fits MoveRead column fits h = h
  column_fits (MoveLoad page) column fits h = (le_of_lt h, fits)

  row_fits : (to : RowUse) (page : ℕ) → RowUseFits g to → page < page_count g → PhaseFits g (with_row to page)
  row_fits (ReadAt column) page fits h = (fits, h)
  row_fits (ProgramAt column) page fits h = (le_of_lt fits, h)
  row_fits ToErase page fits h = h

  good_reset : (from : Phase) (n : ℕ) → Good g from (Command n) (or_reset n)
  good_reset from n =
      cond_both (n == 0xff) (Some (Idle, Reset)) None (Good g from (Command n))
      (λ t. record { fits = tt; act = tt; back = inr (ap Command (eqb-true n 0xff t), refl, refl) })
      (λ f. tt)

  -- a command of this number
  good_command : (from : Phase) (n m : ℕ) (phase : Phase) (act : Act) (otherwise : Move) → PhaseFits g phase → ActFits g (Command m) act
      → ((list : List Beat) → Completes g phase list → Completes g from ((Command m, act) ∷ list))
      → Good g from (Command n) otherwise → Good g from (Command n) (if n == m then Some (phase, act) else otherwise)
  good_command from n m phase act otherwise fits act_fits back other =
      cond_both (n == m) (Some (phase, act)) otherwise (Good g from (Command n))
      (λ t. subst (λ (k : ℕ). Good g from (Command k) (Some (phase, act))) (sym (eqb-true n m t)) (record { fits = fits; act = act_fits; back = inl back }))
      (λ f. other)

  status_phrase : (list : List Beat) → TellsOn g list → Phrases g ((Command 0x70, Wait) ∷ list)
  status_phrase list k =
      let whole : Phrases g (beats g (AskStatus k.count) ++ k.rest) = Then (AskStatus k.count) tt k.phrases in
      subst (λ (z : List Beat). Phrases g ((Command 0x70, Wait) ∷ z)) (sym k.is) whole

  good_opened : (from : Phase) → ((list : List Beat) → Phrases g list → Completes g from list) → (n : ℕ) → Good g from (Command n) (opened n)
  good_opened from opens n =
      good_command from n 0x00 (ColumnLow ToRead) Wait (program_or n) tt tt (λ list k. opens ((Command 0x00, Wait) ∷ list) k)
      (good_command from n 0x80 (ColumnLow ToProgram) Clear (erase_or n) tt tt (λ list k. opens ((Command 0x80, Clear) ∷ list) k)
      (good_command from n 0x60 (RowLow ToErase) Wait (status_or n) tt tt (λ list k. opens ((Command 0x60, Wait) ∷ list) k)
      (good_command from n 0x70 Status Wait (or_reset n) tt tt (λ list k. opens ((Command 0x70, Wait) ∷ list) (status_phrase list k)) (good_reset from n))))

  good_commanded : (from : Phase) (n : ℕ) → PhaseFits g from → Good g from (Command n) (commanded g from n)
  good_commanded Idle n fits = good_opened Idle (λ list k. k) n
  good_commanded Status n fits = good_opened Status tells_none n
  good_commanded (Reading column) n fits =
      good_command (Reading column) n 0x05 (ColumnLow MoveRead) Wait (opened n) tt tt (λ list k. k column) (good_opened (Reading column) (reads_none column) n)
  good_commanded (ReadConfirm column page) n fits =
      good_command (ReadConfirm column page) n 0x30 (Reading column) (ReadPage page) (or_reset n) (le_of_lt fits.0) fits.1
      (λ list k. read_whole column page list fits.0 fits.1 k) (good_reset (ReadConfirm column page) n)
  good_commanded (MoveConfirm column) n fits =
      good_command (MoveConfirm column) n 0xe0 (Reading column) Wait (or_reset n) (le_of_lt fits) tt
      (λ list k from low high same. read_from from column list fits k low high same) (good_reset (MoveConfirm column) n)
  good_commanded (Loading page column) n fits =
      good_command (Loading page column) n 0x85 (ColumnLow (MoveLoad page)) Wait (confirmed n 0x10 Idle (ProgramPage page)) fits.1 tt (λ list k. k column)
      (good_command (Loading page column) n 0x10 Idle (ProgramPage page) (or_reset n) tt (fits.1, refl) (λ list k. load_end page column list k)
      (good_reset (Loading page column) n))
  good_commanded (EraseConfirm page) n fits =
      good_command (EraseConfirm page) n 0xd0 Idle (EraseBlock (page / g.pages_per_block)) (or_reset n) tt (block_there g page fits, refl)
      (λ list k. erase_whole page list fits k) (good_reset (EraseConfirm page) n)
  good_commanded (ColumnLow to) n fits = good_reset (ColumnLow to) n
  good_commanded (ColumnHigh to low) n fits = good_reset (ColumnHigh to low) n
  good_commanded (RowLow to) n fits = good_reset (RowLow to) n
  good_commanded (RowMiddle to low) n fits = good_reset (RowMiddle to low) n
  good_commanded (RowHigh to low) n fits = good_reset (RowHigh to low) n

  -- a byte of an address
  good_below : (from : Phase) (b number limit : ℕ) (phase : Phase)
      → (number < limit → PhaseFits g phase × ((list : List Beat) → Completes g phase list → Completes g from ((Address b, Wait) ∷ list)))
      → Good g from (Address b) (led_below number limit phase)
  good_below from b number limit phase leads =
      cond_both (nat_lt number limit) (Some (phase, Wait)) None (Good g from (Address b))
      (λ t. let h = leads (ltb-true number limit t) in record { fits = h.0; act = tt; back = inl h.1 })
      (λ f. tt)

  good_addressed : (from : Phase) (b : ℕ) → PhaseFits g from → Good g from (Address b) (addressed g from b)
  good_addressed (ColumnLow to) b fits = good_below (ColumnLow to) b b (raw_len g) (ColumnHigh to b) (λ h. ((fits, h), λ list k. k))
  good_addressed (ColumnHigh to low) b fits =
      good_below (ColumnHigh to low) b (low + 256 * b) (raw_len g) (with_column to (low + 256 * b))
      (λ h. (column_fits to (low + 256 * b) fits.0 h, λ list k. to_column to low b list h k))
  good_addressed (RowLow to) b fits = good_below (RowLow to) b b (page_count g) (RowMiddle to b) (λ h. ((fits, h), λ list k. k))
  good_addressed (RowMiddle to low) b fits =
      good_below (RowMiddle to low) b (low + 256 * b) (page_count g) (RowHigh to (low + 256 * b)) (λ h. ((fits.0, h), λ list k. k low b refl))
  good_addressed (RowHigh to low) b fits =
      good_below (RowHigh to low) b (low + 65536 * b) (page_count g) (with_row to (low + 65536 * b))
      (λ h. (row_fits to (low + 65536 * b) fits.0 h, λ list k. to_high to low b list fits.0 h k))
  good_addressed Idle b fits = tt
  good_addressed Status b fits = tt
  good_addressed (Reading column) b fits = tt
  good_addressed (ReadConfirm column page) b fits = tt
  good_addressed (MoveConfirm column) b fits = tt
  good_addressed (Loading page column) b fits = tt
  good_addressed (EraseConfirm page) b fits = tt

  good_loaded : (from : Phase) (b : ℕ) → PhaseFits g from → Good g from (In b) (loaded g from b)
  good_loaded (Loading page column) b fits =
      cond_both (nat_lt column (raw_len g)) (Some (Loading page (column + 1), Put column b)) None (Good g (Loading page column) (In b))
      (λ t. let h = ltb-true column (raw_len g) t in
      record { fits = (step_le h, fits.1); act = h; back = inl (λ list k. byte_in page column b list h k) })
      (λ f. tt)
  good_loaded Idle b fits = tt
  good_loaded Status b fits = tt
  good_loaded (Reading column) b fits = tt
  good_loaded (ReadConfirm column page) b fits = tt
  good_loaded (MoveConfirm column) b fits = tt
  good_loaded (EraseConfirm page) b fits = tt
  good_loaded (ColumnLow to) b fits = tt
  good_loaded (ColumnHigh to low) b fits = tt
  good_loaded (RowLow to) b fits = tt
  good_loaded (RowMiddle to low) b fits = tt
  good_loaded (RowHigh to low) b fits = tt

  good_given : (from : Phase) → PhaseFits g from → Good g from Out (given g from)
  good_given (Reading column) fits =
      cond_both (nat_lt column (raw_len g)) (Some (Reading (column + 1), GiveByte column)) None (Good g (Reading column) Out)
      (λ t. let h = ltb-true column (raw_len g) t in
      record { fits = step_le h; act = h; back = inl (λ list k. byte_out column list h k) })
      (λ f. tt)
  good_given Status fits = record { fits = tt; act = tt; back = inl status_out }
  good_given Idle fits = tt
  good_given (ReadConfirm column page) fits = tt
  good_given (MoveConfirm column) fits = tt
  good_given (Loading page column) fits = tt
  good_given (EraseConfirm page) fits = tt
  good_given (ColumnLow to) fits = tt
  good_given (ColumnHigh to low) fits = tt
  good_given (RowLow to) fits = tt
  good_given (RowMiddle to low) fits = tt
  good_given (RowHigh to low) fits = tt

  -- each step is good
  good_steps : (from : Phase) (cycle : Cycle) → PhaseFits g from → Good g from cycle (step_of g from cycle)
  good_steps from (Command n) fits = good_commanded from n fits
  good_steps from (Address b) fits = good_addressed from b fits
  good_steps from (In b) fits = good_loaded from b fits
  good_steps from Out fits = good_given from fits

  -- each phase can be completed
  finish_row : (to : RowUse) (page : ℕ) → RowUseFits g to → page < page_count g → (list : List Beat) × Completes g (with_row to page) list
  finish_row (ReadAt column) page fits there =
      ((Command 0x30, ReadPage page) ∷ [], read_whole column page [] fits there (reads_none column [] NoPhrase))
  finish_row (ProgramAt column) page fits there = ((Command 0x10, ProgramPage page) ∷ [], load_end page column [] NoPhrase)
  finish_row ToErase page fits there = ((Command 0xd0, EraseBlock (page / g.pages_per_block)) ∷ [], erase_whole page [] there NoPhrase)

  finish_high : (to : RowUse) (low : ℕ) → RowUseFits g to → low < page_count g → (list : List Beat) × Completes g (RowHigh to low) list
  finish_high to low fits there =
      let more : low + 65536 * 0 < page_count g = omega arith in
      let f = finish_row to (low + 65536 * 0) fits more in
      ((Address 0, Wait) ∷ f.0, to_high to low 0 f.0 fits more f.1)

  finish_middle : (to : RowUse) (low : ℕ) → RowUseFits g to → low < page_count g → (list : List Beat) × Completes g (RowMiddle to low) list
  finish_middle to low fits there =
      let more : low + 256 * 0 < page_count g = omega arith in
      let f = finish_high to (low + 256 * 0) fits more in
      ((Address 0, Wait) ∷ f.0, f.1 low 0 refl)

  finish_low : (to : RowUse) → RowUseFits g to → (list : List Beat) × Completes g (RowLow to) list
  finish_low to fits = let f = finish_middle to 0 fits (pages_there g) in ((Address 0, Wait) ∷ f.0, f.1)

  finish_column : (to : ColumnUse) (column : ℕ) → ColumnUseFits g to → column < raw_len g → (list : List Beat) × Completes g (with_column to column) list
  finish_column ToRead column fits h = finish_low (ReadAt column) h
  finish_column ToProgram column fits h = finish_low (ProgramAt column) h
  finish_column MoveRead column fits h =
      ((Command 0xe0, Wait) ∷ [], λ from low high same. read_from from column [] h (reads_none column [] NoPhrase) low high same)
  finish_column (MoveLoad page) column fits h = ((Command 0x10, ProgramPage page) ∷ [], load_end page column [] NoPhrase)

  finish_column_high : (to : ColumnUse) (low : ℕ) → ColumnUseFits g to → low < raw_len g → (list : List Beat) × Completes g (ColumnHigh to low) list
  finish_column_high to low fits h =
      let more : column_of low 0 < raw_len g = omega arith in
      let f = finish_column to (column_of low 0) fits more in
      ((Address 0, Wait) ∷ f.0, to_column to low 0 f.0 more f.1)

  finish : (phase : Phase) → PhaseFits g phase → (list : List Beat) × Completes g phase list
  finish Idle fits = ([], NoPhrase)
  finish Status fits = ([], tells_none [] NoPhrase)
  finish (Reading column) fits = ([], reads_none column [] NoPhrase)
  finish (Loading page column) fits = ((Command 0x10, ProgramPage page) ∷ [], load_end page column [] NoPhrase)
  finish (ReadConfirm column page) fits = finish_row (ReadAt column) page fits.0 fits.1
  finish (MoveConfirm column) fits = finish_column MoveRead column tt fits
  finish (EraseConfirm page) fits = finish_row ToErase page tt fits
  finish (ColumnLow to) fits = let f = finish_column_high to 0 fits (bytes_there g) in ((Address 0, Wait) ∷ f.0, f.1)
  finish (ColumnHigh to low) fits = finish_column_high to low fits.0 fits.1
  finish (RowLow to) fits = finish_low to fits
  finish (RowMiddle to low) fits = finish_middle to low fits.0 fits.1
  finish (RowHigh to low) fits = finish_high to low fits.0 fits.1

  -- what came so far, with one step more, and what completes phrases behind it
  one_more : (done : List Beat) (from next : Phase) (beat : Beat) → PhaseFits g from → GoodStep g from beat.0 (next, beat.1)
      → ((list : List Beat) → Completes g from list → Phrases g (done ++ list))
      → (list : List Beat) → Completes g next list → Phrases g ((done ++ beat ∷ []) ++ list)
  one_more done from next beat fits good goes list k =
      subst (Phrases g) (sym (append_assoc done (beat ∷ []) list)) (go good.back)
    where
      go : ((list : List Beat) → Completes g next list → Completes g from (beat ∷ list)) ⊎ ((beat.0 ≡ Command 0xff) × (beat.1 ≡ Reset) × (next ≡ Idle))
          → Phrases g (done ++ beat ∷ list)
      go (inl back) = goes (beat ∷ list) (back list k)
      go (inr reset) =
          let f = finish from fits in
          let idle : Phrases g list = subst (λ (p : Phase). Completes g p list) reset.2 k in
          let same : beat ≡ (Command 0xff, Reset) = ap (λ (c : Cycle). (c, beat.1)) reset.0 ∙ ap (λ (a : Act). (Command 0xff, a)) reset.1 in
          subst (λ (b : Beat). Phrases g (done ++ b ∷ list)) (sym same) (ResetAfter done f.0 (goes f.0 f.1) idle)

  -- the same of a whole way
  goes_on : (list : List Beat) (done : List Beat) (from last : Phase) → PhaseFits g from
      → ((list : List Beat) → Completes g from list → Phrases g (done ++ list))
      → Leads g from list last → IsLegal g (done ++ list)
  goes_on [] done from last fits goes r =
      let f = finish from fits in
      (f.0, subst (λ (z : List Beat). Phrases g (z ++ f.0)) (sym (append-nil done)) (goes f.0 f.1))
  goes_on (beat ∷ list) done from last fits goes (next, e, r) =
      let good : GoodStep g from beat.0 (next, beat.1) = subst (Good g from beat.0) e (good_steps from beat.0 fits) in
      let legal = goes_on list (done ++ beat ∷ []) next last good.fits (one_more done from next beat fits good goes) r in
      subst (IsLegal g) (append_assoc done (beat ∷ []) list) legal

  -- cycles that are taken from the start are those of a legal list
  pub taken_legal : (list : List Beat) (phase : Phase) → Leads g Idle list phase → IsLegal g list
  taken_legal list phase r = goes_on list [] Idle phase tt (λ list k. k) r

  -- a phase that cycles lead to fits
  pub steps_fit : (from : Phase) (cycle : Cycle) (step : Phase × Act) → PhaseFits g from → step_of g from cycle ≡ Some step
      → PhaseFits g step.0 × ActFits g cycle step.1
  steps_fit from cycle step fits e =
      let good : GoodStep g from cycle step = subst (Good g from cycle) e (good_steps from cycle fits) in (good.fits, good.act)

  -- the same of a step that the code has found
  pub fits_of : (from : Phase) (cycle : Cycle) (move : Move) → PhaseFits g from → move ≡ step_of g from cycle → IfSome move (λ step. PhaseFits g step.0)
  fits_of from cycle None fits e = tt
  fits_of from cycle (Some step) fits e = (steps_fit from cycle step fits (sym e)).0

  pub act_of : (from : Phase) (cycle : Cycle) (move : Move) → PhaseFits g from → move ≡ step_of g from cycle → IfSome move (λ step. ActFits g cycle step.1)
  act_of from cycle None fits e = tt
  act_of from cycle (Some step) fits e = (steps_fit from cycle step fits (sym e)).1
