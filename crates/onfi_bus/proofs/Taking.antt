-- Each legal list of cycles is taken, one cycle at a time.
use Rattle.std.proofs.Common.{◌≡◌, ℕ, zero, suc, ◌+◌, ◌*◌, ◌/◌, ◌<◌, Bool, true, List, [], ◌∷◌, ◌++◌, replicate, Some, None, refl, sym, subst, ◌∙◌, arith}
use Rattle.std.specs.Prelude.{if◌then◌else◌, nat_lt}
use Rattle.std.proofs.lemmas.Bool.{cond-true, lt-ltb}
use Rattle.std.proofs.lemmas.Option.{some_pair_parts}
use Rattle.nand_model.specs.Sizes.{page_count, raw_len}
use Rattle.nand_model.specs.declared.geometry.Geometry.{Geometry}
use Rattle.onfi_bus.specs.Moves.{Move, led_below, step_of, with_column, with_row}
use Rattle.onfi_bus.specs.Phrases.{Beat, Phrase, Read, Program, Erase, AskStatus, Place, ReadItem, ByteOut, ReadFrom, LoadItem, ByteIn, LoadFrom, Phrases, NoPhrase, Then, ResetAfter, CanRead, CanLoad, IsLegal, IsPhrase, IsPlace, Leads, beats, column_at, column_beats, column_of, load_beats, page_at, place_beats, read_beats, row_beats, row_of}
use Rattle.onfi_bus.specs.declared.cycle.Cycle.TheVariants.{Command, Out}
use Rattle.onfi_bus.specs.declared.phase.Act.{Act}
use Rattle.onfi_bus.specs.declared.phase.Act.TheVariants.{Wait, Clear, EraseBlock, GiveByte, GiveStatus, Put, ReadPage, Reset}
use Rattle.onfi_bus.specs.declared.phase.ColumnUse.{ColumnUse}
use Rattle.onfi_bus.specs.declared.phase.ColumnUse.TheVariants.{ToRead, ToProgram, MoveRead, MoveLoad}
use Rattle.onfi_bus.specs.declared.phase.Phase.{Phase}
use Rattle.onfi_bus.specs.declared.phase.Phase.TheVariants.{Idle, ColumnLow, ColumnHigh, RowLow, RowMiddle, RowHigh, ReadConfirm, Reading, MoveConfirm, Loading, EraseConfirm, Status}
use Rattle.onfi_bus.specs.declared.phase.RowUse.{RowUse}
use Rattle.onfi_bus.specs.declared.phase.RowUse.TheVariants.{ReadAt, ProgramAt, ToErase}

-- a phase at which a phrase may begin
data IsOpen : Phase → Type 0 where
  idle : IsOpen Idle
  reading : {column : ℕ} → IsOpen (Reading column)
  status : IsOpen Status

-- a step that a test lets through
pub taken_if : (b : Bool) (step : Phase × Act) → b ≡ true → (if b then Some step else None) ≡ Some step
taken_if b step h = cond-true {A = Move} b (Some step) None h

module _ (g : Geometry) where
  -- a way in two parts
  pub Leads-append : (xs ys : List Beat) (from mid to : Phase) → Leads g from xs mid → Leads g mid ys to → Leads g from (xs ++ ys) to
  Leads-append [] ys from mid to e r = subst (λ (p : Phase). Leads g p ys to) (sym e) r
  Leads-append (x ∷ xs) ys from mid to (next, e, r) s = (next, e, Leads-append xs ys next mid to r s)

  pub Leads-split : (xs ys : List Beat) (from to : Phase) → Leads g from (xs ++ ys) to → (mid : Phase) × Leads g from xs mid × Leads g mid ys to
  Leads-split [] ys from to r = (from, refl, r)
  Leads-split (x ∷ xs) ys from to (next, e, r) = let s = Leads-split xs ys next to r in (s.0, (next, e, s.1), s.2)

  -- cycles lead to one phase
  pub Leads-one : (xs : List Beat) (from a b : Phase) → Leads g from xs a → Leads g from xs b → a ≡ b
  Leads-one [] from a b e f = sym e ∙ f
  Leads-one (x ∷ xs) from a b (n, e, r) (m, f, s) =
      Leads-one xs n a b r (subst (λ (p : Phase). Leads g p xs b) (sym (some_pair_parts n m x.1 x.1 (sym e ∙ f)).0) s)

  open_read : {from : Phase} → IsOpen from → step_of g from (Command 0x00) ≡ Some (ColumnLow ToRead, Wait)
  open_read idle = refl
  open_read reading = refl
  open_read status = refl

  open_program : {from : Phase} → IsOpen from → step_of g from (Command 0x80) ≡ Some (ColumnLow ToProgram, Clear)
  open_program idle = refl
  open_program reading = refl
  open_program status = refl

  open_erase : {from : Phase} → IsOpen from → step_of g from (Command 0x60) ≡ Some (RowLow ToErase, Wait)
  open_erase idle = refl
  open_erase reading = refl
  open_erase status = refl

  open_status : {from : Phase} → IsOpen from → step_of g from (Command 0x70) ≡ Some (Status, Wait)
  open_status idle = refl
  open_status reading = refl
  open_status status = refl

  reset_leads : (from : Phase) → step_of g from (Command 0xff) ≡ Some (Idle, Reset)
  reset_leads Idle = refl
  reset_leads Status = refl
  reset_leads (ColumnLow to) = refl
  reset_leads (ColumnHigh to low) = refl
  reset_leads (RowLow to) = refl
  reset_leads (RowMiddle to low) = refl
  reset_leads (RowHigh to low) = refl
  reset_leads (ReadConfirm column page) = refl
  reset_leads (Reading column) = refl
  reset_leads (MoveConfirm column) = refl
  reset_leads (Loading page column) = refl
  reset_leads (EraseConfirm page) = refl

  pub below_leads : (number limit : ℕ) (phase : Phase) → number < limit → led_below number limit phase ≡ Some (phase, Wait)
  below_leads number limit phase h = taken_if (nat_lt number limit) (phase, Wait) (lt-ltb number limit h)

  column_leads : (to : ColumnUse) (low high : ℕ) (rest : List Beat) (last : Phase) → column_of low high < raw_len g
      → Leads g (with_column to (column_of low high)) rest last → Leads g (ColumnLow to) (column_beats low high rest) last
  column_leads to low high rest last h r =
      let small : low < raw_len g = omega arith in (
        ColumnHigh to low,
        below_leads low (raw_len g) (ColumnHigh to low) small,
        (with_column to (column_of low high), below_leads (column_of low high) (raw_len g) (with_column to (column_of low high)) h, r),
      )

  row_leads : (to : RowUse) (low middle high : ℕ) (rest : List Beat) (last : Phase) → row_of low middle high < page_count g
      → Leads g (with_row to (row_of low middle high)) rest last → Leads g (RowLow to) (row_beats low middle high rest) last
  row_leads to low middle high rest last h r =
      let small : low < page_count g = omega arith in
      let next : low + 256 * middle < page_count g = omega arith in (
        RowMiddle to low,
        below_leads low (page_count g) (RowMiddle to low) small,
        (
          RowHigh to (low + 256 * middle),
          below_leads (low + 256 * middle) (page_count g) (RowHigh to (low + 256 * middle)) next,
          (with_row to (row_of low middle high), below_leads (row_of low middle high) (page_count g) (with_row to (row_of low middle high)) h, r),
        ),
      )

  items_read : (items : List ReadItem) (column : ℕ) → CanRead g column items → (last : ℕ) × Leads g (Reading column) (read_beats column items) (Reading last)
  items_read [] column h = (column, refl)
  items_read (ByteOut ∷ items) column h =
      let r = items_read items (column + 1) h.1 in
      (r.0, (Reading (column + 1), taken_if (nat_lt column (raw_len g)) (Reading (column + 1), GiveByte column) (lt-ltb column (raw_len g) h.0), r.1))
  items_read (ReadFrom low high ∷ items) column h =
      let r = items_read items (column_of low high) h.1 in
      (r.0, (ColumnLow MoveRead, refl, column_leads MoveRead low high ((Command 0xe0, Wait) ∷ read_beats (column_of low high) items) (Reading r.0) h.0 (Reading (column_of low high), refl, r.1)))

  items_load : (items : List LoadItem) (page column : ℕ) → CanLoad g column items → Leads g (Loading page column) (load_beats page column items) Idle
  items_load [] page column h = (Idle, refl, refl)
  items_load (ByteIn byte ∷ items) page column h = (
    Loading page (column + 1),
    taken_if (nat_lt column (raw_len g)) (Loading page (column + 1), Put column byte) (lt-ltb column (raw_len g) h.0),
    items_load items page (column + 1) h.1,
  )
  items_load (LoadFrom low high ∷ items) page column h =
      (ColumnLow (MoveLoad page), refl, column_leads (MoveLoad page) low high (load_beats page (column_of low high) items) Idle h.0 (items_load items page (column_of low high) h.1))

  status_leads : (n : ℕ) → Leads g Status (replicate n (Out, GiveStatus)) Status
  status_leads zero = refl
  status_leads (suc n) = (Status, refl, status_leads n)

  place_leads : (p : Place) (rest : List Beat) (last : Phase) → IsPlace g p
      → Leads g (ReadConfirm (column_at p) (page_at p)) rest last → Leads g (ColumnLow ToRead) (place_beats p rest) last
  place_leads p rest last h r =
      column_leads ToRead p.column_low p.column_high (row_beats p.row_low p.row_middle p.row_high rest) last h.0 (row_leads (ReadAt (column_at p)) p.row_low p.row_middle p.row_high rest last h.1 r)

  place_loads : (p : Place) (rest : List Beat) (last : Phase) → IsPlace g p
      → Leads g (Loading (page_at p) (column_at p)) rest last → Leads g (ColumnLow ToProgram) (place_beats p rest) last
  place_loads p rest last h r =
      column_leads ToProgram p.column_low p.column_high (row_beats p.row_low p.row_middle p.row_high rest) last h.0 (row_leads (ProgramAt (column_at p)) p.row_low p.row_middle p.row_high rest last h.1 r)

  -- a phrase is taken wherever one may begin, and after it one may begin
  phrase_leads : (p : Phrase) (from : Phase) → IsOpen from → IsPhrase g p → (to : Phase) × IsOpen to × Leads g from (beats g p) to
  phrase_leads (Read p items) from open_ h =
      let r = items_read items (column_at p) h.1 in
      (Reading r.0, reading, (ColumnLow ToRead, open_read open_, place_leads p ((Command 0x30, ReadPage (page_at p)) ∷ read_beats (column_at p) items) (Reading r.0) h.0 (Reading (column_at p), refl, r.1)))
  phrase_leads (Program p items) from open_ h =
      (Idle, idle, (ColumnLow ToProgram, open_program open_, place_loads p (load_beats (page_at p) (column_at p) items) Idle h.0 (items_load items (page_at p) (column_at p) h.1)))
  phrase_leads (Erase low middle high) from open_ h =
      (Idle, idle, (RowLow ToErase, open_erase open_, row_leads ToErase low middle high ((Command 0xd0, EraseBlock (row_of low middle high / g.pages_per_block)) ∷ []) Idle h (Idle, refl, refl)))
  phrase_leads (AskStatus bytes) from open_ h = (Status, status, (Status, open_status open_, status_leads bytes))

  -- whole phrases are taken wherever one may begin
  phrases_lead : {list : List Beat} → Phrases g list → (from : Phase) → IsOpen from → (to : Phase) × IsOpen to × Leads g from list to
  phrases_lead NoPhrase from open_ = (from, open_, refl)
  phrases_lead (Then p fits {rest = rest} r) from open_ =
      let one = phrase_leads p from open_ fits in
      let others = phrases_lead r one.0 one.1 in
      (others.0, others.1, Leads-append (beats g p) rest from one.0 others.0 one.2 others.2)
  phrases_lead (ResetAfter start more begins {rest = rest} r) from open_ =
      let whole = phrases_lead begins from open_ in
      let parts = Leads-split start more from whole.0 whole.2 in
      let others = phrases_lead r Idle idle in
      (others.0, others.1, Leads-append start ((Command 0xff, Reset) ∷ rest) from parts.0 others.0 parts.1 (Idle, reset_leads parts.0, others.2))

  -- a legal list is taken from the start
  pub legal_taken : (list : List Beat) → IsLegal g list → (phase : Phase) × Leads g Idle list phase
  legal_taken list (more, phrases) =
      let whole = phrases_lead phrases Idle idle in
      let parts = Leads-split list more Idle whole.0 whole.2 in
      (parts.0, parts.1)
