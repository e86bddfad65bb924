-- What an attach finds where the last four blocks hold a newest copy.
use Rattle.std.proofs.Common.{◌≡◌, ◌≢◌, ◌⊎◌, ℕ, Bool, true, false, ◌==◌, List, refl, ap, sym, ◌∙◌, inl, inr, Option, Some, None, true≢false}
use Rattle.std.proofs.lemmas.Bool.Decides.{eqb_tells}
use Rattle.nand_model.specs.Table.{Copy, table_blocks, calls_bad}
use Rattle.nand_model.specs.declared.geometry.Geometry.{Geometry}
use Rattle.nand_model.specs.declared.words.Which.{Which}
use Rattle.chip_paths.specs.Writing.{other_of}
use Rattle.chip_paths.specs.Copies.{is_disowned, is_valid, found_among}
use Rattle.relocation_laws.specs.Shelves.{Held, Shelf, IsOlder, Newest}
use Rattle.page_laws.specs.Keeping.{IsIn}
use Rattle.relocation_laws.specs.Tables.{IsTable, IsTableBlock}
use Rattle.relocation_laws.proofs.Induction.{other-other, some-same}
use Rattle.relocation_laws.specs.Agreement.{copy_as, listed}
use Rattle.relocation_laws.proofs.Finding.{found-at, found-none, disowned-at, disowned-never, valid-at, not-valid-kind, not-valid-disowned}

module _ (g : Geometry) (is_good : ℕ → Bool) (Good : List ℕ → Type 0) (holds : Shelf) (j : Newest (IsTableBlock g is_good) (IsTable g) Good holds) where
  abbrev n : ℕ
  n = j.place

  abbrev newest : Held
  newest = j.copy

  abbrev kind : Which
  kind = newest.which

  abbrev held : List (ℕ × Copy)
  held = listed holds (table_blocks g)

  inside : IsIn (table_blocks g) n
  inside = (j.beneath n newest j.at).inside.0

  -- what the newest copy does not call bad, no copy does
  uncovered : (b x : ℕ) (d : Held) → calls_bad newest.table b ≡ false → holds x ≡ Some d → calls_bad d.table b ≡ false
  uncovered b x d free e = on (calls_bad d.table b) refl
    where
      on : (t : Bool) → calls_bad d.table b ≡ t → calls_bad d.table b ≡ false
      on true h = absurd (true≢false (sym ((j.beneath x d e).covered b h) ∙ free))
      on false h = h

  pub owned : (b : ℕ) → calls_bad newest.table b ≡ false → is_disowned held b ≡ false
  owned b free = disowned-never holds (table_blocks g) b (λ x d e apart. uncovered b x d free e)

  disowned : (b : ℕ) → b ≢ n → calls_bad newest.table b ≡ true → is_disowned held b ≡ true
  disowned b apart bad = disowned-at holds (table_blocks g) b n newest inside j.at (λ e. apart (sym e)) bad

  -- the newest copy is found
  pub found-newest : found_among held kind ≡ Some (n, copy_as newest)
  found-newest = found-at holds (is_valid held kind) (table_blocks g) n newest inside j.at (valid-at held kind n newest refl (owned n j.own)) only
    where
      only : (b : ℕ) (d : Held) → holds b ≡ Some d → is_valid held kind (b, copy_as d) ≡ true → b ≡ n
      only b d e valid = on (eqb_tells b n)
        where
          beside : b ≢ n → (calls_bad newest.table b ≡ true) ⊎ ((b ≡ j.second) × (d.which ≡ other_of kind) × IsOlder 3 d newest × Good d.table) → b ≡ n
          beside apart (inl h) = absurd (true≢false (sym valid ∙ not-valid-disowned held kind b d (disowned b apart h)))
          beside apart (inr h) = absurd (true≢false (sym valid ∙ not-valid-kind held kind b d h.1))

          on : ((b == n) ≡ true) × (b ≡ n) ⊎ (((b == n) ≡ false) × (b ≢ n)) → b ≡ n
          on (inl t) = t.1
          on (inr t) = beside t.1 (j.others b d e t.1)

  -- no copy of the other kind is found
  pub record Alone : Type 0 where
    pub none : found_among held (other_of kind) ≡ None
    pub rest : (b : ℕ) (c : Held) → holds b ≡ Some c → b ≢ n → calls_bad newest.table b ≡ true

  -- an older copy of the other kind is found
  pub record Two : Type 0 where
    pub m : ℕ
    pub older : Held
    pub found : found_among held (other_of kind) ≡ Some (m, copy_as older)
    pub at : holds m ≡ Some older
    pub apart : m ≢ n
    pub free : calls_bad newest.table m ≡ false
    pub kind_is : older.which ≡ other_of kind
    pub is_older : IsOlder 3 older newest
    pub shows : Good older.table
    pub rest : (b : ℕ) (c : Held) → holds b ≡ Some c → b ≢ n → b ≢ m → calls_bad newest.table b ≡ true

  alone : ((b : ℕ) (c : Held) → holds b ≡ Some c → b ≢ n → calls_bad newest.table b ≡ true) → Alone
  alone rest = record { none = found-none holds (is_valid held (other_of kind)) (table_blocks g) never; rest = rest }
    where
      never : (b : ℕ) (d : Held) → holds b ≡ Some d → is_valid held (other_of kind) (b, copy_as d) ≡ false
      never b d e = on (eqb_tells b n)
        where
          on : ((b == n) ≡ true) × (b ≡ n) ⊎ (((b == n) ≡ false) × (b ≢ n)) → is_valid held (other_of kind) (b, copy_as d) ≡ false
          on (inl t) = not-valid-kind held (other_of kind) b d (ap (λ (c : Held). c.which) (some-same d newest (sym e ∙ ap holds t.1 ∙ j.at)) ∙ sym (other-other kind))
          on (inr t) = not-valid-disowned held (other_of kind) b d (disowned b t.1 (rest b d e t.1))

  two : (m : ℕ) (c : Held) → holds m ≡ Some c → m ≢ n → calls_bad newest.table m ≡ false → c.which ≡ other_of kind → IsOlder 3 c newest → Good c.table
      → ((b : ℕ) (d : Held) → holds b ≡ Some d → b ≢ n → b ≢ m → calls_bad newest.table b ≡ true) → Two
  two m c at apart free kind_is is_older shows rest =
      record {
        m = m;
        older = c;
        found = found-at holds (is_valid held (other_of kind)) (table_blocks g) m c (j.beneath m c at).inside.0 at (valid-at held (other_of kind) m c kind_is (owned m free)) only;
        at = at;
        apart = apart;
        free = free;
        kind_is = kind_is;
        is_older = is_older;
        shows = shows;
        rest = rest;
      }
    where
      only : (b : ℕ) (d : Held) → holds b ≡ Some d → is_valid held (other_of kind) (b, copy_as d) ≡ true → b ≡ m
      only b d e valid = on (eqb_tells b m) (eqb_tells b n)
        where
          on : ((b == m) ≡ true) × (b ≡ m) ⊎ (((b == m) ≡ false) × (b ≢ m)) → ((b == n) ≡ true) × (b ≡ n) ⊎ (((b == n) ≡ false) × (b ≢ n)) → b ≡ m
          on (inl t) u = t.1
          on (inr t) (inl u) =
              absurd (true≢false (sym valid ∙ not-valid-kind held (other_of kind) b d (ap (λ (k : Held). k.which) (some-same d newest (sym e ∙ ap holds u.1 ∙ j.at)) ∙ sym (other-other kind))))
          on (inr t) (inr u) = absurd (true≢false (sym valid ∙ not-valid-disowned held (other_of kind) b d (disowned b u.1 (rest b d e u.1 t.1))))

  -- beside the newest copy one more is found, or none
  pub found-second : Alone ⊎ Two
  found-second = on (holds j.second) refl
    where
      Other : ℕ → Held → Type 0
      Other b c = (calls_bad newest.table b ≡ true) ⊎ ((b ≡ j.second) × (c.which ≡ other_of kind) × IsOlder 3 c newest × Good c.table)

      -- every copy beside the newest one stands in a block called bad, where that of the second
      -- block is none or does too
      all-bad : ((c : Held) → holds j.second ≡ Some c → j.second ≢ n → calls_bad newest.table j.second ≡ true) → (b : ℕ) (c : Held) → holds b ≡ Some c → b ≢ n → calls_bad newest.table b ≡ true
      all-bad second b c e apart = by (j.others b c e apart)
        where
          by : Other b c → calls_bad newest.table b ≡ true
          by (inl h) = h
          by (inr h) = ap (calls_bad newest.table) h.0 ∙ second c (ap holds (sym h.0) ∙ e) (λ q. apart (h.0 ∙ q))

      but-second : (b : ℕ) (d : Held) → holds b ≡ Some d → b ≢ n → b ≢ j.second → calls_bad newest.table b ≡ true
      but-second b d e apart far = by (j.others b d e apart)
        where
          by : Other b d → calls_bad newest.table b ≡ true
          by (inl h) = h
          by (inr h) = absurd (far h.0)

      live : (c : Held) → holds j.second ≡ Some c → j.second ≢ n → calls_bad newest.table j.second ≡ false → Other j.second c → Alone ⊎ Two
      live c e apart free (inl h) = absurd (true≢false (sym h ∙ free))
      live c e apart free (inr h) = inr (two j.second c e apart free h.1 h.2 h.3 but-second)

      by-table : (c : Held) → holds j.second ≡ Some c → j.second ≢ n → (t : Bool) → calls_bad newest.table j.second ≡ t → Alone ⊎ Two
      by-table c e apart true h = inl (alone (all-bad (λ d q m. h)))
      by-table c e apart false h = live c e apart h (j.others j.second c e apart)

      by-place : (c : Held) → holds j.second ≡ Some c → ((j.second == n) ≡ true) × (j.second ≡ n) ⊎ (((j.second == n) ≡ false) × (j.second ≢ n)) → Alone ⊎ Two
      by-place c e (inl t) = inl (alone (all-bad (λ d q m. absurd (m t.1))))
      by-place c e (inr t) = by-table c e t.1 (calls_bad newest.table j.second) refl

      on : (o : Option Held) → holds j.second ≡ o → Alone ⊎ Two
      on None e = inl (alone (all-bad (λ d q m. absurd (cc (e, q)))))
      on (Some c) e = by-place c e (eqb_tells j.second n)
