-- A marking with tables: what it writes, and what is remembered then.
use Rattle.std.proofs.Common.{◌≡◌, ◌≢◌, ◌⊎◌, ◌<◌, ◌≤◌, ℕ, zero, suc, ◌-◌, Bool, true, false, List, [], ◌∷◌, length, refl, ap, sym, ◌∙◌, arith, Option, Some, None, inl, inr, subst, slice_index, slice_set, bit_or, eqb}
use Rattle.std.proofs.lemmas.Bool.Decides.{eqb_tells}
use Rattle.chip_paths.specs.Writing.{Places, place_of, marked, next_version, Writing, is_whole, with_whole, whole_count, written_by, after_good, moved, next_place, other_of}
use Rattle.nand_model.specs.Table.{table_blocks, is_bad_state, calls_bad, read_again}
use Rattle.chip_paths.specs.Operation.{Known, Finished, answer, mark_reply, after_writing, writing_reply, mark_writing, write_tables}
use Rattle.nand_model.specs.Path.{Answer, is_failure}
use Rattle.nand_model.specs.declared.geometry.Geometry.{Geometry}
use Rattle.nand_model.specs.declared.words.Which.{Which}
use Rattle.nand_model.specs.declared.words.Which.TheVariants.{Primary, Mirror}
use Rattle.nand_model.specs.declared.words.Reply.TheVariants.{Done, TableFailed}
use Rattle.relocation_laws.specs.Shelves.{Shelf, IsCovered, TableLaws, Rests, HoldsBoth, Ended, Keeps}
use Rattle.relocation_laws.specs.Goes.{Goes}
use Rattle.relocation_laws.specs.Life.{is_begun}
use Rattle.page_laws.specs.Keeping.{IsIn}
use Rattle.relocation_laws.specs.Tables.{IsTable, Shows, IsTableBlock}
use Rattle.relocation_laws.proofs.Attaching.{few-whole}
use Rattle.relocation_laws.proofs.Going.{goes-along}
use Rattle.relocation_laws.proofs.Starting.{start-mark, both-rest}
use Rattle.relocation_laws.proofs.Tables.{reserved_at, set-other, set-own, long-set, grows-marked, stays-marked}

head-same : (x y : ℕ) (xs ys : List ℕ) → x ∷ xs ≡ y ∷ ys → x ≡ y
head-same x y xs ys e = cc

tail-same : (x y : ℕ) (xs ys : List ℕ) → x ∷ xs ≡ y ∷ ys → xs ≡ ys
tail-same x y xs ys e = cc

-- a data block that is called worn: the table still comes back
back-low : (n : ℕ) (table : List ℕ) (b : ℕ) → b < n → reserved_at n (read_again table) ≡ table → reserved_at n (read_again (slice_set table b 1)) ≡ slice_set table b 1
back-low zero table b h e = absurd (omega (arith, h))
back-low (suc n) [] b h e = refl
back-low (suc n) (x ∷ xs) zero h e = ap (λ (ys : List ℕ). 1 ∷ ys) (tail-same _ _ _ _ e)
back-low (suc n) (x ∷ xs) (suc b) h e =
    let first = head-same _ _ _ _ e in
    let low : b < n = omega (arith, h) in
    let t = back-low n xs b low (tail-same _ _ _ _ e) in
    cc

set-past : (table : List ℕ) (b v : ℕ) → length table ≤ b → slice_set table b v ≡ table
set-past [] b v h = refl
set-past (x ∷ xs) zero v h = absurd (omega (arith, h))
set-past (x ∷ xs) (suc b) v h = let less : length xs ≤ b = omega (arith, h) in ap (λ (ys : List ℕ). x ∷ ys) (set-past xs b v less)

-- a block below the last four, or none of the chip's
low-or-past : (g : Geometry) → 4 ≤ g.blocks → (b : ℕ) → (IsIn (table_blocks g) b → ⊥) → (b < g.blocks - 4) ⊎ (g.blocks ≤ b)
low-or-past g enough b out = on (eqb_tells b (g.blocks - 1)) (eqb_tells b (g.blocks - 2)) (eqb_tells b (g.blocks - 3)) (eqb_tells b (g.blocks - 4))
  where
    on : ((eqb b (g.blocks - 1) ≡ true) × (b ≡ g.blocks - 1)) ⊎ ((eqb b (g.blocks - 1) ≡ false) × (b ≢ g.blocks - 1)) → ((eqb b (g.blocks - 2) ≡ true) × (b ≡ g.blocks - 2)) ⊎ ((eqb b (g.blocks - 2) ≡ false) × (b ≢ g.blocks - 2))
        → ((eqb b (g.blocks - 3) ≡ true) × (b ≡ g.blocks - 3)) ⊎ ((eqb b (g.blocks - 3) ≡ false) × (b ≢ g.blocks - 3)) → ((eqb b (g.blocks - 4) ≡ true) × (b ≡ g.blocks - 4)) ⊎ ((eqb b (g.blocks - 4) ≡ false) × (b ≢ g.blocks - 4))
        → (b < g.blocks - 4) ⊎ (g.blocks ≤ b)
    on (inl t) u v w = absurd (out (inl t.1))
    on (inr t) (inl u) v w = absurd (out (inr (inl u.1)))
    on (inr t) (inr u) (inl v) w = absurd (out (inr (inr (inl v.1))))
    on (inr t) (inr u) (inr v) (inl w) = absurd (out (inr (inr (inr (inl w.1)))))
    on (inr t) (inr u) (inr v) (inr w) = split (le-or-lt g.blocks b)
      where
        le-or-lt : (m n : ℕ) → (m ≤ n) ⊎ (n < m)
        le-or-lt zero n = inl (omega arith)
        le-or-lt (suc m) zero = inr (omega arith)
        le-or-lt (suc m) (suc n) = by (le-or-lt m n)
          where
            by : (m ≤ n) ⊎ (n < m) → (suc m ≤ suc n) ⊎ (suc n < suc m)
            by (inl h) = inl (omega (arith, h))
            by (inr h) = inr (omega (arith, h))

        split : (g.blocks ≤ b) ⊎ (b < g.blocks) → (b < g.blocks - 4) ⊎ (g.blocks ≤ b)
        split (inl h) = inr h
        split (inr h) = inl (omega (arith, h, enough, t.1, u.1, v.1, w.1))

-- a table that covers another one still does after each event of a writing
moved-table : (w : Writing) (which : Which) (o : Option ℕ) (n : ℕ) → (moved w which o n).table ≡ w.table
moved-table w which None n = refl
moved-table w which (Some b) zero = refl
moved-table w which (Some b) (suc n) = refl

covers-on : (g : Geometry) (base : List ℕ) (w : Writing) (good : Bool) → IsCovered base w.table → IsCovered base (written_by g w w.left good).table
covers-on g base w good h = on w.left good
  where
    after : (which : Which) (more : List Which) (erased : Bool) → (after_good w which more erased).table ≡ w.table
    after which more true = refl
    after which more false = refl

    on : (left : List Which) (good : Bool) → IsCovered base (written_by g w left good).table
    on [] good = h
    on (which ∷ more) true = subst (IsCovered base) (sym (after which more w.erased)) h
    on (which ∷ more) false =
        subst (IsCovered base) (sym (moved-table (record w { table = marked w.table (place_of w.places which); whole = with_whole w.whole which false; erased = false }) which (next_place g (marked w.table (place_of w.places which)) (place_of w.places (other_of which))) w.chances))
        (λ b e. grows-marked w.table (place_of w.places which) b (h b e))

module _ (g : Geometry) (enough : 4 ≤ g.blocks) (is_good : ℕ → Bool) (F : ℕ → Type 0) where
  abbrev TB : ℕ → Type 0
  TB = IsTableBlock g is_good

  form-marked : (table : List ℕ) (b : ℕ) → (IsIn (table_blocks g) b → ⊥) → slice_index table b ≡ 0 → IsTable g table → IsTable g (marked table b)
  form-marked table b out zero_ f = on (low-or-past g enough b out)
    where
      is-set : marked table b ≡ slice_set table b 1
      is-set = ap (λ s. slice_set table b (bit_or s 1)) zero_

      on : (b < g.blocks - 4) ⊎ (g.blocks ≤ b) → IsTable g (marked table b)
      on (inl low) =
          subst (IsTable g) (sym is-set) (record {
            long = long-set table b 1 ∙ f.long;
            back = back-low (g.blocks - 4) table b low f.back;
            reserved = λ c i. subst (λ s. (s ≡ 2) ⊎ (s ≡ 3)) (sym (set-other table b c 1 (λ e. out (subst (IsIn (table_blocks g)) e i)))) (f.reserved c i);
          })
      on (inr past) = subst (IsTable g) (sym (is-set ∙ set-past table b 1 (omega (arith, past, f.long)))) f

  -- more may have begun, and fewer be acknowledged
  pub shows-fewer : (A B A1 B1 : ℕ → Type 0) (table : List ℕ) → ((b : ℕ) → A1 b → A b) → ((b : ℕ) → B b → B1 b) → Shows g F A B table → Shows g F A1 B1 table
  shows-fewer A B A1 B1 table fewer more s =
      record { factory = s.factory; acked = λ b small a. s.acked b small (fewer b a); no_other = λ b small h. on b (s.no_other b small h) }
    where
      on : (b : ℕ) → F b ⊎ B b → F b ⊎ B1 b
      on b (inl f) = inl f
      on b (inr x) = inr (more b x)

  -- two copies that hold the table, under another reading of what it should show
  pub both-shows : (Good Good1 : List ℕ → Type 0) (Fresh Fresh1 : Type 0) (table : List ℕ) (version : ℕ) (places : Places) (h : Shelf) → Good1 table → HoldsBoth TB (IsTable g) Good Fresh table version places h
      → HoldsBoth TB (IsTable g) Good1 Fresh1 table version places h
  both-shows Good Good1 Fresh Fresh1 table version places h good b =
      record {
        writable = record { byte = b.writable.byte; form = b.writable.form; shows = good };
        fit = record { inside = b.fit.inside; free = b.fit.free; apart = b.fit.apart };
        at = b.at;
        beneath = λ x c e. let q = b.beneath x c e in record { inside = q.inside; version = q.version; form = q.form; covered = q.covered };
        others = b.others;
      }

  module _ (A B Fails : ℕ → Type 0) (Fresh : Type 0) (block : ℕ) (out : IsIn (table_blocks g) block → ⊥) (begun : B block) (laws : TableLaws g TB Fails (IsTable g) (Shows g F A B)) where
    abbrev Good_ : List ℕ → Type 0
    Good_ = Shows g F A B

    shows-marked : (table : List ℕ) → Shows g F A B table → Shows g F A B (marked table block)
    shows-marked table s =
        record {
          factory = λ c small f. grows-marked table block c (s.factory c small f);
          acked = λ c small a. grows-marked table block c (s.acked c small a);
          no_other = λ c small h. on c small h (eqb_tells c block);
        }
      where
        on : (c : ℕ) → c < g.blocks → calls_bad (marked table block) c ≡ true → ((eqb c block ≡ true) × (c ≡ block)) ⊎ ((eqb c block ≡ false) × (c ≢ block)) → F c ⊎ B c
        on c small h (inl t) = inr (subst B (sym t.1) begun)
        on c small h (inr t) = s.no_other c small (sym (stays-marked table block c t.1) ∙ h)

    -- what a marking comes to: the chip rests, two whole copies hold the table, and where it is
    -- done they do, and the table calls the block bad
    pub record IsMarked (f : Finished) (h : Shelf) : Type 0 where
      pub rests : Rests TB (IsTable g) Good_ Fresh h
      pub both : 2 ≤ f.known.copies → HoldsBoth TB (IsTable g) Good_ Fresh f.known.table f.known.version f.known.places h
      pub counts : is_begun f.reply ≡ true
      pub shows : Shows g F A B f.known.table
      pub form : IsTable g f.known.table
      pub done : f.reply ≡ Done → (2 ≤ f.known.copies) × (block < g.blocks → calls_bad f.known.table block ≡ true)

    is-begun : (marker : Answer) (f : Option Which) → is_begun (mark_reply marker (writing_reply f)) ≡ true
    is-begun marker f = on (is_failure marker) refl f
      where
        on : (t : Bool) → is_failure marker ≡ t → (f : Option Which) → is_begun (mark_reply marker (writing_reply f)) ≡ true
        on true h f = rw h refl
        on false h None = rw h refl
        on false h (Some which) = rw h refl

    not-done : (marker : Answer) (which : Which) → mark_reply marker (TableFailed which) ≡ Done → ⊥
    not-done marker which e = on (is_failure marker) refl
      where
        on : (t : Bool) → is_failure marker ≡ t → ⊥
        on true h = absurd (cc (rw h at e))
        on false h = absurd (cc (rw h at e))

    two-whole : (whole : Writing) → ((which : Which) → is_whole whole.whole which ≡ true) → 2 ≤ whole_count whole.whole
    two-whole w all = rw (all Primary, all Mirror) (omega arith)

    marking-ends : (k : Known) (marker : Answer) (w : Writing) (h : Shelf) → (block < g.blocks → calls_bad w.table block ≡ true) → Keeps TB (IsTable g) Good_ Fresh w [] h
        → IsMarked (record { reply = mark_reply marker (writing_reply w.failed); known = after_writing k w }) h
    marking-ends k marker w h bad keeps = on w.failed keeps
      where
        on : (f : Option Which) → Ended TB (IsTable g) Good_ Fresh w f h → IsMarked (record { reply = mark_reply marker (writing_reply f); known = after_writing k w }) h
        on None e = record { rests = inr (both-rest TB (IsTable g) Good_ Fresh w.table w.version w.places h e.0); both = λ two. e.0; counts = is-begun marker None; shows = e.0.writable.shows; form = e.0.writable.form; done = λ d. (two-whole w e.1, bad) }
        on (Some which) e = record { rests = e.0; both = λ two. absurd (omega (arith, two, few-whole w.whole which e.1)); counts = is-begun marker (Some which); shows = e.2; form = e.3; done = λ d. absurd (not-done marker which d) }

    -- the writing of a mark goes along
    pub marking-goes : (k : Known) (marker : Answer) (h : Shelf) → slice_index k.table block ≡ 0 → HoldsBoth TB (IsTable g) Good_ Fresh k.table k.version k.places h
        → Goes g TB Fails (IsTable g) (Rests TB (IsTable g) Good_ Fresh) IsMarked None h (write_tables g (record k { table = marked k.table block; version = next_version k.version }) marker)
    marking-goes k marker h zero_ both =
        goes-along g TB Fails (IsTable g) Good_ Fresh laws IsMarked (λ w. answer (after_writing then w) (mark_reply marker (writing_reply w.failed)))
        (λ w. IsCovered (marked k.table block) w.table) (λ w good c. covers-on g (marked k.table block) w good c) (λ fresh w y c keeps. marking-ends then marker w y (λ small. c block (hit small)) keeps)
        (mark_writing then) h refl (λ b e. e)
        (start-mark TB (IsTable g) Good_ Fresh k.table (marked k.table block) k.version k.places h both (λ b e. grows-marked k.table block b e)
        (form-marked k.table block out zero_ both.writable.form) (shows-marked k.table both.writable.shows)
        (λ which. stays-marked k.table block (place_of k.places which) (λ e. out (subst (IsIn (table_blocks g)) e (both.fit.inside which).0)) ∙ both.fit.free which))
      where
        then : Known
        then = record k { table = marked k.table block; version = next_version k.version }

        hit : block < g.blocks → calls_bad (marked k.table block) block ≡ true
        hit small = ap (λ t. calls_bad t block) (ap (λ s. slice_set k.table block (bit_or s 1)) zero_) ∙ ap (λ s. is_bad_state s) (set-own k.table block 1 (omega (arith, small, both.writable.form.long)))
