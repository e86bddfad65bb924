-- The pages of the last four blocks hold a shelf, from event to event.
use Rattle.std.proofs.Common.{◌≡◌, ◌≢◌, ◌⊎◌, ℕ, Bool, true, false, ◌||◌, ◌==◌, List, [], ◌∷◌, ◌++◌, refl, ap, sym, ◌∙◌, Option, Some, None, inl, inr, subst}
use Rattle.std.specs.List.{list_any}
use Rattle.std.proofs.lemmas.Bool.Decides.{eqb_tells}
use Rattle.nand_model.specs.Sizes.{first_page}
use Rattle.nand_model.specs.Chip.{PageState, flipped, torn_erase, torn_program, good_program, blank_page, DoneBits, with_page, EraseEvent, ProgramEvent}
use Rattle.nand_model.specs.Table.{Copy, copy_in, has_tables, table_blocks}
use Rattle.nand_model.specs.Quiet.{fairness_of, judged, is_table_block, is_table_page}
use Rattle.nand_model.specs.declared.geometry.Geometry.{Geometry}
use Rattle.nand_model.specs.declared.words.Fairness.TheVariants.{Foul}
use Rattle.relocation_laws.specs.Shelves.{Held, Shelf, with_held, IsEmpty}
use Rattle.page_laws.specs.Keeping.{IsIn, after_flips, KeepsCopy, KeepsMarker, TablePage, IsImage, PageLaws}
use Rattle.page_laws.specs.Keeping.{IsFresh}
use Rattle.relocation_laws.specs.Keeping.{DataMarkers, pages_after}
use Rattle.relocation_laws.proofs.Induction.{held-own, held-else}
use Rattle.relocation_laws.specs.Agreement.{copy_as, copy_of}
use Rattle.page_laws.proofs.Pages.{with_block-other, with_block-same, with_page-same, with_page-other}
use Rattle.page_laws.proofs.Torn.{torn_erase_keeps, torn_program_keeps}
use Rattle.page_laws.proofs.Markers.{torn_erase_marker, torn_program_marker}

-- a page that keeps a copy keeps it through a flip
table-page-flipped : (g : Geometry) (page : PageState) (good : Bool) (copy : Option Copy) (bit : ℕ) → TablePage g page good copy → TablePage g (flipped page bit) good copy
table-page-flipped g page good copy bit h = record { copies = λ e bits q. h.copies e (bit ∷ bits) q; marker = λ bits q. h.marker (bit ∷ bits) q }

-- what is so of a page and stays so through a flip, stays so
pub flip-at : (Q : PageState → Type 0) (pages : ℕ → PageState) (page at bit : ℕ) → ((p : PageState) → Q p → Q (flipped p bit)) → Q (pages at) → Q (with_page pages page (flipped (pages page) bit) at)
flip-at Q pages page at bit closed h = on (eqb_tells at page)
  where
    on : ((at == page) ≡ true) × (at ≡ page) ⊎ (((at == page) ≡ false) × (at ≢ page)) → Q (with_page pages page (flipped (pages page) bit) at)
    on (inl t) = rw t.0 (closed (pages page) (subst (λ p. Q (pages p)) t.1 h))
    on (inr t) = rw t.0 h

after-flips-more : (page : PageState) (bits : List ℕ) (bit : ℕ) → after_flips page (bits ++ bit ∷ []) ≡ flipped (after_flips page bits) bit
after-flips-more page [] bit = refl
after-flips-more page (x ∷ bits) bit = after-flips-more (flipped page x) bits bit

fresh-page-flipped : (g : Geometry) (page : PageState) (bit : ℕ) → IsFresh g page → IsFresh g (flipped page bit)
fresh-page-flipped g page bit h = record { bits = h.bits ++ bit ∷ []; blank = ap (λ p. flipped p bit) h.blank ∙ sym (after-flips-more (blank_page g) h.bits bit) }

any-in : (f : ℕ → ℕ) (xs : List ℕ) (b : ℕ) → IsIn xs b → list_any (λ x. f x == f b) xs ≡ true
any-in f [] b i = absurd i
any-in f (x ∷ xs) b (inl e) = on (eqb_tells (f x) (f b))
  where
    on : ((f x == f b) ≡ true) × (f x ≡ f b) ⊎ (((f x == f b) ≡ false) × (f x ≢ f b)) → (f x == f b || list_any (λ x. f x == f b) xs) ≡ true
    on (inl t) = rw t.0 refl
    on (inr t) = absurd (t.1 (ap f (sym e)))
any-in f (x ∷ xs) b (inr i) = on (f x == f b) (any-in f xs b i)
  where
    on : (t : Bool) → list_any (λ x. f x == f b) xs ≡ true → (t || list_any (λ x. f x == f b) xs) ≡ true
    on true h = refl
    on false h = h

-- the first pages of the last four blocks keep the copies of a shelf, and the markers of the blocks
-- that hold data are untouched while it is empty
pub record Stands (g : Geometry) (is_good : ℕ → Bool) (holds : Shelf) (pages : ℕ → PageState) : Type 0 where
  pub tables : (b : ℕ) → IsIn (table_blocks g) b → TablePage g (pages (first_page g b)) (is_good b) (copy_of (holds b))
  pub markers : IsEmpty holds → DataMarkers g is_good (IsIn (table_blocks g)) pages

-- the block that was just erased, if any, has a page that was only flipped since
abbrev pub IsFreshAt : Geometry → Option ℕ → (ℕ → PageState) → Type 0
IsFreshAt g fresh pages = (b : ℕ) → fresh ≡ Some b → IsFresh g (pages (first_page g b))

module _ (g : Geometry) (is_good : ℕ → Bool) (laws : PageLaws g) (tables : has_tables g ≡ true) where
  pub stands-flipped : (holds : Shelf) (pages : ℕ → PageState) (page bit : ℕ) → Stands g is_good holds pages → Stands g is_good holds (with_page pages page (flipped (pages page) bit))
  stands-flipped holds pages page bit h =
      record {
        tables = λ b i. flip-at (λ p. TablePage g p (is_good b) (copy_of (holds b))) pages page (first_page g b) bit (λ p k. table-page-flipped g p (is_good b) (copy_of (holds b)) bit k) (h.tables b i);
        markers = λ e b small data_block. flip-at (λ p. KeepsMarker g p (is_good b)) pages page (first_page g b) bit (λ p k bits. k (bit ∷ bits)) (h.markers e b small data_block);
      }

  pub fresh-flipped : (fresh : Option ℕ) (pages : ℕ → PageState) (page bit : ℕ) → IsFreshAt g fresh pages → IsFreshAt g fresh (with_page pages page (flipped (pages page) bit))
  fresh-flipped fresh pages page bit h b e = flip-at (IsFresh g) pages page (first_page g b) bit (λ p. fresh-page-flipped g p bit) (h b e)

  -- the page of one table block has changed, and no other first page
  changed : (holds after_holds : Shelf) (pages after : ℕ → PageState) (x : ℕ) → IsIn (table_blocks g) x → TablePage g (after (first_page g x)) (is_good x) (copy_of (after_holds x))
      → ((b : ℕ) → b ≢ x → after (first_page g b) ≡ pages (first_page g b)) → ((b : ℕ) → b ≢ x → after_holds b ≡ holds b) → (IsEmpty after_holds → IsEmpty holds)
      → Stands g is_good holds pages → Stands g is_good after_holds after
  changed holds after_holds pages after x inside new rest same kept h =
      record {
        tables = λ b i. on b i (eqb_tells b x);
        markers = λ e b small data_block. rw (rest b (λ q. data_block (subst (IsIn (table_blocks g)) (sym q) inside))) (h.markers (kept e) b small data_block);
      }
    where
      on : (b : ℕ) → IsIn (table_blocks g) b → ((b == x) ≡ true) × (b ≡ x) ⊎ (((b == x) ≡ false) × (b ≢ x)) → TablePage g (after (first_page g b)) (is_good b) (copy_of (after_holds b))
      on b i (inl t) = subst (λ y. TablePage g (after (first_page g y)) (is_good y) (copy_of (after_holds y))) (sym t.1) new
      on b i (inr t) = rw (rest b t.1, same b t.1) (h.tables b i)

  module _ (x : ℕ) (inside : IsIn (table_blocks g) x) (good : is_good x ≡ true) (holds : Shelf) (pages : ℕ → PageState) (h : Stands g is_good holds pages) where
    here : TablePage g (pages (first_page g x)) true (copy_of (holds x))
    here = subst (λ t. TablePage g (pages (first_page g x)) t (copy_of (holds x))) good (h.tables x inside)

    back : (page : PageState) (copy : Option Copy) → TablePage g page true copy → TablePage g page (is_good x) copy
    back page copy k = subst (λ t. TablePage g page t copy) (sym good) k

    -- a good erase
    pub stands-erased : (IsEmpty (with_held holds x None) → IsEmpty holds) → Stands g is_good (with_held holds x None) (pages_after g pages (EraseEvent x) None)
    stands-erased kept =
        changed holds (with_held holds x None) pages (pages_after g pages (EraseEvent x) None) x inside
        (rw (with_block-same g pages x (λ q old. blank_page g) laws.sized, held-own holds x None) (back (blank_page g) None laws.blank))
        (λ b n. with_block-other g pages x b (λ q old. blank_page g) laws.sized n) (λ b n. held-else holds x None b n) kept h

    pub fresh-erased : IsFreshAt g (Some x) (pages_after g pages (EraseEvent x) None)
    fresh-erased b e =
        let same : x ≡ b = cc in
        subst (λ y. IsFresh g (pages_after g pages (EraseEvent x) None (first_page g y))) same
        (rw (with_block-same g pages x (λ q old. blank_page g) laws.sized) (record { bits = []; blank = refl }))

    -- a torn erase that is not foul leaves what stood there, or nothing
    pub stands-torn-erased : (done : DoneBits) → (IsEmpty (with_held holds x None) → IsEmpty holds) → fairness_of g pages (EraseEvent x) (pages_after g pages (EraseEvent x) (Some done)) ≢ Foul
        → Stands g is_good holds (pages_after g pages (EraseEvent x) (Some done)) ⊎ Stands g is_good (with_held holds x None) (pages_after g pages (EraseEvent x) (Some done))
    stands-torn-erased done kept fair = on (torn_erase_keeps g page done 0 (copy_of (holds x)) (here.copies refl) (rw there at judged_fair))
      where
        page : PageState
        page = pages (first_page g x)

        after : ℕ → PageState
        after = pages_after g pages (EraseEvent x) (Some done)

        is_table : is_table_block g x ≡ true
        is_table = rw (tables, any-in (λ b. b) (table_blocks g) x inside) refl

        judged_fair : judged (copy_in g (after (first_page g x)).cells) (copy_in g page.cells) ≢ Foul
        judged_fair = rw is_table at fair

        there : after (first_page g x) ≡ torn_erase done 0 page
        there = with_block-same g pages x (torn_erase done) laws.sized

        rest : (b : ℕ) → b ≢ x → after (first_page g b) ≡ pages (first_page g b)
        rest b n = with_block-other g pages x b (torn_erase done) laws.sized n

        mark : (copy : Option Copy) → KeepsCopy g (torn_erase done 0 page) copy → TablePage g (torn_erase done 0 page) true copy
        mark copy k = record { copies = λ e. k; marker = torn_erase_marker g page done 0 here.marker }

        on : KeepsCopy g (torn_erase done 0 page) (copy_of (holds x)) ⊎ KeepsCopy g (torn_erase done 0 page) None → Stands g is_good holds after ⊎ Stands g is_good (with_held holds x None) after
        on (inl k) = inl (changed holds holds pages after x inside (rw there (back (torn_erase done 0 page) (copy_of (holds x)) (mark (copy_of (holds x)) k))) rest (λ b n. refl) (λ e. e) h)
        on (inr k) =
            inr (changed holds (with_held holds x None) pages after x inside (rw (there, held-own holds x None) (back (torn_erase done 0 page) None (mark None k))) rest (λ b n. held-else holds x None b n) kept h)

    module _ (image : List ℕ) (c : Held) (is_image : IsImage g image (Some (copy_as c))) where
      no-empty : IsEmpty (with_held holds x (Some c)) → IsEmpty holds
      no-empty e = absurd (cc (e x, held-own holds x (Some c)))

      -- a good program of a page that was just erased
      pub stands-programmed : IsFresh g (pages (first_page g x)) → Stands g is_good (with_held holds x (Some c)) (pages_after g pages (ProgramEvent (first_page g x) image) None)
      stands-programmed fresh =
          changed holds (with_held holds x (Some c)) pages (pages_after g pages (ProgramEvent (first_page g x) image) None) x inside
          (rw (with_page-same g pages (first_page g x) (good_program (pages (first_page g x)) image), held-own holds x (Some c), fresh.blank)
          (back (good_program (after_flips (blank_page g) fresh.bits) image) (Some (copy_as c)) (is_image.written fresh.bits)))
          (λ b n. with_page-other g pages x b (good_program (pages (first_page g x)) image) laws.sized n) (λ b n. held-else holds x (Some c) b n) no-empty h

      -- a torn program of a place that held nothing, if it is not foul
      pub stands-torn-programmed : (done : DoneBits) → holds x ≡ None → fairness_of g pages (ProgramEvent (first_page g x) image) (pages_after g pages (ProgramEvent (first_page g x) image) (Some done)) ≢ Foul
          → Stands g is_good holds (pages_after g pages (ProgramEvent (first_page g x) image) (Some done))
          ⊎ Stands g is_good (with_held holds x (Some c)) (pages_after g pages (ProgramEvent (first_page g x) image) (Some done))
      stands-torn-programmed done none fair = on (torn_program_keeps g page image done (rw there at judged_fair))
        where
          page : PageState
          page = pages (first_page g x)

          now : PageState
          now = torn_program page image done

          after : ℕ → PageState
          after = pages_after g pages (ProgramEvent (first_page g x) image) (Some done)

          is_table : is_table_page g (first_page g x) ≡ true
          is_table = rw (tables, any-in (first_page g) (table_blocks g) x inside) refl

          judged_fair : judged (copy_in g (after (first_page g x)).cells) (copy_in g image) ≢ Foul
          judged_fair = rw is_table at fair

          there : after (first_page g x) ≡ now
          there = with_page-same g pages (first_page g x) now

          rest : (b : ℕ) → b ≢ x → after (first_page g b) ≡ pages (first_page g b)
          rest b n = with_page-other g pages x b now laws.sized n

          mark : (copy : Option Copy) → KeepsCopy g now copy → TablePage g now true copy
          mark copy k = record { copies = λ e. k; marker = torn_program_marker g page image done is_image.marker here.marker }

          on : KeepsCopy g now (copy_in g image) ⊎ KeepsCopy g now None → Stands g is_good holds after ⊎ Stands g is_good (with_held holds x (Some c)) after
          on (inl k) =
              inr (changed holds (with_held holds x (Some c)) pages after x inside
              (rw (there, held-own holds x (Some c)) (back now (Some (copy_as c)) (mark (Some (copy_as c)) (subst (λ d. KeepsCopy g now d) is_image.here k)))) rest (λ b n. held-else holds x (Some c) b n) no-empty h)
          on (inr k) = inl (changed holds holds pages after x inside (rw (there, none) (back now None (mark None k))) rest (λ b n. refl) (λ e. e) h)
