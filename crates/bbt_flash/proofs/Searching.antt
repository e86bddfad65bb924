-- The search of the last four blocks, page by page.
use Rattle.std.proofs.Common.{◌≡◌, ℕ, zero, suc, ◌+◌, ◌-◌, ◌<◌, ◌≤◌, Bool, true, false, cond, if◌then◌else◌, List, [], ◌∷◌, ◌++◌, map, filter, drop, Option, Some, None, refl, ap, sym, ◌∙◌, arith, append_assoc, append-nil}
use Rattle.std.specs.Prelude.{◌==◌}
use Rattle.std.proofs.lemmas.List.{map-append}
use Rattle.std.proofs.lemmas.Bool.{cond-false, cond-true}
use Rattle.nand_model.specs.Chip.{ReadEvent}
use Rattle.nand_model.specs.Page.{marker_byte}
use Rattle.nand_model.specs.Path.{Path, Then, Answer, Data, cells_of, first_event}
use Rattle.nand_model.specs.Sizes.{first_page}
use Rattle.nand_model.specs.Table.{Copy, copy_in, has_tables, table_blocks}
use Rattle.chip_paths.specs.Attach.{Attaching, attach_by, attach_path}
use Rattle.chip_paths.specs.Copies.{copies_held, with_copy}
use Rattle.chip_paths.specs.Stage.{path_after}
use Rattle.nand_model.specs.declared.geometry.Geometry.{Geometry}
use Rattle.bbt_flash.specs.Held.{copies_of, held_copy, new_candidates, new_copies, use_copies}
use Rattle.bbt_flash.specs.Step.{search_left}
use Rattle.bbt_flash.specs.declared.held.Held.{Held}

module _ (g : Geometry) where
  abbrev has_good_marker : ℕ × List ℕ → Bool
  has_good_marker c = marker_byte g c.1 == 0xff

  -- what the candidates among these pages give, page after page
  on-copy : (block : ℕ) (copy : Option Copy) (more : List (ℕ × Copy)) → with_copy block copy more ≡ with_copy block copy [] ++ more
  on-copy block None more = refl
  on-copy block (Some copy) more = refl

  copies-if : (good : Bool) (block : ℕ) (cells : List ℕ) (more : List (ℕ × List ℕ))
      → copies_held g (cond good ((block, cells) ∷ more) more) ≡ (if good then with_copy block (copy_in g cells) [] else []) ++ copies_held g more
  copies-if true block cells more = on-copy block (copy_in g cells) (copies_held g more)
  copies-if false block cells more = refl

  blocks-if : (good : Bool) (block : ℕ) (cells : List ℕ) (more : List (ℕ × List ℕ))
      → map (λ (c : ℕ × List ℕ). c.0) (cond good ((block, cells) ∷ more) more) ≡ (if good then block ∷ [] else []) ++ map (λ (c : ℕ × List ℕ). c.0) more
  blocks-if true block cells more = refl
  blocks-if false block cells more = refl

  copies-one : (block : ℕ) (cells : List ℕ) (more : List (ℕ × List ℕ))
      → copies_held g (filter has_good_marker ((block, cells) ∷ more)) ≡ new_copies g block cells ++ copies_held g (filter has_good_marker more)
  copies-one block cells more = copies-if (marker_byte g cells == 0xff) block cells (filter has_good_marker more)

  blocks-one : (block : ℕ) (cells : List ℕ) (more : List (ℕ × List ℕ))
      → map (λ (c : ℕ × List ℕ). c.0) (filter has_good_marker ((block, cells) ∷ more))
      ≡ new_candidates g block cells ++ map (λ (c : ℕ × List ℕ). c.0) (filter has_good_marker more)
  blocks-one block cells more = blocks-if (marker_byte g cells == 0xff) block cells (filter has_good_marker more)

  -- four parts in a row, from the left and from the right
  four : {X : Type 0} (a b c d : List X) → a ++ (b ++ (c ++ (d ++ []))) ≡ ((a ++ b) ++ c) ++ d
  four a b c d =
      ap (λ e. a ++ (b ++ (c ++ e))) (append-nil d) ∙ ap (λ e. a ++ e) (sym (append_assoc b c d)) ∙ sym (append_assoc a (b ++ c) d)
      ∙ ap (λ e. e ++ d) (sym (append_assoc a b c))

  module _ (k l m n : ℕ) (a b c d : List ℕ) where
    abbrev pages : List (ℕ × List ℕ)
    pages = (k, a) ∷ (l, b) ∷ (m, c) ∷ (n, d) ∷ []

    all-copies : copies_held g (filter has_good_marker pages) ≡ ((new_copies g k a ++ new_copies g l b) ++ new_copies g m c) ++ new_copies g n d
    all-copies =
        copies-one k a ((l, b) ∷ (m, c) ∷ (n, d) ∷ [])
        ∙ ap (λ e. new_copies g k a ++ e) (copies-one l b ((m, c) ∷ (n, d) ∷ [])
        ∙ ap (λ e. new_copies g l b ++ e) (copies-one m c ((n, d) ∷ [])
        ∙ ap (λ e. new_copies g m c ++ e) (copies-one n d [])))
        ∙ four (new_copies g k a) (new_copies g l b) (new_copies g m c) (new_copies g n d)

    all-blocks : map (λ (c : ℕ × List ℕ). c.0) (filter has_good_marker pages)
        ≡ ((new_candidates g k a ++ new_candidates g l b) ++ new_candidates g m c) ++ new_candidates g n d
    all-blocks =
        blocks-one k a ((l, b) ∷ (m, c) ∷ (n, d) ∷ [])
        ∙ ap (λ e. new_candidates g k a ++ e) (blocks-one l b ((m, c) ∷ (n, d) ∷ [])
        ∙ ap (λ e. new_candidates g l b ++ e) (blocks-one m c ((n, d) ∷ [])
        ∙ ap (λ e. new_candidates g m c ++ e) (blocks-one n d [])))
        ∙ four (new_candidates g k a) (new_candidates g l b) (new_candidates g m c) (new_candidates g n d)

    all-used : use_copies g (copies_held g (filter has_good_marker pages)) (map (λ (c : ℕ × List ℕ). c.0) (filter has_good_marker pages))
        ≡ use_copies g (((new_copies g k a ++ new_copies g l b) ++ new_copies g m c) ++ new_copies g n d)
        (((new_candidates g k a ++ new_candidates g l b) ++ new_candidates g m c) ++ new_candidates g n d)
    all-used = λ i. use_copies g (all-copies i) (all-blocks i)

  -- an attach with tables is a search
  by-search : attach_by true g ≡ search_left g [] [] (table_blocks g)
  by-search =
      λ i. Then (ReadEvent (first_page g (g.blocks - 1))) (λ first.
      Then (ReadEvent (first_page g (g.blocks - 2))) (λ second.
      Then (ReadEvent (first_page g (g.blocks - 3))) (λ third.
      Then (ReadEvent (first_page g (g.blocks - 4))) (λ fourth.
      all-used (g.blocks - 1) (g.blocks - 2) (g.blocks - 3) (g.blocks - 4) (cells_of first) (cells_of second) (cells_of third) (cells_of fourth) i))))

  pub attach-searches : has_tables g ≡ true → search_left g [] [] (table_blocks g) ≡ attach_path g
  attach-searches tables = sym by-search ∙ ap (λ b. attach_by b g) (sym tables)

  -- the block that is read next
  next-block : (next : ℕ) → next < 4 → drop next (table_blocks g) ≡ (g.blocks - (next + 1)) ∷ drop (next + 1) (table_blocks g)
  next-block zero low = refl
  next-block (suc zero) low = refl
  next-block (suc (suc zero)) low = refl
  next-block (suc (suc (suc zero))) low = refl
  next-block (suc (suc (suc (suc next)))) low = absurd (omega arith)

  module _ (copies : List (ℕ × Copy)) (candidates : List ℕ) (next : ℕ) where
    pub search-event : next < 4 → first_event (search_left g copies candidates (drop next (table_blocks g))) ≡ Some (ReadEvent (first_page g (g.blocks - (next + 1))))
    search-event low = ap (λ blocks. first_event (search_left g copies candidates blocks)) (next-block next low)

    -- one more page is read
    pub search-read : (cells : List ℕ) → next < 4
        → path_after (Data cells) (search_left g copies candidates (drop next (table_blocks g)))
        ≡ search_left g (copies ++ new_copies g (g.blocks - (next + 1)) cells) (candidates ++ new_candidates g (g.blocks - (next + 1)) cells)
        (drop (next + 1) (table_blocks g))
    search-read cells low = ap (λ blocks. path_after (Data cells) (search_left g copies candidates blocks)) (next-block next low)

    -- all pages are read
    pub search-over : 4 ≤ next → search_left g copies candidates (drop next (table_blocks g)) ≡ use_copies g copies candidates
    search-over past = ap (search_left g copies candidates) (none next past)
      where
        none : (n : ℕ) → 4 ≤ n → drop n (table_blocks g) ≡ []
        none zero high = absurd (omega arith)
        none (suc zero) high = absurd (omega arith)
        none (suc (suc zero)) high = absurd (omega arith)
        none (suc (suc (suc zero))) high = absurd (omega arith)
        none (suc (suc (suc (suc zero)))) high = refl
        none (suc (suc (suc (suc (suc n))))) high = refl

  module _ (block : ℕ) (cells : List ℕ) where
    -- a block whose marker is not good gives nothing
    pub passed-copies : (marker_byte g cells == 0xff) ≡ false → (copies : List (ℕ × Copy)) → copies ≡ copies ++ new_copies g block cells
    passed-copies bad copies =
        sym (append-nil copies)
        ∙ ap (λ e. copies ++ e) (sym (cond-false (marker_byte g cells == 0xff) (with_copy block (copy_in g cells) []) [] bad))

    pub passed-candidates : (marker_byte g cells == 0xff) ≡ false → (blocks : List ℕ) → blocks ≡ blocks ++ new_candidates g block cells
    passed-candidates bad blocks =
        sym (append-nil blocks) ∙ ap (λ e. blocks ++ e) (sym (cond-false (marker_byte g cells == 0xff) (block ∷ []) [] bad))

    pub one-candidate : (marker_byte g cells == 0xff) ≡ true → new_candidates g block cells ≡ block ∷ []
    one-candidate good = cond-true (marker_byte g cells == 0xff) (block ∷ []) [] good

    copies-when : (copy : Option Copy) → (marker_byte g cells == 0xff) ≡ true → copy_in g cells ≡ copy → new_copies g block cells ≡ with_copy block copy []
    copies-when copy good held =
        cond-true (marker_byte g cells == 0xff) (with_copy block (copy_in g cells) []) [] good ∙ ap (λ c. with_copy block c []) held

    -- a candidate without a copy
    pub no-copy : (marker_byte g cells == 0xff) ≡ true → copy_in g cells ≡ None → (copies : List (ℕ × Copy)) → copies ≡ copies ++ new_copies g block cells
    no-copy good none copies = sym (append-nil copies) ∙ ap (λ e. copies ++ e) (sym (copies-when None good none))

    -- a candidate with a copy
    pub one-copy : (held : Held) → held.block ≡ block → (marker_byte g cells == 0xff) ≡ true
        → copy_in g cells ≡ Some (record { which = held.which; version = held.version; states = held.table }) → (helds : List Held)
        → copies_of (helds ++ held ∷ []) ≡ copies_of helds ++ new_copies g block cells
    one-copy held here good found helds =
        map-append held_copy helds (held ∷ [])
        ∙ ap (λ e. copies_of helds ++ e)
        (ap (λ b. (b, record { which = held.which; version = held.version; states = held.table }) ∷ []) here
        ∙ sym (copies-when (Some (record { which = held.which; version = held.version; states = held.table })) good found))
