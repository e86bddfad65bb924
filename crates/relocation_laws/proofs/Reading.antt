-- Reads of a chip with tables: a quiet read sees what the shelf holds.
use Rattle.std.proofs.Common.{◌≡◌, ◌⊎◌, ◌<◌, ◌≤◌, ℕ, zero, suc, ◌+◌, Bool, true, ◌==◌, List, [], ◌∷◌, ◌++◌, refl, sym, ◌∙◌, arith, None, inl, inr, subst, append_assoc, append-nil}
use Rattle.std.specs.Prelude.{⊤}
use Rattle.nand_model.specs.Sizes.{first_page, numbers_from}
use Rattle.nand_model.specs.Chip.{ChipState, FaultModel, ChipEvent, Complete, ReadEvent}
use Rattle.nand_model.specs.Path.{Answer, Data, Path, Then, cells_of}
use Rattle.nand_model.specs.Table.{table_blocks}
use Rattle.nand_model.specs.Page.{marker_byte}
use Rattle.chip_paths.specs.Attach.{read_first_pages}
use Rattle.nand_model.specs.Quiet.{is_quiet, has_no_flip_in}
use Rattle.nand_model.specs.declared.geometry.Geometry.{Geometry}
use Rattle.relocation_laws.specs.Shelves.{Shelf, IsEmpty}
use Rattle.page_laws.specs.Keeping.{IsIn, IsQuietEvent}
use Rattle.relocation_laws.proofs.Finding.{SeenPage, SeenPages}
use Rattle.relocation_laws.proofs.Safety.{Safety, turned, Safe}
use Rattle.relocation_laws.proofs.Goes.{Setting, Holding, holding-turned}
use Rattle.page_laws.proofs.Quiet.{in_numbers, dec_in, quiet_marker, quiet_table}

-- the markers of these blocks, in their first pages
abbrev pub SeenMarkers : Geometry → (ℕ → Bool) → List ℕ → List (List ℕ) → Type 0
SeenMarkers g is_good [] [] = ⊤
SeenMarkers g is_good (b ∷ bs) (cells ∷ pages) = ((marker_byte g cells == 0xff) ≡ is_good b) × SeenMarkers g is_good bs pages
SeenMarkers g is_good _ _ = ⊥

pub in-middle : (front : List ℕ) (b : ℕ) (rest : List ℕ) → IsIn (front ++ b ∷ rest) b
in-middle [] b rest = inl refl
in-middle (x ∷ front) b rest = inr (in-middle front b rest)

seen-more : (g : Geometry) (is_good : ℕ → Bool) (holds : Shelf) (bs : List ℕ) (pages : List (List ℕ)) (b : ℕ) (cells : List ℕ)
    → SeenPages g is_good holds bs pages → SeenPage g is_good holds b cells → SeenPages g is_good holds (bs ++ b ∷ []) (pages ++ cells ∷ [])
seen-more g is_good holds [] [] b cells h p = (p, tt)
seen-more g is_good holds [] (x ∷ xs) b cells h p = absurd h
seen-more g is_good holds (c ∷ bs) [] b cells h p = absurd h
seen-more g is_good holds (c ∷ bs) (x ∷ xs) b cells h p = (h.0, seen-more g is_good holds bs xs b cells h.1 p)

markers-more : (g : Geometry) (is_good : ℕ → Bool) (bs : List ℕ) (pages : List (List ℕ)) (b : ℕ) (cells : List ℕ)
    → SeenMarkers g is_good bs pages → (marker_byte g cells == 0xff) ≡ is_good b → SeenMarkers g is_good (bs ++ b ∷ []) (pages ++ cells ∷ [])
markers-more g is_good [] [] b cells h p = (p, tt)
markers-more g is_good [] (x ∷ xs) b cells h p = absurd h
markers-more g is_good (c ∷ bs) [] b cells h p = absurd h
markers-more g is_good (c ∷ bs) (x ∷ xs) b cells h p = (h.0, markers-more g is_good bs xs b cells h.1 p)

numbers-small : (first count b : ℕ) → IsIn (numbers_from first count) b → b < first + count
numbers-small first zero b i = absurd i
numbers-small first (suc count) b (inl e) = omega arith
numbers-small first (suc count) b (inr i) = omega (arith, numbers-small (first + 1) count b i)

pub table-in-numbers : (g : Geometry) → 4 ≤ g.blocks → (b : ℕ) → IsIn (table_blocks g) b → IsIn (numbers_from 0 g.blocks) b
table-in-numbers g enough b i = in_numbers 0 g.blocks b (omega arith) (small i)
  where
    small : IsIn (table_blocks g) b → b < 0 + g.blocks
    small (inl e) = omega arith
    small (inr (inl e)) = omega arith
    small (inr (inr (inl e))) = omega arith
    small (inr (inr (inr (inl e)))) = omega arith
    small (inr (inr (inr (inr i)))) = absurd i

module _ {W A : Type 0} (model : FaultModel W) (g : Geometry) (c : Setting g) (enough : 4 ≤ g.blocks) (Good_ : List ℕ → Type 0) (Fresh : Type 0) (granted : ChipState W → ChipEvent → Type 0)
    (moment : Path A → ChipState W → Type 0) (ended : ChipState W → Type 0) (result : A → ChipState W → Type 0) (quiet : (s : ChipState W) (e : ChipEvent) → granted s e → IsQuietEvent s e) where
  abbrev reading_law : Safety W A
  reading_law = record { model = model; granted = granted; moment = moment; ended = ended; result = result }

  abbrev Here : Shelf → ChipState W → Type 0
  Here holds s = Holding g c Good_ Fresh holds None s

  -- what holds before a read and after a cut one, while the pages hold this shelf
  pub record Still (holds : Shelf) : Type 0 where
    pub before : (page : ℕ) (rest : Answer → Path A) (t : ChipState W) → Here holds t → moment (Then (ReadEvent page) rest) t
    pub after_cut : (t : ChipState W) → Here holds t → ended t

  -- a read changes nothing, and what follows sees the page as it stands then
  read-safe : (holds : Shelf) → Still holds → (page : ℕ) (rest : Answer → Path A) (s : ChipState W) → Here holds s
      → ((t : ChipState W) → Here holds t → granted t (Complete (ReadEvent page)) → Safe reading_law (rest (Data (t.pages page).cells)) t) → Safe reading_law (Then (ReadEvent page) rest) s
  read-safe holds still page rest s h later = λ flips.
      let now = holding-turned g c Good_ Fresh model holds None s flips h in (
        still.before page rest (turned model s flips) now,
        λ done grant. still.after_cut (turned model s flips) now,
        λ grant. later (turned model s flips) now grant,
      )

  is-quiet-now : (holds : Shelf) (t : ChipState W) (page : ℕ) → Here holds t → granted t (Complete (ReadEvent page)) → is_quiet g t.pages ≡ true
  is-quiet-now holds t page h grant = subst (λ k. is_quiet k t.pages ≡ true) h.geometry (quiet t (Complete (ReadEvent page)) grant)

  -- the scan of the table blocks
  pub scan-safe : (holds : Shelf) → Still holds → (todo done : List ℕ) (pages : List (List ℕ)) (go_on : List (List ℕ) → Path A) (s : ChipState W) → done ++ todo ≡ table_blocks g
      → SeenPages g c.is_good holds done pages → Here holds s
      → ((t : ChipState W) (all : List (List ℕ)) → SeenPages g c.is_good holds (table_blocks g) all → Here holds t → Safe reading_law (go_on all) t)
      → Safe reading_law (read_first_pages g todo pages go_on) s
  scan-safe holds still [] done pages go_on s all seen h later = later s pages (subst (λ bs. SeenPages g c.is_good holds bs pages) (sym (append-nil done) ∙ all) seen) h
  scan-safe holds still (b ∷ todo) done pages go_on s all seen h later =
      read-safe holds still (first_page g b) (λ answer. read_first_pages g todo (pages ++ cells_of answer ∷ []) go_on) s h (λ t i grant.
      scan-safe holds still todo (done ++ b ∷ []) (pages ++ (t.pages (first_page g b)).cells ∷ []) go_on t (append_assoc done (b ∷ []) todo ∙ all)
      (seen-more g c.is_good holds done pages b (t.pages (first_page g b)).cells seen (record {
        marker = (i.stands.tables b inside).marker [] (quiet_marker g t.pages (is-quiet-now holds t (first_page g b) i grant) b (table-in-numbers g enough b inside));
        copy = λ e. (i.stands.tables b inside).copies e [] (quiet_table g t.pages (is-quiet-now holds t (first_page g b) i grant) b c.tables inside);
      })) i later)
    where
      inside : IsIn (table_blocks g) b
      inside = subst (λ l. IsIn l b) all (in-middle done b todo)

  -- the reads of the markers, where nothing is held
  pub markers-safe : (holds : Shelf) → Still holds → IsEmpty holds → (todo done : List ℕ) (pages : List (List ℕ)) (go_on : List (List ℕ) → Path A) (s : ChipState W) → done ++ todo ≡ numbers_from 0 g.blocks
      → SeenMarkers g c.is_good done pages → Here holds s
      → ((t : ChipState W) (all : List (List ℕ)) → SeenMarkers g c.is_good (numbers_from 0 g.blocks) all → Here holds t → Safe reading_law (go_on all) t)
      → Safe reading_law (read_first_pages g todo pages go_on) s
  markers-safe holds still empty [] done pages go_on s all seen h later = later s pages (subst (λ bs. SeenMarkers g c.is_good bs pages) (sym (append-nil done) ∙ all) seen) h
  markers-safe holds still empty (b ∷ todo) done pages go_on s all seen h later =
      read-safe holds still (first_page g b) (λ answer. read_first_pages g todo (pages ++ cells_of answer ∷ []) go_on) s h (λ t i grant.
      markers-safe holds still empty todo (done ++ b ∷ []) (pages ++ (t.pages (first_page g b)).cells ∷ []) go_on t (append_assoc done (b ∷ []) todo ∙ all)
      (markers-more g c.is_good done pages b (t.pages (first_page g b)).cells seen (marker t i (quiet_marker g t.pages (is-quiet-now holds t (first_page g b) i grant) b inside) (dec_in (table_blocks g) b))) i later)
    where
      inside : IsIn (numbers_from 0 g.blocks) b
      inside = subst (λ l. IsIn l b) all (in-middle done b todo)

      small : IsIn (numbers_from 0 g.blocks) b → b < g.blocks
      small i = omega (arith, numbers-small 0 g.blocks b i)

      marker : (t : ChipState W) → Here holds t → has_no_flip_in (t.pages (first_page g b)) g.page (g.page + 1) ≡ true → IsIn (table_blocks g) b ⊎ (IsIn (table_blocks g) b → ⊥) → (marker_byte g (t.pages (first_page g b)).cells == 0xff) ≡ c.is_good b
      marker t i no_flip (inl table) = (i.stands.tables b table).marker [] no_flip
      marker t i no_flip (inr data_block) = i.stands.markers empty b (small inside) data_block [] no_flip
