-- The attach of a chip without tables, and that it lives on.
use Rattle.std.proofs.Common.{◌≡◌, ◌≢◌, ◌⊎◌, ◌<◌, ℕ, zero, suc, ◌+◌, Bool, true, false, ◌||◌, ◌==◌, if◌then◌else◌, List, [], ◌∷◌, ◌++◌, length, refl, ap, sym, ◌∙◌, arith, Option, Some, None, inl, inr, subst, slice_index, append_assoc, append-nil}
use Rattle.std.specs.Prelude.{⊤}
use Rattle.std.proofs.lemmas.Bool.{false≢true}
use Rattle.nand_model.specs.Sizes.{first_page, numbers_from}
use Rattle.nand_model.specs.Chip.{PageState, ChipState, FaultModel, ChipEvent, Complete, ReadEvent, after_trace, blank_page, flipped}
use Rattle.chip_paths.specs.Attach.{Attaching, attach_by, attach_path, marker_table, read_first_pages}
use Rattle.nand_model.specs.Table.{has_tables}
use Rattle.nand_model.specs.Page.{marker_byte}
use Rattle.chip_paths.specs.ChipRun.{known_at_first}
use Rattle.nand_model.specs.Partitions.{Partitions}
use Rattle.chip_paths.specs.Operation.{Known, Finished, operation_path}
use Rattle.nand_model.specs.Path.{Answer, Data, Path, Over, Then, answers_of, GoesAlong, is_uncut, after_answers, next_event, result_of, cells_of}
use Rattle.nand_model.specs.Quiet.{is_quiet, has_no_flip_in}
use Rattle.nand_model.specs.declared.geometry.Geometry.{Geometry}
use Rattle.nand_model.specs.declared.words.Origin.TheVariants.{Markers}
use Rattle.nand_model.specs.declared.words.Op.{Op}
use Rattle.nand_model.specs.declared.words.Reply.{Reply}
use Rattle.page_laws.specs.Keeping.{KeepsMarker, IsFairEvent, IsQuietEvent, EachStep, IsIn}
use Rattle.crash_laws.specs.Life.{IsFairAndQuietAttach, TableFails}
use Rattle.relocation_laws.specs.Life.{NowAcked, NowBegun}
use Rattle.relocation_laws.specs.Tables.{Shows}
use Rattle.crash_laws.proofs.Bare.{AliveBare, RemembersBare, bare_fewer, remembers_bare_fewer, bare_flipped, bare_law, op-safe-bare}
use Rattle.crash_laws.proofs.Chain.{Kind}
use Rattle.crash_laws.proofs.Markers0.{BlockMark, keeps_seen}
use Rattle.page_laws.proofs.Quiet.{quiet_marker, numbers_small}
use Rattle.relocation_laws.proofs.Reading.{in-middle as in_middle}
use Rattle.relocation_laws.proofs.Safety.{Safety, Safe, SafeAfter, goes_on, was_cut, safe-trace, safe-moment, safe-result, turned, closed-turned}
use Rattle.relocation_laws.proofs.Standing.{flip-at as flip_at}
use Rattle.run_model.specs.Survival.{WritesAPage}

pub shows_more : (g : Geometry) (F A B B1 : ℕ → Type 0) (table : List ℕ) → ((b : ℕ) → B b → B1 b) → Shows g F A B table → Shows g F A B1 table
shows_more g F A B B1 table more h = record { factory = h.factory; acked = h.acked; no_other = λ b small e. on b (h.no_other b small e) }
  where
    on : (b : ℕ) → F b ⊎ B b → F b ⊎ B1 b
    on b (inl f) = inl f
    on b (inr x) = inr (more b x)

-- no torn event is foul, and each event found the chip quiet
abbrev pub AttachGrant : {W : Type 0} → FaultModel W → ChipState W → ChipEvent → Type 0
AttachGrant model s e = IsFairEvent model s e × IsQuietEvent s e

module _ {W : Type 0} (model : FaultModel W) (g : Geometry) (sized : 0 < g.pages_per_block) (blank : KeepsMarker g (blank_page g) true) (F A B : ℕ → Type 0) where
  -- what the marker of a block said, as it was read
  record Told (b : ℕ) (cells : List ℕ) (page : PageState) : Type 0 where
    keeps : KeepsMarker g page (marker_byte g cells == 0xff)
    must : F b ⊎ A b → (marker_byte g cells == 0xff) ≡ false
    may : (marker_byte g cells == 0xff) ≡ false → F b ⊎ B b

  abbrev AllTold : (ℕ → PageState) → List ℕ → List (List ℕ) → Type 0
  AllTold pages [] [] = ⊤
  AllTold pages (b ∷ bs) (cells ∷ seen) = Told b cells (pages (first_page g b)) × AllTold pages bs seen
  AllTold pages _ _ = ⊥

  told_more : (pages : ℕ → PageState) (bs : List ℕ) (seen : List (List ℕ)) (b : ℕ) (cells : List ℕ) → AllTold pages bs seen → Told b cells (pages (first_page g b)) → AllTold pages (bs ++ b ∷ []) (seen ++ cells ∷ [])
  told_more pages [] [] b cells h p = (p, tt)
  told_more pages [] (x ∷ xs) b cells h p = absurd h
  told_more pages (c ∷ bs) [] b cells h p = absurd h
  told_more pages (c ∷ bs) (x ∷ xs) b cells h p = (h.0, told_more pages bs xs b cells h.1 p)

  told_flipped : (pages : ℕ → PageState) (page bit : ℕ) (bs : List ℕ) (seen : List (List ℕ)) → AllTold pages bs seen
      → AllTold (λ q. if q == page then flipped (pages page) bit else pages q) bs seen
  told_flipped pages page bit [] [] h = tt
  told_flipped pages page bit [] (x ∷ xs) h = absurd h
  told_flipped pages page bit (c ∷ bs) [] h = absurd h
  told_flipped pages page bit (c ∷ bs) (x ∷ xs) h = (
    record { keeps = flip_at (λ p. KeepsMarker g p (marker_byte g x == 0xff)) pages page (first_page g c) bit (λ p m bits. m (bit ∷ bits)) h.0.keeps; must = h.0.must; may = h.0.may },
    told_flipped pages page bit bs xs h.1,
  )

  told_now : (b : ℕ) (page : PageState) → has_no_flip_in page g.page (g.page + 1) ≡ true → BlockMark g F A B b page → Told b page.cells page
  told_now b page quiet h = record { keeps = keeps_seen g page; must = λ x. h.bad x [] quiet; may = λ e. on h.other e }
    where
      on : KeepsMarker g page true ⊎ (F b ⊎ B b) → (marker_byte g page.cells == 0xff) ≡ false → F b ⊎ B b
      on (inl k) e = absurd (false≢true (sym e ∙ k [] quiet))
      on (inr x) e = x

  abbrev pub BareAttach : Attaching → ChipState W → Type 0
  BareAttach a s = Shows g F A B a.table × RemembersBare g F A B (known_at_first a) s

  abbrev pub bare_attach_law : Safety W Attaching
  bare_attach_law = record { model = model; granted = AttachGrant model; moment = λ path s. AliveBare g F A B s; ended = λ s. AliveBare g F A B s; result = BareAttach }

  abbrev Reading : List ℕ → List (List ℕ) → ChipState W → Type 0
  Reading done seen s = AliveBare g F A B s × AllTold s.pages done seen

  reading_turned : (done : List ℕ) (seen : List (List ℕ)) (s : ChipState W) (flips : List (ℕ × ℕ)) → Reading done seen s → Reading done seen (turned model s flips)
  reading_turned done seen s flips h =
      closed-turned model (Reading done seen) (λ t page bit i. (bare_flipped model g sized blank F A B t page bit i.0, told_flipped t.pages page bit done seen i.1)) s flips h

  -- ---- the table
  record Entry (table : List ℕ) (i b : ℕ) (page : PageState) : Type 0 where
    cells : List ℕ
    is : slice_index table i ≡ (if marker_byte g cells == 0xff then 0 else 3)
    told : Told b cells page

  entry_at : (pages : ℕ → PageState) (first count i : ℕ) (seen : List (List ℕ)) → AllTold pages (numbers_from first count) seen → i < count
      → Entry (marker_table g seen) i (first + i) (pages (first_page g (first + i)))
  entry_at pages first zero i seen all h = absurd (omega (arith, h))
  entry_at pages first (suc count) i [] all h = absurd all
  entry_at pages first (suc count) zero (x ∷ seen) all h =
      let same : first ≡ first + 0 = omega arith in
      record { cells = x; is = refl; told = subst (λ b. Told b x (pages (first_page g b))) same all.0 }
  entry_at pages first (suc count) (suc i) (x ∷ seen) all h =
      let less : i < count = omega (arith, h) in
      let same : (first + 1) + i ≡ first + suc i = omega arith in
      let r = entry_at pages (first + 1) count i seen all.1 less in
      record { cells = r.cells; is = r.is; told = subst (λ b. Told b r.cells (pages (first_page g b))) same r.told }

  table_long : (pages : ℕ → PageState) (first count : ℕ) (seen : List (List ℕ)) → AllTold pages (numbers_from first count) seen → length (marker_table g seen) ≡ count
  table_long pages first zero [] all = refl
  table_long pages first zero (x ∷ seen) all = absurd all
  table_long pages first (suc count) [] all = absurd all
  table_long pages first (suc count) (x ∷ seen) all = ap suc (table_long pages (first + 1) count seen all.1)

  bad_shown : (t : Bool) (x : ℕ) → x ≡ (if t then 0 else 3) → t ≡ false → (x == 1 || x == 3) ≡ true
  bad_shown true x e f = absurd (false≢true (sym f))
  bad_shown false x e f = rw e refl

  shown_bad : (t : Bool) (x : ℕ) → x ≡ (if t then 0 else 3) → (x == 1 || x == 3) ≡ true → t ≡ false
  shown_bad false x e s = refl
  shown_bad true x e s = absurd (false≢true (rw e at s))

  not_zero : (t : Bool) (x : ℕ) → x ≡ (if t then 0 else 3) → t ≡ false → x ≢ 0
  not_zero true x e f z = absurd (false≢true (sym f))
  not_zero false x e f z = omega (arith, e, z)

  is_zero_or : (t : Bool) (x : ℕ) → x ≡ (if t then 0 else 3) → x ≢ 0 → t ≡ false
  is_zero_or true x e n = absurd (n e)
  is_zero_or false x e n = refl

  abbrev outcome : List (List ℕ) → Attaching
  outcome pages = record { table = marker_table g pages; origin = Markers; version = 0; places = record { primary = 0; mirror = 0 }; copies = 0 }

  end-safe : (seen : List (List ℕ)) (s : ChipState W) → Reading (numbers_from 0 g.blocks) seen s → Safe bare_attach_law (Over (outcome seen)) s
  end-safe seen s h flips = (
    now.0,
    (
      shows,
      record {
        alive = now.0;
        sticky = λ b small x. not_zero (marker_byte g (entry b small).cells == 0xff) _ (entry b small).is ((entry b small).told.must x);
        told = λ b small n. subst (λ u. KeepsMarker g (t.pages (first_page g b)) u) (is_zero_or (marker_byte g (entry b small).cells == 0xff) _ (entry b small).is n) (entry b small).told.keeps;
        long = table_long t.pages 0 g.blocks seen now.1;
      },
    ),
  )
    where
      t : ChipState W
      t = turned model s flips

      now : Reading (numbers_from 0 g.blocks) seen t
      now = reading_turned (numbers_from 0 g.blocks) seen s flips h

      entry : (b : ℕ) → b < g.blocks → Entry (marker_table g seen) b b (t.pages (first_page g b))
      entry b small =
          let same : 0 + b ≡ b = omega arith in
          subst (λ c. Entry (marker_table g seen) b c (t.pages (first_page g c))) same (entry_at t.pages 0 g.blocks b seen now.1 small)

      shows : Shows g F A B (marker_table g seen)
      shows = record {
        factory = λ b small f. bad_shown (marker_byte g (entry b small).cells == 0xff) _ (entry b small).is ((entry b small).told.must (inl f));
        acked = λ b small a. bad_shown (marker_byte g (entry b small).cells == 0xff) _ (entry b small).is ((entry b small).told.must (inr a));
        no_other = λ b small e. (entry b small).told.may (shown_bad (marker_byte g (entry b small).cells == 0xff) _ (entry b small).is e);
      }

  read-safe : (done : List ℕ) (seen : List (List ℕ)) (page : ℕ) (rest : Answer → Path Attaching) (s : ChipState W) → Reading done seen s
      → ((t : ChipState W) → Reading done seen t → AttachGrant model t (Complete (ReadEvent page)) → Safe bare_attach_law (rest (Data (t.pages page).cells)) t)
      → Safe bare_attach_law (Then (ReadEvent page) rest) s
  read-safe done seen page rest s h later flips = (
    (reading_turned done seen s flips h).0,
    (λ cut grant. (reading_turned done seen s flips h).0),
    (λ grant. later (turned model s flips) (reading_turned done seen s flips h) grant),
  )

  scan-safe : (todo done : List ℕ) (seen : List (List ℕ)) (s : ChipState W) → done ++ todo ≡ numbers_from 0 g.blocks → Reading done seen s
      → Safe bare_attach_law (read_first_pages g todo seen (λ pages. Over (outcome pages))) s
  scan-safe [] done seen s all h = end-safe seen s (subst (λ bs. Reading bs seen s) (sym (append-nil done) ∙ all) h)
  scan-safe (b ∷ todo) done seen s all h =
      read-safe done seen (first_page g b) (λ answer. read_first_pages g todo (seen ++ cells_of answer ∷ []) (λ pages. Over (outcome pages))) s h
      (λ t now grant.
      scan-safe todo (done ++ b ∷ []) (seen ++ (t.pages (first_page g b)).cells ∷ []) t (append_assoc done (b ∷ []) todo ∙ all) (
        now.0,
        told_more t.pages done seen b (t.pages (first_page g b)).cells now.1
            (told_now b (t.pages (first_page g b)) (quiet_marker g t.pages (subst (λ k. is_quiet k t.pages ≡ true) now.0.geometry grant.1) b inside) (now.0.marks b (small inside))),
      ))
    where
      inside : IsIn (numbers_from 0 g.blocks) b
      inside = subst (λ l. IsIn l b) all (in_middle done b todo)

      small : IsIn (numbers_from 0 g.blocks) b → b < g.blocks
      small i = omega (arith, numbers_small 0 g.blocks b i)

  pub attach-safe-bare : has_tables g ≡ false → (s : ChipState W) → AliveBare g F A B s → Safe bare_attach_law (attach_path g) s
  attach-safe-bare bare s h =
      subst (λ t. Safe bare_attach_law (attach_by t g) s) (sym bare) (scan-safe (numbers_from 0 g.blocks) [] [] s refl (h, tt))

module _ {W : Type 0} (model : FaultModel W) (g : Geometry) (sized : 0 < g.pages_per_block) (blank : KeepsMarker g (blank_page g) true) (F : ℕ → Type 0) (partitions : Partitions) (bare : has_tables g ≡ false) where
  pub begun_or : (B : ℕ → Type 0) (op : Op) (reply : Option Reply) (s : ChipState W) (trace : List ChipEvent) (b : ℕ) → B b ⊎ NowBegun partitions op reply b → B b ⊎ (NowBegun partitions op reply b ⊎ TableFails model g s trace b)
  begun_or B op reply s trace b (inl x) = inl x
  begun_or B op reply s trace b (inr n) = inr (inl n)

  pub unanswered : (A B : ℕ → Type 0) (k : Known) (s : ChipState W) (op : Op) (trace : List ChipEvent) → RemembersBare g F A B k s → WritesAPage g op
      → GoesAlong model (next_event (operation_path g partitions k op)) s [] trace → EachStep model (IsFairEvent model) s trace
      → AliveBare g F A (λ b. B b ⊎ NowBegun partitions op None b) (after_trace model s trace)
  unanswered A B k s op trace h fits along fair =
      on (safe-trace law (operation_path g partitions k op) trace s [] along fair (op-safe-bare model g sized blank F partitions A B k s bare h op fits))
    where
      law : Safety W Finished
      law = bare_law model g sized blank F partitions A B op

      on : SafeAfter law (operation_path g partitions k op) s [] trace → AliveBare g F A (λ b. B b ⊎ NowBegun partitions op None b) (after_trace model s trace)
      on (goes_on u safe) = safe-moment law (after_answers (answers_of model s trace) (operation_path g partitions k op)) (after_trace model s trace) safe
      on (was_cut u m) = m

  pub answered : (A B : ℕ → Type 0) (k after : Known) (s : ChipState W) (op : Op) (trace : List ChipEvent) (reply : Reply) → RemembersBare g F A B k s → WritesAPage g op
      → GoesAlong model (next_event (operation_path g partitions k op)) s [] trace → is_uncut trace ≡ true
      → result_of (after_answers (answers_of model s trace) (operation_path g partitions k op)) ≡ Some (record { reply = reply; known = after }) → EachStep model (IsFairEvent model) s trace
      → RemembersBare g F (λ b. A b ⊎ NowAcked partitions op (Some reply) b) (λ b. B b ⊎ NowBegun partitions op (Some reply) b) after (after_trace model s trace)
  answered A B k after s op trace reply h fits along uncut over fair =
      on (safe-trace law (operation_path g partitions k op) trace s [] along fair (op-safe-bare model g sized blank F partitions A B k s bare h op fits))
    where
      law : Safety W Finished
      law = bare_law model g sized blank F partitions A B op

      on : SafeAfter law (operation_path g partitions k op) s [] trace
          → RemembersBare g F (λ b. A b ⊎ NowAcked partitions op (Some reply) b) (λ b. B b ⊎ NowBegun partitions op (Some reply) b) after (after_trace model s trace)
      on (goes_on u safe) = safe-result law (after_answers (answers_of model s trace) (operation_path g partitions k op)) (after_trace model s trace) (record { reply = reply; known = after }) over safe
      on (was_cut u m) = absurd (false≢true (sym u ∙ uncut))

  pub attaching : (A B : ℕ → Type 0) (s : ChipState W) (trace : List ChipEvent) → AliveBare g F A B s → GoesAlong model (next_event (attach_path g)) s [] trace → IsFairAndQuietAttach model s trace
      → AliveBare g F A B (after_trace model s trace)
      × ((a : Attaching) → is_uncut trace ≡ true → result_of (after_answers (answers_of model s trace) (attach_path g)) ≡ Some a
      → Shows g F A B a.table × RemembersBare g F A B (known_at_first a) (after_trace model s trace))
  attaching A B s trace alive along granted =
      on (safe-trace law (attach_path g) trace s [] along granted (attach-safe-bare model g sized blank F A B bare s alive))
    where
      law : Safety W Attaching
      law = bare_attach_law model g sized blank F A B

      on : SafeAfter law (attach_path g) s [] trace
          → AliveBare g F A B (after_trace model s trace)
          × ((a : Attaching) → is_uncut trace ≡ true → result_of (after_answers (answers_of model s trace) (attach_path g)) ≡ Some a
          → Shows g F A B a.table × RemembersBare g F A B (known_at_first a) (after_trace model s trace))
      on (was_cut u m) = (m, λ a uncut e. absurd (false≢true (sym u ∙ uncut)))
      on (goes_on u safe) = (
        safe-moment law (after_answers (answers_of model s trace) (attach_path g)) (after_trace model s trace) safe,
        λ a uncut e. safe-result law (after_answers (answers_of model s trace) (attach_path g)) (after_trace model s trace) a e safe,
      )

  -- a chip without tables
  unfoldable pub without_tables : Kind model g F partitions
  without_tables = record {
    Lives = λ A B s. AliveBare g F A B s;
    Knows = λ A B k s. RemembersBare g F A B k s;
    sized = λ A B s h. h.geometry;
    flip = λ A B s page bit h. bare_flipped model g sized blank F A B s page bit h;
    fewer = λ A B A1 B1 s fewer more h. bare_fewer g F A B A1 B1 s fewer more h;
    lives = λ A B k s h. h.alive;
    unanswered = λ A B k s op trace h fits along fair.
        bare_fewer g F A (λ b. B b ⊎ NowBegun partitions op None b) A (λ b. B b ⊎ (NowBegun partitions op None b ⊎ TableFails model g s trace b)) (after_trace model s trace) (λ b a. a) (λ b x. begun_or B op None s trace b x)
        (unanswered A B k s op trace h fits along fair);
    answered = λ A B k after s op trace reply h fits along uncut over fair.
        remembers_bare_fewer g F (λ b. A b ⊎ NowAcked partitions op (Some reply) b) (λ b. B b ⊎ NowBegun partitions op (Some reply) b) (λ b. A b ⊎ NowAcked partitions op (Some reply) b)
        (λ b. B b ⊎ (NowBegun partitions op (Some reply) b ⊎ TableFails model g s trace b)) after (after_trace model s trace) (λ b a. a) (λ b x. begun_or B op (Some reply) s trace b x)
        (answered A B k after s op trace reply h fits along uncut over fair);
    attaching = λ A B s trace h along granted.
        let r = attaching A B s trace h along granted in (
          bare_fewer g F A B A (λ b. B b ⊎ TableFails model g s trace b) (after_trace model s trace) (λ b a. a) (λ b x. inl x) r.0,
          λ a uncut e. (
            shows_more g F A B (λ b. B b ⊎ TableFails model g s trace b) a.table (λ b x. inl x) (r.1 a uncut e).0,
            remembers_bare_fewer g F A B A (λ b. B b ⊎ TableFails model g s trace b) (known_at_first a) (after_trace model s trace) (λ b z. z) (λ b x. inl x) (r.1 a uncut e).1,
          ),
        );
  }
