-- A chip without tables: its marks are the markers of its blocks.
use Rattle.std.proofs.Common.{◌≡◌, ◌≢◌, ◌⊎◌, ◌<◌, ℕ, zero, suc, ◌+◌, ◌/◌, true, false, not, ◌||◌, ◌==◌, if◌then◌else◌, List, [], ◌∷◌, length, refl, ap, sym, ◌∙◌, arith, Option, Some, None, inl, inr, subst, slice_index, slice_set, bit_or}
use Rattle.std.specs.Prelude.{⊤, nat_le}
use Rattle.std.proofs.Math.Nat.{mul-add-div_right}
use Rattle.std.proofs.lemmas.Bool.Decides.{nat_tests}
use Rattle.std.proofs.lemmas.List.{length-set}
use Rattle.std.proofs.lemmas.Option.{none-some, same_Some}
use Rattle.nand_model.specs.Sizes.{first_page}
use Rattle.nand_model.specs.Page.{page_image, decoded, marker_image}
use Rattle.nand_model.specs.Chip.{PageState, ChipState, FaultModel, ProgramCall, EraseCall, Complete, PowerCut, Flipped, DoneBits, PageEvent, ReadEvent, EraseEvent, ProgramEvent, happens, failure_of, counted, erase_block, program_page, blank_page, torn_erase, good_program, torn_program}
use Rattle.nand_model.specs.Table.{has_tables}
use Rattle.nand_model.specs.Partitions.{Partitions, part_of}
use Rattle.chip_paths.specs.Operation.{Known, Finished, answer, operation_path, operation_by, mark_block, mark_path, write_tables, after_marker_alone, with_mark, done_or, chip_page, chip_block, has_page, has_block, raw_reply, after_read, entry_of, bad_count}
use Rattle.chip_paths.specs.Writing.{marked}
use Rattle.nand_model.specs.Path.{Answer, Good, Failed, Path, Over, Then, either, cells_of, answer_to, good_or_failed}
use Rattle.nand_model.specs.declared.geometry.Geometry.{Geometry}
use Rattle.nand_model.specs.declared.words.Part.{Part}
use Rattle.nand_model.specs.declared.words.Op.{Op}
use Rattle.nand_model.specs.declared.words.Op.TheVariants.{Read, Write, RawRead, RawWrite, Erase, IsBad, Mark, Stats}
use Rattle.nand_model.specs.declared.words.Reply.{Reply}
use Rattle.nand_model.specs.declared.words.Reply.TheVariants.{Done, OutOfRange, BadBlock, MarkerByte, ProgramFailed, EraseFailed, MarkerFailed, Reserved, Copies, State, Counts}
use Rattle.page_laws.specs.Keeping.{KeepsMarker, IsFairEvent}
use Rattle.crash_laws.proofs.Markers0.{BlockMark, block_flipped, block_erased, block_programmed, block_marked as marker_programmed, marked_keeps}
use Rattle.relocation_laws.specs.Life.{block_in, block_marked, NowAcked, NowBegun}
use Rattle.relocation_laws.specs.Keeping.{pages_after}
use Rattle.relocation_laws.proofs.DataEvents.{with_page-apart}
use Rattle.relocation_laws.proofs.Operations.{by-test as by_test, image-marked as image_marked}
use Rattle.page_laws.proofs.Pages.{with_block-other, with_page-other, with_page-same, block_of_first}
use Rattle.relocation_laws.proofs.Safety.{Safety, Safe, turned, closed-turned}
use Rattle.relocation_laws.proofs.Standing.{flip-at as flip_at}
use Rattle.std.proofs.lemmas.Nat.{le_or_r}
use Rattle.run_model.specs.Survival.{WritesAPage}

module _ {W : Type 0} (model : FaultModel W) where
  erased_pages : (s : ChipState W) (block : ℕ) (f : Option DoneBits) → (counted model f (erase_block model s block f)).pages ≡ pages_after s.geometry s.pages (EraseEvent block) f
  erased_pages s block None = refl
  erased_pages s block (Some done) = refl

  erased_geometry : (s : ChipState W) (block : ℕ) (f : Option DoneBits) → (counted model f (erase_block model s block f)).geometry ≡ s.geometry
  erased_geometry s block None = refl
  erased_geometry s block (Some done) = refl

  programmed_pages : (s : ChipState W) (page : ℕ) (image : List ℕ) (f : Option DoneBits) → (counted model f (program_page model s page image f)).pages ≡ pages_after s.geometry s.pages (ProgramEvent page image) f
  programmed_pages s page image None = refl
  programmed_pages s page image (Some done) = refl

  programmed_geometry : (s : ChipState W) (page : ℕ) (image : List ℕ) (f : Option DoneBits) → (counted model f (program_page model s page image f)).geometry ≡ s.geometry
  programmed_geometry s page image None = refl
  programmed_geometry s page image (Some done) = refl

pub that : (x n : ℕ) → (x == n) ≡ true → x ≡ n
that x n e = grind (arith, nat_tests)

pub not_that : (x n : ℕ) → (x == n) ≡ false → x ≢ n
not_that x n e = grind (arith, nat_tests)

module _ {W : Type 0} (g : Geometry) where
  -- the marker of each block is as it may be
  pub record AliveBare (F A B : ℕ → Type 0) (s : ChipState W) : Type 0 where
    pub geometry : s.geometry ≡ g
    pub marks : (b : ℕ) → b < g.blocks → BlockMark g F A B b (s.pages (first_page g b))

  -- what is remembered of the chip: a block that is bad has an entry, and a block with an entry has
  -- a bad marker
  pub record RemembersBare (F A B : ℕ → Type 0) (k : Known) (s : ChipState W) : Type 0 where
    pub alive : AliveBare F A B s
    pub sticky : (b : ℕ) → b < g.blocks → F b ⊎ A b → slice_index k.table b ≢ 0
    pub told : (b : ℕ) → b < g.blocks → slice_index k.table b ≢ 0 → KeepsMarker g (s.pages (first_page g b)) false
    pub long : length k.table ≡ g.blocks

mark_fewer : (g : Geometry) (F A B A1 B1 : ℕ → Type 0) (b : ℕ) (page : PageState) → (A1 b → A b) → (B b → B1 b) → BlockMark g F A B b page → BlockMark g F A1 B1 b page
mark_fewer g F A B A1 B1 b page fewer more h = record { bad = bad; other = other h.other }
  where
    bad : F b ⊎ A1 b → KeepsMarker g page false
    bad (inl f) = h.bad (inl f)
    bad (inr a) = h.bad (inr (fewer a))

    other : KeepsMarker g page true ⊎ (F b ⊎ B b) → KeepsMarker g page true ⊎ (F b ⊎ B1 b)
    other (inl k) = inl k
    other (inr (inl f)) = inr (inl f)
    other (inr (inr x)) = inr (inr (more x))

pub bare_fewer : {W : Type 0} (g : Geometry) (F A B A1 B1 : ℕ → Type 0) (s : ChipState W) → ((b : ℕ) → A1 b → A b) → ((b : ℕ) → B b → B1 b) → AliveBare g F A B s → AliveBare g F A1 B1 s
bare_fewer g F A B A1 B1 s fewer more h = record { geometry = h.geometry; marks = λ b small. mark_fewer g F A B A1 B1 b (s.pages (first_page g b)) (fewer b) (more b) (h.marks b small) }

pub remembers_bare_fewer : {W : Type 0} (g : Geometry) (F A B A1 B1 : ℕ → Type 0) (k : Known) (s : ChipState W) → ((b : ℕ) → A1 b → A b) → ((b : ℕ) → B b → B1 b)
    → RemembersBare g F A B k s → RemembersBare g F A1 B1 k s
remembers_bare_fewer g F A B A1 B1 k s fewer more h = record { alive = bare_fewer g F A B A1 B1 s fewer more h.alive; sticky = λ b small x. h.sticky b small (on b x); told = h.told; long = h.long }
  where
    on : (b : ℕ) → F b ⊎ A1 b → F b ⊎ A b
    on b (inl f) = inl f
    on b (inr a) = inr (fewer b a)

-- an event on blocks with entry 0, with good markers
abbrev IsSafeBare : Geometry → Known → PageEvent → Type 0
IsSafeBare g k (ReadEvent page) = ⊤
IsSafeBare g k (EraseEvent e) = slice_index k.table e ≡ 0
IsSafeBare g k (ProgramEvent page image) = (b : ℕ) → b < g.blocks → first_page g b ≡ page → (slice_index k.table b ≡ 0) × (slice_index image g.page ≡ 0xff)

-- what such an event does to the pages
record SafePages (g : Geometry) (F A B : ℕ → Type 0) (k : Known) (pages after : ℕ → PageState) : Type 0 where
  marks : (b : ℕ) → b < g.blocks → (F b ⊎ A b → slice_index k.table b ≢ 0) → BlockMark g F A B b (pages (first_page g b)) → BlockMark g F A B b (after (first_page g b))
  told : (b : ℕ) → b < g.blocks → slice_index k.table b ≢ 0 → after (first_page g b) ≡ pages (first_page g b)

module _ {W : Type 0} (model : FaultModel W) (g : Geometry) (sized : 0 < g.pages_per_block) (blank : KeepsMarker g (blank_page g) true) (F : ℕ → Type 0) where
  pub bare_flipped : (A B : ℕ → Type 0) (s : ChipState W) (page bit : ℕ) → AliveBare g F A B s → AliveBare g F A B (happens model s (Flipped page bit))
  bare_flipped A B s page bit h =
      record { geometry = h.geometry; marks = λ b small. flip_at (BlockMark g F A B b) s.pages page (first_page g b) bit (λ p m. block_flipped g F A B b p bit m) (h.marks b small) }

  pub kept_flipped : (A B : ℕ → Type 0) (k : Known) (s : ChipState W) (page bit : ℕ) → RemembersBare g F A B k s → RemembersBare g F A B k (happens model s (Flipped page bit))
  kept_flipped A B k s page bit h =
      record {
        alive = bare_flipped A B s page bit h.alive;
        sticky = h.sticky;
        told = λ b small n. flip_at (λ p. KeepsMarker g p false) s.pages page (first_page g b) bit (λ p m bits. m (bit ∷ bits)) (h.told b small n);
        long = h.long;
      }

  -- ---- events
  module _ (A B : ℕ → Type 0) (k : Known) where
    safe_erase : (pages : ℕ → PageState) (e : ℕ) (torn : Option DoneBits) → slice_index k.table e ≡ 0 → SafePages g F A B k pages (pages_after g pages (EraseEvent e) torn)
    safe_erase pages e torn z =
        record {
          marks = λ b small sticky h. block_erased g F A B sized blank pages e b torn (λ same x. sticky x (subst (λ y. slice_index k.table y ≡ 0) (sym same) z)) h;
          told = λ b small n. same b torn (λ at. n (subst (λ y. slice_index k.table y ≡ 0) (sym at) z));
        }
      where
        same : (b : ℕ) (torn : Option DoneBits) → b ≢ e → pages_after g pages (EraseEvent e) torn (first_page g b) ≡ pages (first_page g b)
        same b None n = with_block-other g pages e b (λ q old. blank_page g) sized n
        same b (Some done) n = with_block-other g pages e b (torn_erase done) sized n

    same_program : (pages : ℕ → PageState) (page : ℕ) (image : List ℕ) (b : ℕ) (torn : Option DoneBits) → first_page g b ≢ page → pages_after g pages (ProgramEvent page image) torn (first_page g b) ≡ pages (first_page g b)
    same_program pages page image b None n = with_page-apart pages page (first_page g b) (good_program (pages page) image) n
    same_program pages page image b (Some done) n = with_page-apart pages page (first_page g b) (torn_program (pages page) image done) n

    safe_program : (pages : ℕ → PageState) (page : ℕ) (image : List ℕ) (torn : Option DoneBits) → IsSafeBare g k (ProgramEvent page image) → SafePages g F A B k pages (pages_after g pages (ProgramEvent page image) torn)
    safe_program pages page image torn safe =
        record {
          marks = λ b small sticky h. block_programmed g F A B sized blank pages page image b torn (λ e. ((λ x. sticky x (safe b small e).0), (safe b small e).1)) h;
          told = λ b small n. same_program pages page image b torn (λ e. n (safe b small e).0);
        }

    -- the program of the marker of a block whose marking has begun
    safe_marker : (pages : ℕ → PageState) (e : ℕ) (torn : Option DoneBits) → slice_index k.table e ≡ 0 → B e → SafePages g F A B k pages (pages_after g pages (ProgramEvent (first_page g e) (marker_image g)) torn)
    safe_marker pages e torn z begun =
        record {
          marks = λ b small sticky h. marker_programmed g F A B sized blank pages e b (marker_image g) torn begun (λ same x. sticky x (subst (λ y. slice_index k.table y ≡ 0) (sym same) z)) h;
          told = λ b small n. same b torn (λ at. n (subst (λ y. slice_index k.table y ≡ 0) (sym at) z));
        }
      where
        same : (b : ℕ) (torn : Option DoneBits) → b ≢ e → pages_after g pages (ProgramEvent (first_page g e) (marker_image g)) torn (first_page g b) ≡ pages (first_page g b)
        same b None n = with_page-other g pages e b (good_program (pages (first_page g e)) (marker_image g)) sized n
        same b (Some done) n = with_page-other g pages e b (torn_program (pages (first_page g e)) (marker_image g) done) sized n

    abbrev Kept : ChipState W → Type 0
    Kept s = RemembersBare g F A B k s

    kept_by : (s t : ChipState W) → t.geometry ≡ s.geometry → SafePages g F A B k s.pages t.pages → Kept s → Kept t
    kept_by s t same safe h =
        record {
          alive = record { geometry = same ∙ h.alive.geometry; marks = λ b small. safe.marks b small (h.sticky b small) (h.alive.marks b small) };
          sticky = h.sticky;
          told = λ b small n. subst (λ p. KeepsMarker g p false) (sym (safe.told b small n)) (h.told b small n);
          long = h.long;
        }

    -- an event that does so, however it ends
    abbrev KeepsMarks : PageEvent → Type 0
    KeepsMarks e = (pages : ℕ → PageState) (torn : Option DoneBits) → SafePages g F A B k pages (pages_after g pages e torn)

    safe_keeps : (e : PageEvent) → IsSafeBare g k e → KeepsMarks e
    safe_keeps (ReadEvent page) safe pages torn = record { marks = λ b small sticky h. h; told = λ b small n. refl }
    safe_keeps (EraseEvent e) safe pages torn = safe_erase pages e torn safe
    safe_keeps (ProgramEvent page image) safe pages torn = safe_program pages page image torn safe

    kept_after : (s t : ChipState W) (e : PageEvent) (torn : Option DoneBits) → KeepsMarks e → t.geometry ≡ s.geometry → t.pages ≡ pages_after s.geometry s.pages e torn → Kept s → Kept t
    kept_after s t e torn keeps same pages h =
        kept_by s t same (subst (SafePages g F A B k s.pages) (sym (pages ∙ ap (λ x. pages_after x s.pages e torn) h.alive.geometry)) (keeps s.pages torn)) h

    kept_whole : (s : ChipState W) (e : PageEvent) → KeepsMarks e → Kept s → Kept (happens model s (Complete e))
    kept_whole s (ReadEvent page) keeps h = h
    kept_whole s (EraseEvent e) keeps h =
        kept_after s (happens model s (Complete (EraseEvent e))) (EraseEvent e) (failure_of model s (EraseCall e)) keeps (erased_geometry model s e (failure_of model s (EraseCall e))) (erased_pages model s e (failure_of model s (EraseCall e))) h
    kept_whole s (ProgramEvent page image) keeps h =
        kept_after s (happens model s (Complete (ProgramEvent page image))) (ProgramEvent page image) (failure_of model s (ProgramCall page)) keeps (programmed_geometry model s page image (failure_of model s (ProgramCall page))) (programmed_pages model s page image (failure_of model s (ProgramCall page))) h

    kept_cut : (s : ChipState W) (e : PageEvent) (done : DoneBits) → KeepsMarks e → Kept s → Kept (happens model s (PowerCut e done))
    kept_cut s (ReadEvent page) done keeps h = h
    kept_cut s (EraseEvent e) done keeps h = kept_after s (happens model s (PowerCut (EraseEvent e) done)) (EraseEvent e) (Some done) keeps refl refl h
    kept_cut s (ProgramEvent page image) done keeps h = kept_after s (happens model s (PowerCut (ProgramEvent page image) done)) (ProgramEvent page image) (Some done) keeps refl refl h

  -- ---- operations
  module _ (partitions : Partitions) (A B : ℕ → Type 0) (op : Op) where
    abbrev pub BareAcked : Option Reply → ℕ → Type 0
    BareAcked reply b = A b ⊎ NowAcked partitions op reply b

    abbrev pub BareBegun : Option Reply → ℕ → Type 0
    BareBegun reply b = B b ⊎ NowBegun partitions op reply b

    abbrev pub BareResult : Finished → ChipState W → Type 0
    BareResult finished s = RemembersBare g F (BareAcked (Some finished.reply)) (BareBegun (Some finished.reply)) finished.known s

    abbrev pub bare_law : Safety W Finished
    bare_law = record { model = model; granted = IsFairEvent model; moment = λ path s. AliveBare g F A (BareBegun None) s; ended = λ s. AliveBare g F A (BareBegun None) s; result = BareResult }

    begun_more : (reply : Option Reply) (b : ℕ) → BareBegun reply b → BareBegun None b
    begun_more reply b (inl x) = inl x
    begun_more reply b (inr n) = inr (n.0, refl)

    end-safe : (k : Known) (reply : Reply) (s : ChipState W) → RemembersBare g F (BareAcked (Some reply)) (BareBegun (Some reply)) k s → Safe bare_law (answer k reply) s
    end-safe k reply s h flips = (bare_fewer g F (BareAcked (Some reply)) (BareBegun (Some reply)) A (BareBegun None) t (λ b a. inl a) (begun_more (Some reply)) now.alive, now)
      where
        t : ChipState W
        t = turned model s flips

        now : RemembersBare g F (BareAcked (Some reply)) (BareBegun (Some reply)) k t
        now = closed-turned model (RemembersBare g F (BareAcked (Some reply)) (BareBegun (Some reply)) k) (λ u page bit i. kept_flipped (BareAcked (Some reply)) (BareBegun (Some reply)) k u page bit i) s flips h

    -- an event that keeps the marks is safe where what follows is
    event-safe : (k : Known) (e : PageEvent) (rest : Answer → Path Finished) (s : ChipState W) → KeepsMarks A (BareBegun None) k e → RemembersBare g F A (BareBegun None) k s
        → ((t : ChipState W) → RemembersBare g F A (BareBegun None) k t → Safe bare_law (rest (answer_to model t e)) (happens model t (Complete e))) → Safe bare_law (Then e rest) s
    event-safe k e rest s keeps h later flips = (
      now.alive,
      (λ done grant. (kept_cut A (BareBegun None) k t e done keeps now).alive),
      (λ grant. later t now),
    )
      where
        t : ChipState W
        t = turned model s flips

        now : RemembersBare g F A (BareBegun None) k t
        now = closed-turned model (RemembersBare g F A (BareBegun None) k) (λ u page bit i. kept_flipped A (BareBegun None) k u page bit i) s flips h

    module _ (k : Known) where
      refused : (reply : Reply) → (reply ≡ Done → (b : ℕ) → block_marked partitions op ≡ Some b → ⊥) → (s : ChipState W) → RemembersBare g F A B k s → Safe bare_law (answer k reply) s
      refused reply not_done s h = end-safe k reply s (remembers_bare_fewer g F A B (BareAcked (Some reply)) (BareBegun (Some reply)) k s fewer (λ b z. inl z) h)
        where
          fewer : (b : ℕ) → BareAcked (Some reply) b → A b
          fewer b (inl a) = a
          fewer b (inr n) = absurd (not_done (same_Some reply Done n.1) b n.0)

      pending : (s : ChipState W) → RemembersBare g F A B k s → RemembersBare g F A (BareBegun None) k s
      pending s h = remembers_bare_fewer g F A B A (BareBegun None) k s (λ b a. a) (λ b z. inl z) h

      back : block_marked partitions op ≡ None → (s : ChipState W) → RemembersBare g F A (BareBegun None) k s → RemembersBare g F A B k s
      back none s h = remembers_bare_fewer g F A (BareBegun None) A B k s (λ b a. a) fewer h
        where
          fewer : (b : ℕ) → BareBegun None b → B b
          fewer b (inl z) = z
          fewer b (inr n) = absurd (none-some b (sym none ∙ n.0))

      plain : (e : PageEvent) (rest : Answer → Path Finished) (s : ChipState W) → IsSafeBare g k e → block_marked partitions op ≡ None → RemembersBare g F A B k s
          → ((t : ChipState W) (a : Answer) → RemembersBare g F A B k t → Safe bare_law (rest a) t) → Safe bare_law (Then e rest) s
      plain e rest s safe none h later =
          event-safe k e rest s (safe_keeps A (BareBegun None) k e safe) (pending s h)
          (λ t i. later (happens model t (Complete e)) (answer_to model t e) (back none (happens model t (Complete e)) (kept_whole A (BareBegun None) k t e (safe_keeps A (BareBegun None) k e safe) i)))

      program_safe : (start page : ℕ) (image : List ℕ) → slice_index k.table (start + page / g.pages_per_block) ≡ 0 → slice_index image g.page ≡ 0xff
          → IsSafeBare g k (ProgramEvent (first_page g start + page) image)
      program_safe start page image z i b small e =
          (subst (λ y. slice_index k.table y ≡ 0) (sym (sym (block_of_first g b sized) ∙ ap (λ p. p / g.pages_per_block) e ∙ mul-add-div_right sized start page)) z, i)

      -- ---- marks
      module _ (e : ℕ) (is_mark : block_marked partitions op ≡ Some e) (z : slice_index k.table e ≡ 0) (bare : has_tables g ≡ false) where
        failed_end : (s : ChipState W) → RemembersBare g F A (BareBegun None) k s → Safe bare_law (answer k MarkerFailed) s
        failed_end s h = end-safe k MarkerFailed s (remembers_bare_fewer g F A (BareBegun None) (BareAcked (Some MarkerFailed)) (BareBegun (Some MarkerFailed)) k s fewer more h)
          where
            fewer : (b : ℕ) → BareAcked (Some MarkerFailed) b → A b
            fewer b (inl a) = a
            fewer b (inr n) = absurd (cc (n.1))

            more : (b : ℕ) → BareBegun None b → BareBegun (Some MarkerFailed) b
            more b (inl x) = inl x
            more b (inr n) = inr (n.0, refl)

        marked_entry : (table : List ℕ) (b : ℕ) → slice_index table b ≢ 0 → slice_index (marked table e) b ≢ 0
        marked_entry table b n = set_entry table e b (bit_or (slice_index table e) 1) (odd (slice_index table e)) n
          where
            odd : (x : ℕ) → bit_or x 1 ≢ 0
            odd x h = omega (arith, le_or_r x 1, h)

            set_entry : (table : List ℕ) (e b v : ℕ) → v ≢ 0 → slice_index table b ≢ 0 → slice_index (slice_set table e v) b ≢ 0
            set_entry [] e b v h n = n
            set_entry (x ∷ xs) zero zero v h n = h
            set_entry (x ∷ xs) zero (suc b) v h n = n
            set_entry (x ∷ xs) (suc e) zero v h n = n
            set_entry (x ∷ xs) (suc e) (suc b) v h n = set_entry xs e b v h n

        -- an entry that is new is that of the block
        new_entry : (table : List ℕ) (e b v : ℕ) → slice_index (slice_set table e v) b ≢ 0 → (b ≡ e) ⊎ (slice_index table b ≢ 0)
        new_entry [] e b v n = inr n
        new_entry (x ∷ xs) zero zero v n = inl refl
        new_entry (x ∷ xs) zero (suc b) v n = inr n
        new_entry (x ∷ xs) (suc e) zero v n = inr n
        new_entry (x ∷ xs) (suc e) (suc b) v n = on (new_entry xs e b v n)
          where
            on : (b ≡ e) ⊎ (slice_index xs b ≢ 0) → (suc b ≡ suc e) ⊎ (slice_index xs b ≢ 0)
            on (inl same) = inl (ap suc same)
            on (inr m) = inr m

        itself : (table : List ℕ) (e v : ℕ) → e < length table → v ≢ 0 → slice_index (slice_set table e v) e ≢ 0
        itself [] e v h n = absurd (omega (arith, h))
        itself (x ∷ xs) zero v h n = n
        itself (x ∷ xs) (suc e) v h n = let less : e < length xs = omega (arith, h) in itself xs e v less n

        good_end : length k.table ≡ g.blocks → (s : ChipState W) → RemembersBare g F A (BareBegun None) k s → KeepsMarker g (s.pages (first_page g e)) false → Safe bare_law (answer (with_mark g k e) Done) s
        good_end long s h marker = end-safe (with_mark g k e) Done s (record {
          alive = record { geometry = h.alive.geometry; marks = λ b small. now b small };
          sticky = λ b small x. stuck b small x;
          told = λ b small n. told b small (new_entry k.table e b (bit_or (slice_index k.table e) 1) n);
          long = length-set k.table e (bit_or (slice_index k.table e) 1) ∙ long;
        })
          where
            told : (b : ℕ) → b < g.blocks → (b ≡ e) ⊎ (slice_index k.table b ≢ 0) → KeepsMarker g (s.pages (first_page g b)) false
            told b small (inl same) = subst (λ d. KeepsMarker g (s.pages (first_page g d)) false) (sym same) marker
            told b small (inr n) = h.told b small n

            stuck : (b : ℕ) → b < g.blocks → F b ⊎ BareAcked (Some Done) b → slice_index (marked k.table e) b ≢ 0
            stuck b small (inl f) = marked_entry k.table b (h.sticky b small (inl f))
            stuck b small (inr (inl a)) = marked_entry k.table b (h.sticky b small (inr a))
            stuck b small (inr (inr n)) =
                let same : b ≡ e = same_Some b e (sym n.0 ∙ is_mark) in
                subst (λ d. slice_index (marked k.table e) d ≢ 0) (sym same)
                (itself k.table e (bit_or (slice_index k.table e) 1) (subst (λ n. e < n) (sym long) (subst (λ d. d < g.blocks) same small)) (λ zero. omega (arith, le_or_r (slice_index k.table e) 1, zero)))

            now : (b : ℕ) → b < g.blocks → BlockMark g F (BareAcked (Some Done)) (BareBegun (Some Done)) b (s.pages (first_page g b))
            now b small = record { bad = bad; other = other (h.alive.marks b small).other }
              where
                bad : F b ⊎ BareAcked (Some Done) b → KeepsMarker g (s.pages (first_page g b)) false
                bad (inl f) = (h.alive.marks b small).bad (inl f)
                bad (inr (inl a)) = (h.alive.marks b small).bad (inr a)
                bad (inr (inr n)) = told b small (inl (same_Some b e (sym n.0 ∙ is_mark)))

                other : KeepsMarker g (s.pages (first_page g b)) true ⊎ (F b ⊎ BareBegun None b) → KeepsMarker g (s.pages (first_page g b)) true ⊎ (F b ⊎ BareBegun (Some Done) b)
                other (inl x) = inl x
                other (inr (inl f)) = inr (inl f)
                other (inr (inr (inl x))) = inr (inr (inl x))
                other (inr (inr (inr n))) = inr (inr (inr (n.0, refl)))

        abbrev after_marker : Answer → Path Finished
        after_marker marker = either (has_tables g) (λ u. write_tables g (with_mark g k e) marker) (λ u. after_marker_alone g k e marker)

        marker_pages : (s : ChipState W) (torn : Option DoneBits) → torn ≡ None → KeepsMarker g (pages_after g s.pages (ProgramEvent (first_page g e) (marker_image g)) torn (first_page g e)) false
        marker_pages s None none = subst (λ p. KeepsMarker g p false) (sym (with_page-same g s.pages (first_page g e) (good_program (s.pages (first_page g e)) (marker_image g)))) (marked_keeps g (s.pages (first_page g e)))
        marker_pages s (Some done) none = absurd (cc)

        marker_end : length k.table ≡ g.blocks → (s : ChipState W) → RemembersBare g F A (BareBegun None) k s → (torn : Option DoneBits) → failure_of model s (ProgramCall (first_page g e)) ≡ torn
            → Safe bare_law (after_marker (answer_to model s (ProgramEvent (first_page g e) (marker_image g)))) (happens model s (Complete (ProgramEvent (first_page g e) (marker_image g))))
        marker_end long s h None is =
            subst (λ a. Safe bare_law (after_marker a) after) (sym (ap good_or_failed is))
            (subst (λ t. Safe bare_law (either t (λ u. write_tables g (with_mark g k e) Good) (λ u. after_marker_alone g k e Good)) after) (sym bare)
            (good_end long after kept marker))
          where
            after : ChipState W
            after = happens model s (Complete (ProgramEvent (first_page g e) (marker_image g)))

            keeps : KeepsMarks A (BareBegun None) k (ProgramEvent (first_page g e) (marker_image g))
            keeps pages torn = safe_marker A (BareBegun None) k pages e torn z (inr (is_mark, refl))

            kept : RemembersBare g F A (BareBegun None) k after
            kept = kept_whole A (BareBegun None) k s (ProgramEvent (first_page g e) (marker_image g)) keeps h

            marker : KeepsMarker g (after.pages (first_page g e)) false
            marker =
                subst (λ q. KeepsMarker g (q (first_page g e)) false)
                (sym (programmed_pages model s (first_page g e) (marker_image g) (failure_of model s (ProgramCall (first_page g e)))
                ∙ ap (λ x. pages_after x s.pages (ProgramEvent (first_page g e) (marker_image g)) (failure_of model s (ProgramCall (first_page g e)))) h.alive.geometry))
                (marker_pages s (failure_of model s (ProgramCall (first_page g e))) is)
        marker_end long s h (Some done) is =
            subst (λ a. Safe bare_law (after_marker a) after) (sym (ap good_or_failed is))
            (subst (λ t. Safe bare_law (either t (λ u. write_tables g (with_mark g k e) Failed) (λ u. after_marker_alone g k e Failed)) after) (sym bare)
            (failed_end after kept))
          where
            after : ChipState W
            after = happens model s (Complete (ProgramEvent (first_page g e) (marker_image g)))

            kept : RemembersBare g F A (BareBegun None) k after
            kept = kept_whole A (BareBegun None) k s (ProgramEvent (first_page g e) (marker_image g)) (λ pages torn. safe_marker A (BareBegun None) k pages e torn z (inr (is_mark, refl))) h

        mark-safe : length k.table ≡ g.blocks → (s : ChipState W) → RemembersBare g F A B k s → Safe bare_law (mark_path g k e) s
        mark-safe long s h =
            event-safe k (EraseEvent e) (λ erased. Then (ProgramEvent (first_page g e) (marker_image g)) (λ marker. after_marker marker)) s (safe_keeps A (BareBegun None) k (EraseEvent e) z) (pending s h)
            (λ t i.
            event-safe k (ProgramEvent (first_page g e) (marker_image g)) (λ marker. after_marker marker) (happens model t (Complete (EraseEvent e)))
            (λ pages torn. safe_marker A (BareBegun None) k pages e torn z (inr (is_mark, refl))) (kept_whole A (BareBegun None) k t (EraseEvent e) (safe_keeps A (BareBegun None) k (EraseEvent e) z) i)
            (λ u j. marker_end long u j (failure_of model u (ProgramCall (first_page g e))) refl))

      -- a marking that is answered `Done` at once
      at_once : (e : ℕ) → block_marked partitions op ≡ Some e → slice_index k.table e ≢ 0 → (s : ChipState W) → RemembersBare g F A B k s → Safe bare_law (answer k Done) s
      at_once e is_mark n s h = end-safe k Done s (record {
        alive = record { geometry = h.alive.geometry; marks = λ b small. now b small };
        sticky = λ b small x. stuck b small x;
        told = h.told;
        long = h.long;
      })
        where
          stuck : (b : ℕ) → b < g.blocks → F b ⊎ BareAcked (Some Done) b → slice_index k.table b ≢ 0
          stuck b small (inl f) = h.sticky b small (inl f)
          stuck b small (inr (inl a)) = h.sticky b small (inr a)
          stuck b small (inr (inr m)) = subst (λ d. slice_index k.table d ≢ 0) (sym (same_Some b e (sym m.0 ∙ is_mark))) n

          now : (b : ℕ) → b < g.blocks → BlockMark g F (BareAcked (Some Done)) (BareBegun (Some Done)) b (s.pages (first_page g b))
          now b small = record { bad = λ x. h.told b small (stuck b small x); other = other (h.alive.marks b small).other }
            where
              other : KeepsMarker g (s.pages (first_page g b)) true ⊎ (F b ⊎ B b) → KeepsMarker g (s.pages (first_page g b)) true ⊎ (F b ⊎ BareBegun (Some Done) b)
              other (inl x) = inl x
              other (inr (inl f)) = inr (inl f)
              other (inr (inr x)) = inr (inr (inl x))

      mark_in : has_tables g ≡ false → length k.table ≡ g.blocks → (e : ℕ) → block_marked partitions op ≡ Some e → (s : ChipState W) → RemembersBare g F A B k s → Safe bare_law (mark_block g k e) s
      mark_in bare long e is_mark s h =
          by_test (λ p. Safe bare_law p s) (not (entry_of k e == 2)) _ (λ u. answer k Reserved)
          (λ not_two. by_test (λ p. Safe bare_law p s) (not (has_tables g) || nat_le 2 k.copies) _ (λ u. answer k (Copies k.copies))
          (λ enough. by_test (λ p. Safe bare_law p s) (entry_of k e == 0) (λ u. mark_path g k e) (λ u. answer k Done)
          (λ zero_entry. mark-safe e is_mark (that (slice_index k.table e) 0 zero_entry) bare long s h)
          (λ other. at_once e is_mark (not_that (slice_index k.table e) 0 other) s h))
          (λ few. refused (Copies k.copies) (λ d. absurd (cc)) s h))
          (λ two. refused Reserved (λ d. absurd (cc)) s h)

  -- ---- each operation
  module _ (partitions : Partitions) (A B : ℕ → Type 0) (k : Known) (s : ChipState W) (bare : has_tables g ≡ false) (h : RemembersBare g F A B k s) where
    abbrev SafeOp : Op → Path Finished → Type 0
    SafeOp op path = Safe (bare_law partitions A B op) path s

    out_of_range : (op : Op) → block_marked partitions op ≡ None → SafeOp op (answer k OutOfRange)
    out_of_range op none = refused partitions A B op k OutOfRange (λ d. absurd (cc)) s h

    nothing_marked : (op : Op) → block_marked partitions op ≡ None → (reply : Reply) → reply ≡ Done → (b : ℕ) → block_marked partitions op ≡ Some b → ⊥
    nothing_marked op none reply d b e = none-some b (sym none ∙ e)

    after_read_kept : (op : Op) (dev : ℕ) (a : Answer) (t : ChipState W) → block_marked partitions op ≡ None → RemembersBare g F A B k t
        → Safe (bare_law partitions A B op) (Over (after_read g k dev (decoded g (cells_of a)))) t
    after_read_kept op dev a t none i =
        refused partitions A B op (after_read g k dev (decoded g (cells_of a))).known (after_read g k dev (decoded g (cells_of a))).reply
        (nothing_marked op none (after_read g k dev (decoded g (cells_of a))).reply) t (record { alive = i.alive; sticky = i.sticky; told = i.told; long = i.long })

    pub op-safe-bare : (op : Op) → WritesAPage g op → SafeOp op (operation_path g partitions k op)
    op-safe-bare (Read dev page) fits = on (part_of partitions dev)
      where
        on : (part : Option Part) → SafeOp (Read dev page) (operation_by g k part (Read dev page))
        on None = out_of_range (Read dev page) refl
        on (Some part) =
            by_test (SafeOp (Read dev page)) (has_page g part page) _ (λ u. answer k OutOfRange)
            (λ e. plain partitions A B (Read dev page) k (ReadEvent (chip_page g part page)) (λ seen. Over (after_read g k dev (decoded g (cells_of seen)))) s tt refl h
            (λ t a i. after_read_kept (Read dev page) dev a t refl i))
            (λ e. out_of_range (Read dev page) refl)
    op-safe-bare (RawRead dev page) fits = on (part_of partitions dev)
      where
        on : (part : Option Part) → SafeOp (RawRead dev page) (operation_by g k part (RawRead dev page))
        on None = out_of_range (RawRead dev page) refl
        on (Some part) =
            by_test (SafeOp (RawRead dev page)) (has_page g part page) _ (λ u. answer k OutOfRange)
            (λ e. plain partitions A B (RawRead dev page) k (ReadEvent (chip_page g part page)) (λ seen. answer k (raw_reply (cells_of seen))) s tt refl h
            (λ t a i. refused partitions A B (RawRead dev page) k (raw_reply (cells_of a)) (λ d. absurd (cc)) t i))
            (λ e. out_of_range (RawRead dev page) refl)
    op-safe-bare (Write dev page body free) fits = on (part_of partitions dev)
      where
        on : (part : Option Part) → SafeOp (Write dev page body free) (operation_by g k part (Write dev page body free))
        on None = out_of_range (Write dev page body free) refl
        on (Some part) =
            by_test (SafeOp (Write dev page body free)) (has_page g part page) _ (λ u. answer k OutOfRange)
            (λ e. by_test (SafeOp (Write dev page body free)) (entry_of k (chip_block part (page / g.pages_per_block)) == 0) _ (λ u. answer k BadBlock)
            (λ z. plain partitions A B (Write dev page body free) k (ProgramEvent (chip_page g part page) (page_image g body free)) (λ outcome. answer k (done_or ProgramFailed outcome)) s
            (program_safe partitions A B (Write dev page body free) k part.start page (page_image g body free) (that (entry_of k (chip_block part (page / g.pages_per_block))) 0 z) (image_marked g body free fits)) refl h
            (λ t a i. refused partitions A B (Write dev page body free) k (done_or ProgramFailed a) (λ d b e. none-some b e) t i))
            (λ z. refused partitions A B (Write dev page body free) k BadBlock (λ d. absurd (cc)) s h))
            (λ e. out_of_range (Write dev page body free) refl)
    op-safe-bare (RawWrite dev page image) fits = on (part_of partitions dev)
      where
        on : (part : Option Part) → SafeOp (RawWrite dev page image) (operation_by g k part (RawWrite dev page image))
        on None = out_of_range (RawWrite dev page image) refl
        on (Some part) =
            by_test (SafeOp (RawWrite dev page image)) (has_page g part page) _ (λ u. answer k OutOfRange)
            (λ e. by_test (SafeOp (RawWrite dev page image)) (entry_of k (chip_block part (page / g.pages_per_block)) == 0) _ (λ u. answer k BadBlock)
            (λ z. by_test (SafeOp (RawWrite dev page image)) (slice_index image g.page == 0xff) _ (λ u. answer k MarkerByte)
            (λ m. plain partitions A B (RawWrite dev page image) k (ProgramEvent (chip_page g part page) image) (λ outcome. answer k (done_or ProgramFailed outcome)) s
            (program_safe partitions A B (RawWrite dev page image) k part.start page image (that (entry_of k (chip_block part (page / g.pages_per_block))) 0 z) (that (slice_index image g.page) 0xff m)) refl h
            (λ t a i. refused partitions A B (RawWrite dev page image) k (done_or ProgramFailed a) (λ d b e. none-some b e) t i))
            (λ m. refused partitions A B (RawWrite dev page image) k MarkerByte (λ d. absurd (cc)) s h))
            (λ z. refused partitions A B (RawWrite dev page image) k BadBlock (λ d. absurd (cc)) s h))
            (λ e. out_of_range (RawWrite dev page image) refl)
    op-safe-bare (Erase dev block) fits = on (part_of partitions dev)
      where
        on : (part : Option Part) → SafeOp (Erase dev block) (operation_by g k part (Erase dev block))
        on None = out_of_range (Erase dev block) refl
        on (Some part) =
            by_test (SafeOp (Erase dev block)) (has_block part block) _ (λ u. answer k OutOfRange)
            (λ e. by_test (SafeOp (Erase dev block)) (entry_of k (chip_block part block) == 0) _ (λ u. answer k BadBlock)
            (λ z. plain partitions A B (Erase dev block) k (EraseEvent (chip_block part block)) (λ outcome. answer k (done_or EraseFailed outcome)) s
            (that (entry_of k (chip_block part block)) 0 z) refl h
            (λ t a i. refused partitions A B (Erase dev block) k (done_or EraseFailed a) (λ d b e. none-some b e) t i))
            (λ z. refused partitions A B (Erase dev block) k BadBlock (λ d. absurd (cc)) s h))
            (λ e. out_of_range (Erase dev block) refl)
    op-safe-bare (IsBad dev block) fits = on (part_of partitions dev)
      where
        on : (part : Option Part) → SafeOp (IsBad dev block) (operation_by g k part (IsBad dev block))
        on None = out_of_range (IsBad dev block) refl
        on (Some part) =
            by_test (SafeOp (IsBad dev block)) (has_block part block) _ (λ u. answer k OutOfRange)
            (λ e. refused partitions A B (IsBad dev block) k (State (entry_of k (chip_block part block))) (λ d. absurd (cc)) s h)
            (λ e. out_of_range (IsBad dev block) refl)
    op-safe-bare (Stats dev) fits = on (part_of partitions dev)
      where
        on : (part : Option Part) → SafeOp (Stats dev) (operation_by g k part (Stats dev))
        on None = out_of_range (Stats dev) refl
        on (Some part) = refused partitions A B (Stats dev) k (Counts (k.statistics dev).corrected (k.statistics dev).failed (bad_count k.table part)) (λ d. absurd (cc)) s h
    op-safe-bare (Mark dev block) fits = on (part_of partitions dev) refl
      where
        on : (part : Option Part) → part_of partitions dev ≡ part → SafeOp (Mark dev block) (operation_by g k part (Mark dev block))
        on None is = refused partitions A B (Mark dev block) k OutOfRange (λ d. absurd (cc)) s h
        on (Some part) is =
            by_test (SafeOp (Mark dev block)) (has_block part block) _ (λ u. answer k OutOfRange)
            (λ e. mark_in partitions A B (Mark dev block) k bare h.long (chip_block part block)
            (ap (λ p. block_in p block) is ∙ ap (λ t. if t then Some (part.start + block) else None) e) s h)
            (λ e. refused partitions A B (Mark dev block) k OutOfRange (λ d. absurd (cc)) s h)
