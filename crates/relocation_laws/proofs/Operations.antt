-- Each operation of an attached chip with tables is a mark of one block, or leaves tables and
-- markers alone.
use Rattle.std.proofs.Common.{◌≡◌, ◌≢◌, ◌⊎◌, ◌<◌, ◌≤◌, ℕ, zero, suc, ◌+◌, ◌*◌, ◌/◌, Bool, true, false, ◌==◌, List, [], ◌∷◌, ◌++◌, length, refl, ap, sym, ◌∙◌, arith, Option, Some, None, inl, inr, subst, slice_index, if◌then◌else◌}
use Rattle.std.specs.Prelude.{⊤}
use Rattle.std.proofs.Math.Nat.{mul-add-div_right}
use Rattle.std.proofs.lemmas.Bool.{false≢true, eqb-true}
use Rattle.nand_model.specs.Sizes.{first_page}
use Rattle.nand_model.specs.Page.{page_image, decoded}
use Rattle.nand_model.specs.Chip.{ChipState, FaultModel, PageEvent, ReadEvent, EraseEvent, ProgramEvent}
use Rattle.nand_model.specs.Table.{table_blocks, is_bad_state}
use Rattle.chip_paths.specs.Operation.{Known, Finished, answer, only_if, operation_by, mark_block, done_or, chip_page, chip_block, has_page, has_block, raw_reply, after_read, entry_of, is_good_block, bad_count}
use Rattle.nand_model.specs.Path.{Answer, Path, Over, Then, either, cells_of, first_event}
use Rattle.run_model.specs.Run.{block_changed}
use Rattle.std.proofs.lemmas.Option.{none-some}
use Rattle.nand_model.specs.declared.geometry.Geometry.{Geometry}
use Rattle.nand_model.specs.declared.words.Part.{Part}
use Rattle.nand_model.specs.declared.words.Op.{Op}
use Rattle.nand_model.specs.declared.words.Op.TheVariants.{Read, Write, RawRead, RawWrite, Erase, IsBad, Mark, Stats}
use Rattle.nand_model.specs.declared.words.Reply.{Reply}
use Rattle.nand_model.specs.declared.words.Reply.TheVariants.{OutOfRange, BadBlock, MarkerByte, ProgramFailed, EraseFailed, State, Counts}
use Rattle.page_laws.specs.Keeping.{IsIn}
use Rattle.relocation_laws.specs.Tables.{IsTableBlock, Shows}
use Rattle.relocation_laws.specs.Life.{block_of}
use Rattle.relocation_laws.proofs.DataEvents.{IsSafe, data-safe, safe-outside}
use Rattle.relocation_laws.proofs.Goes.{Setting, Holding, holding-turned, rests-inside, alive-still}
use Rattle.relocation_laws.proofs.Lives.{Lives, LivesBefore, Remembers}
use Rattle.relocation_laws.proofs.MarkerTables.{AreFactoryBad}
use Rattle.relocation_laws.proofs.Safety.{Safety, Safe, turned}
use Rattle.run_model.specs.Survival.{WritesAPage}

-- a path by a test
pub by-test : {A : Type 0} (R : Path A → Type 0) (t : Bool) (x y : Unit {0} → Path A) → (t ≡ true → R (x tt)) → (t ≡ false → R (y tt)) → R (either t x y)
by-test R true x y on off = on refl
by-test R false x y on off = off refl

full-there : (body free rest : List ℕ) (n : ℕ) → length body ≡ n → slice_index (body ++ (0xff ∷ 0xff ∷ []) ++ free ++ rest) n ≡ 0xff
full-there [] free rest zero e = refl
full-there [] free rest (suc n) e = absurd (cc)
full-there (x ∷ body) free rest zero e = absurd (cc)
full-there (x ∷ body) free rest (suc n) e = full-there body free rest n (omega (arith, e))

-- the image of a body of one page has 0xFF in its marker byte
pub image-marked : (g : Geometry) (body free : List ℕ) → length body ≡ g.page → slice_index (page_image g body free) g.page ≡ 0xff
image-marked g body free e = full-there body free _ g.page e

page-block : (p t start page : ℕ) → 0 < p → t * p ≡ start * p + page → t ≡ start + page / p
page-block p t start page h e = sym (block-is t) ∙ ap (λ x. x / p) e ∙ mul-add-div_right h start page
  where
    block-is : (b : ℕ) → b * p / p ≡ b
    block-is b = ap (λ x. x / p) (omega arith) ∙ mul-add-div_right h b 0 ∙ omega arith

module _ {W : Type 0} (model : FaultModel W) (g : Geometry) (c : Setting g) (enough : 4 ≤ g.blocks) (F : ℕ → Type 0) (factory : AreFactoryBad g c.is_good F)
    (p q : ℕ) (in_p : IsTableBlock g c.is_good p) (in_q : IsTableBlock g c.is_good q) (apart : p ≢ q)
    (A B : ℕ → Type 0) (k : Known) (s : ChipState W) (r : Remembers model g c enough F factory p q in_p in_q apart A B k s) where
  abbrev pub Memory : Known → ChipState W → Type 0
  Memory j t = Remembers model g c enough F factory p q in_p in_q apart A B j t

  abbrev pub Here : ChipState W → Type 0
  Here t = Holding g c (Shows g F A B) ((b : ℕ) → A b → ⊥) r.holds None t

  -- nothing is asked of the events of an operation that leaves the tables alone
  abbrev pub plain_law : (Path Finished → ChipState W → Type 0) → (ChipState W → Type 0) → Safety W Finished
  plain_law moment ended = record { model = model; granted = λ t e. ⊤; moment = moment; ended = ended; result = λ f t. Memory f.known t }

  -- what holds before an event outside the table blocks and after a cut one, while the pages hold
  -- the shelf that is remembered
  module _ (moment : Path Finished → ChipState W → Type 0) (ended : ChipState W → Type 0)
      (before : (path : Path Finished) → ((b : ℕ) → block_changed g (first_event path) ≡ Some b → IsIn (table_blocks g) b → ⊥) → (t : ChipState W) → Here t → moment path t) (after_cut : (t : ChipState W) → Here t → ended t) where
    abbrev pub Plain : Path Finished → Type 0
    Plain path = (t : ChipState W) → Here t → Safe (plain_law moment ended) path t

    -- what is known may have other statistics
    over : (f : Finished) → f.known.table ≡ k.table → f.known.version ≡ k.version → f.known.places ≡ k.places → f.known.copies ≡ k.copies → Plain (Over f)
    over f table version places copies t h = λ flips.
        let now = holding-turned g c (Shows g F A B) ((b : ℕ) → A b → ⊥) model r.holds None t flips h in (
          before (Over f) (λ b e. absurd (none-some b e)) (turned model t flips) now,
          record {
            holds = r.holds;
            holding = now;
            rests = r.rests;
            both = λ two. rw (table, version, places) (r.both (rw copies at two));
            form = rw table r.form;
            shows = rw table r.shows;
          },
        )

    replied : (reply : Reply) → Plain (answer k reply)
    replied reply = over (record { reply = reply; known = k }) refl refl refl refl

    event : (e : PageEvent) (rest : Answer → Path Finished) → IsSafe g c.is_good e → ((a : Answer) → Plain (rest a)) → Plain (Then e rest)
    event e rest safe later t h =
        data-safe model g c (Shows g F A B) ((b : ℕ) → A b → ⊥) (λ t e. ⊤) moment ended (λ f u. Memory f.known u) r.holds e rest t safe (before (Then e rest) (safe-outside g c.is_good e safe)) after_cut h (λ u a i. later a u i)

    entry-out : (b : ℕ) → slice_index k.table b ≡ 0 → IsIn (table_blocks g) b → ⊥
    entry-out b zero_ i = on (r.form.reserved b i)
      where
        on : (slice_index k.table b ≡ 2) ⊎ (slice_index k.table b ≡ 3) → ⊥
        on (inl e) = absurd (omega (arith, e, zero_))
        on (inr e) = absurd (omega (arith, e, zero_))

    entry-good : (b : ℕ) → b < g.blocks → slice_index k.table b ≡ 0 → c.is_good b ≡ true
    entry-good b small zero_ = on (c.is_good b) refl
      where
        on : (t : Bool) → c.is_good b ≡ t → c.is_good b ≡ true
        on true e = e
        on false e = absurd (false≢true (sym (ap is_bad_state zero_) ∙ r.shows.factory b small (factory.good b e)))

    program-ok : (start page : ℕ) (image : List ℕ) → slice_index k.table (start + page / g.pages_per_block) ≡ 0 → slice_index image g.page ≡ 0xff → IsSafe g c.is_good (ProgramEvent (first_page g start + page) image)
    program-ok start page image z i = (
      (λ t. entry-out (start + page / g.pages_per_block) z (subst (IsIn (table_blocks g)) (mul-add-div_right c.laws.sized start page) t)),
      (λ b small e. (entry-good b small (subst (λ y. slice_index k.table y ≡ 0) (sym (page-block g.pages_per_block b start page c.laws.sized e)) z), i)),
    )

    -- an operation on a partition: a mark of one of its blocks, or one that leaves the tables alone
    abbrev pub Route : Option Part → Op → Type 0
    Route part op =
        ((b : ℕ) × (block_of part op ≡ Some b) × (operation_by g k part op ≡ mark_block g k b)) ⊎ ((block_of part op ≡ None) × Plain (operation_by g k part op))

    tested : (t : Bool) (refusal : Reply) (go_on : Unit {0} → Path Finished) → (t ≡ true → Plain (go_on tt)) → Plain (only_if t k refusal go_on)
    tested t refusal go_on h = by-test Plain t go_on (λ u. answer k refusal) h (λ e. replied refusal)

    mark-route : (part : Part) (dev block : ℕ) (t : Bool) → has_block part block ≡ t → Route (Some part) (Mark dev block)
    mark-route part dev block true e =
        inl (part.start + block, ap (λ x. if x then Some (part.start + block) else None) e, ap (λ x. either x (λ (u : Unit {0}). mark_block g k (part.start + block)) (λ u. answer k OutOfRange)) e)
    mark-route part dev block false e =
        inr (ap (λ x. if x then Some (part.start + block) else None) e, subst (λ x. Plain (either x (λ u. mark_block g k (part.start + block)) (λ u. answer k OutOfRange))) (sym e) (replied OutOfRange))

    pub route : (part : Option Part) (op : Op) → WritesAPage g op → Route part op
    route None (Read dev page) fits = inr (refl, replied OutOfRange)
    route None (Write dev page body free) fits = inr (refl, replied OutOfRange)
    route None (RawRead dev page) fits = inr (refl, replied OutOfRange)
    route None (RawWrite dev page image) fits = inr (refl, replied OutOfRange)
    route None (Erase dev block) fits = inr (refl, replied OutOfRange)
    route None (IsBad dev block) fits = inr (refl, replied OutOfRange)
    route None (Mark dev block) fits = inr (refl, replied OutOfRange)
    route None (Stats dev) fits = inr (refl, replied OutOfRange)
    route (Some part) (Read dev page) fits =
        inr (
          refl,
          tested (has_page g part page) OutOfRange (λ u. Then (ReadEvent (chip_page g part page)) (λ seen. Over (after_read g k dev (decoded g (cells_of seen))))) (λ e.
              event (ReadEvent (chip_page g part page)) (λ seen. Over (after_read g k dev (decoded g (cells_of seen)))) tt (λ seen. over (after_read g k dev (decoded g (cells_of seen))) refl refl refl refl)),
        )
    route (Some part) (RawRead dev page) fits =
        inr (
          refl,
          tested (has_page g part page) OutOfRange (λ u. Then (ReadEvent (chip_page g part page)) (λ seen. answer k (raw_reply (cells_of seen)))) (λ e.
              event (ReadEvent (chip_page g part page)) (λ seen. answer k (raw_reply (cells_of seen))) tt (λ seen. replied (raw_reply (cells_of seen)))),
        )
    route (Some part) (Write dev page body free) fits =
        inr (
          refl,
          tested (has_page g part page) OutOfRange (λ u. only_if (is_good_block k (chip_block part (page / g.pages_per_block))) k BadBlock (λ u.
              Then (ProgramEvent (chip_page g part page) (page_image g body free)) (λ outcome. answer k (done_or ProgramFailed outcome)))) (λ e.
              tested (is_good_block k (chip_block part (page / g.pages_per_block))) BadBlock (λ u. Then (ProgramEvent (chip_page g part page) (page_image g body free)) (λ outcome. answer k (done_or ProgramFailed outcome))) (λ z.
              event (ProgramEvent (chip_page g part page) (page_image g body free)) (λ outcome. answer k (done_or ProgramFailed outcome))
              (program-ok part.start page (page_image g body free) (eqb-true _ 0 z) (image-marked g body free fits)) (λ outcome. replied (done_or ProgramFailed outcome)))),
        )
    route (Some part) (RawWrite dev page image) fits =
        inr (
          refl,
          tested (has_page g part page) OutOfRange (λ u. only_if (is_good_block k (chip_block part (page / g.pages_per_block))) k BadBlock (λ u. only_if (slice_index image g.page == 0xff) k MarkerByte (λ u.
              Then (ProgramEvent (chip_page g part page) image) (λ outcome. answer k (done_or ProgramFailed outcome))))) (λ e.
              tested (is_good_block k (chip_block part (page / g.pages_per_block))) BadBlock (λ u. only_if (slice_index image g.page == 0xff) k MarkerByte (λ u.
              Then (ProgramEvent (chip_page g part page) image) (λ outcome. answer k (done_or ProgramFailed outcome)))) (λ z.
              tested (slice_index image g.page == 0xff) MarkerByte (λ u. Then (ProgramEvent (chip_page g part page) image) (λ outcome. answer k (done_or ProgramFailed outcome))) (λ i.
              event (ProgramEvent (chip_page g part page) image) (λ outcome. answer k (done_or ProgramFailed outcome))
              (program-ok part.start page image (eqb-true _ 0 z) (eqb-true _ 0xff i)) (λ outcome. replied (done_or ProgramFailed outcome))))),
        )
    route (Some part) (Erase dev block) fits =
        inr (
          refl,
          tested (has_block part block) OutOfRange (λ u. only_if (is_good_block k (chip_block part block)) k BadBlock (λ u.
              Then (EraseEvent (chip_block part block)) (λ outcome. answer k (done_or EraseFailed outcome)))) (λ e.
              tested (is_good_block k (chip_block part block)) BadBlock (λ u. Then (EraseEvent (chip_block part block)) (λ outcome. answer k (done_or EraseFailed outcome))) (λ z.
              event (EraseEvent (chip_block part block)) (λ outcome. answer k (done_or EraseFailed outcome))
              (entry-out (chip_block part block) (eqb-true _ 0 z), λ small. entry-good (chip_block part block) small (eqb-true _ 0 z)) (λ outcome. replied (done_or EraseFailed outcome)))),
        )
    route (Some part) (IsBad dev block) fits =
        inr (refl, tested (has_block part block) OutOfRange (λ u. answer k (State (entry_of k (chip_block part block)))) (λ e. replied (State (entry_of k (chip_block part block)))))
    route (Some part) (Mark dev block) fits = mark-route part dev block (has_block part block) refl
    route (Some part) (Stats dev) fits = inr (refl, replied (Counts (k.statistics dev).corrected (k.statistics dev).failed (bad_count k.table part)))

  -- the law of a chip that is alive at each moment
  abbrev pub plain_alive : Safety W Finished
  plain_alive = plain_law (λ path t. LivesBefore model g c enough F factory p q in_p in_q apart A B (first_event path) t) (Lives model g c enough F factory p q in_p in_q apart A B)

  -- an operation on a partition that is no mark of one of its blocks keeps the chip alive
  abbrev pub AliveRoute : Option Part → Op → Type 0
  AliveRoute part op =
      ((b : ℕ) × (block_of part op ≡ Some b) × (operation_by g k part op ≡ mark_block g k b)) ⊎ ((block_of part op ≡ None) × ((t : ChipState W) → Here t → Safe plain_alive (operation_by g k part op) t))

  pub route-alive : (part : Option Part) (op : Op) → WritesAPage g op → AliveRoute part op
  route-alive part op fits =
      route (λ path t. LivesBefore model g c enough F factory p q in_p in_q apart A B (first_event path) t) (Lives model g c enough F factory p q in_p in_q apart A B)
      (λ path out t h. record { holds = r.holds; holding = h; rests = r.rests; aside = λ b e. inl (rests-inside g c (Shows g F A B) ((b : ℕ) → A b → ⊥) r.holds r.rests b (out b e)) })
      (λ t h. alive-still g c (Shows g F A B) ((b : ℕ) → A b → ⊥) r.holds t h r.rests) part op fits
