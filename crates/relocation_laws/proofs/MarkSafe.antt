-- A marking on a chip is safe: the erase and the marker of the data block leave the tables alone,
-- and then the copies are written.
use Rattle.std.proofs.Common.{◌≡◌, ◌≢◌, ◌⊎◌, ◌≤◌, ℕ, ◌/◌, Bool, true, false, ◌==◌, List, refl, sym, ◌∙◌, Option, Some, None, inl, inr, subst, slice_index, if◌then◌else◌}
use Rattle.std.proofs.lemmas.Bool.Decides.{eqb_tells}
use Rattle.std.proofs.lemmas.Option.{same_Some}
use Rattle.nand_model.specs.Sizes.{first_page}
use Rattle.nand_model.specs.Chip.{PageState, ChipState, FaultModel, ProgramCall, EraseCall, ChipEvent, Complete, PowerCut, DoneBits, PageEvent, EraseEvent, ProgramEvent, happens, failure_of, counted, erase_block, program_page, with_page, blank_page, torn_erase, good_program, torn_program}
use Rattle.nand_model.specs.Table.{table_blocks, has_tables}
use Rattle.chip_paths.specs.Operation.{Known, Finished, with_mark, after_marker_alone, write_tables, mark_path}
use Rattle.chip_paths.specs.Writing.{marked, next_version}
use Rattle.nand_model.specs.Page.{marker_image}
use Rattle.nand_model.specs.Path.{Answer, Path, Then, answer_to, either, first_event}
use Rattle.nand_model.specs.declared.geometry.Geometry.{Geometry}
use Rattle.relocation_laws.specs.Shelves.{Shelf, IsEmpty, TableLaws, Newest, HoldsBoth}
use Rattle.page_laws.specs.Keeping.{IsIn, IsFairEvent}
use Rattle.relocation_laws.specs.Tables.{IsTable, IsTableBlock, Shows}
use Rattle.relocation_laws.specs.Keeping.{BlockFails, pages_after}
use Rattle.relocation_laws.proofs.Tables.{table-laws}
use Rattle.relocation_laws.proofs.Starting.{both-rest}
use Rattle.relocation_laws.proofs.Marking.{IsMarked, marking-goes}
use Rattle.relocation_laws.proofs.MarkerTables.{AreFactoryBad}
use Rattle.page_laws.proofs.Pages.{with_block-other, first_page-same, block_of_first}
use Rattle.relocation_laws.proofs.Safety.{Safety, turned, Safe}
use Rattle.relocation_laws.proofs.Goes.{Setting, AtRest, Holding, Alive, Comes, holding-turned, along-alive, alive-outside, alive-still, goes-safe}

module _ {W A : Type 0} (model : FaultModel W) (g : Geometry) (c : Setting g) (Good_ : List ℕ → Type 0) (Fresh : Type 0) (granted : ChipState W → ChipEvent → Type 0)
    (moment : Path A → ChipState W → Type 0) (ended : ChipState W → Type 0) (result : A → ChipState W → Type 0) where
  abbrev outside_law : Safety W A
  outside_law = record { model = model; granted = granted; moment = moment; ended = ended; result = result }

  -- an event that leaves the first pages of the last four blocks alone, while something is held
  pub record IsOutside (e : PageEvent) : Type 0 where
    pub same : (pages : ℕ → PageState) (o : Option DoneBits) (b : ℕ) → IsIn (table_blocks g) b → pages_after g pages e o (first_page g b) ≡ pages (first_page g b)
    pub cut_pages : (s : ChipState W) (done : DoneBits) → (happens model s (PowerCut e done)).pages ≡ pages_after s.geometry s.pages e (Some done)
    pub cut_geometry : (s : ChipState W) (done : DoneBits) → (happens model s (PowerCut e done)).geometry ≡ s.geometry
    pub pages : (s : ChipState W) → (o : Option DoneBits) × ((happens model s (Complete e)).pages ≡ pages_after s.geometry s.pages e o)
    pub geometry : (s : ChipState W) → (happens model s (Complete e)).geometry ≡ s.geometry

  held-on : (holds : Shelf) → (IsEmpty holds → ⊥) → (s t : ChipState W) (e : PageEvent) (o : Option DoneBits) → ((pages : ℕ → PageState) (o : Option DoneBits) (b : ℕ) → IsIn (table_blocks g) b → pages_after g pages e o (first_page g b) ≡ pages (first_page g b))
      → t.geometry ≡ s.geometry → t.pages ≡ pages_after s.geometry s.pages e o → Holding g c Good_ Fresh holds None s → Holding g c Good_ Fresh holds None t
  held-on holds some s t e o same geometry pages h =
      record {
        geometry = geometry ∙ h.geometry;
        stands = record {
          tables = λ b i. rw (pages, h.geometry, same s.pages o b i) (h.stands.tables b i);
          markers = λ empty. absurd (some empty);
        };
        is_fresh = λ b e. absurd (cc);
      }

  pub outside-safe : (holds : Shelf) → (IsEmpty holds → ⊥) → (e : PageEvent) → IsOutside e → (rest : Answer → Path A) (s : ChipState W)
      → ((t : ChipState W) → Holding g c Good_ Fresh holds None t → moment (Then e rest) t) → ((t : ChipState W) → Holding g c Good_ Fresh holds None t → ended t) → Holding g c Good_ Fresh holds None s
      → ((answer : Answer) (t : ChipState W) → Holding g c Good_ Fresh holds None t → Safe outside_law (rest answer) t) → Safe outside_law (Then e rest) s
  outside-safe holds some e out rest s before after_cut h later = λ flips.
      let t = turned model s flips in
      let now = holding-turned g c Good_ Fresh model holds None s flips h in (
        before t now,
        λ done grant. after_cut (happens model t (PowerCut e done)) (held-on holds some t (happens model t (PowerCut e done)) e (Some done) out.same (out.cut_geometry t done) (out.cut_pages t done) now),
        λ grant. later (answer_to model t e) (happens model t (Complete e)) (held-on holds some t (happens model t (Complete e)) e (out.pages t).0 out.same (out.geometry t) (out.pages t).1 now),
      )

  pub erased_pages : (s : ChipState W) (block : ℕ) (f : Option DoneBits) → (counted model f (erase_block model s block f)).pages ≡ pages_after s.geometry s.pages (EraseEvent block) f
  erased_pages s block None = refl
  erased_pages s block (Some done) = refl

  pub erased_geometry : (s : ChipState W) (block : ℕ) (f : Option DoneBits) → (counted model f (erase_block model s block f)).geometry ≡ s.geometry
  erased_geometry s block None = refl
  erased_geometry s block (Some done) = refl

  pub programmed_pages : (s : ChipState W) (page : ℕ) (image : List ℕ) (f : Option DoneBits) → (counted model f (program_page model s page image f)).pages ≡ pages_after s.geometry s.pages (ProgramEvent page image) f
  programmed_pages s page image None = refl
  programmed_pages s page image (Some done) = refl

  pub programmed_geometry : (s : ChipState W) (page : ℕ) (image : List ℕ) (f : Option DoneBits) → (counted model f (program_page model s page image f)).geometry ≡ s.geometry
  programmed_geometry s page image None = refl
  programmed_geometry s page image (Some done) = refl

  pub erase-outside : (block : ℕ) → (IsIn (table_blocks g) block → ⊥) → IsOutside (EraseEvent block)
  erase-outside block out =
      record {
        same = same;
        cut_pages = λ s done. refl;
        cut_geometry = λ s done. refl;
        pages = λ s. (failure_of model s (EraseCall block), erased_pages s block (failure_of model s (EraseCall block)));
        geometry = λ s. erased_geometry s block (failure_of model s (EraseCall block));
      }
    where
      same : (pages : ℕ → PageState) (o : Option DoneBits) (b : ℕ) → IsIn (table_blocks g) b → pages_after g pages (EraseEvent block) o (first_page g b) ≡ pages (first_page g b)
      same pages None b i = with_block-other g pages block b (λ q old. blank_page g) c.laws.sized (λ e. out (subst (IsIn (table_blocks g)) e i))
      same pages (Some done) b i = with_block-other g pages block b (torn_erase done) c.laws.sized (λ e. out (subst (IsIn (table_blocks g)) e i))

  page-apart : (pages : ℕ → PageState) (page q : ℕ) (new : PageState) → q ≢ page → with_page pages page new q ≡ pages q
  page-apart pages page q new n = on (eqb_tells q page)
    where
      on : ((q == page) ≡ true) × (q ≡ page) ⊎ (((q == page) ≡ false) × (q ≢ page)) → with_page pages page new q ≡ pages q
      on (inl t) = absurd (n t.1)
      on (inr t) = rw t.0 refl

  pub program-outside : (page : ℕ) (image : List ℕ) → ((b : ℕ) → IsIn (table_blocks g) b → first_page g b ≢ page) → IsOutside (ProgramEvent page image)
  program-outside page image out =
      record {
        same = same;
        cut_pages = λ s done. refl;
        cut_geometry = λ s done. refl;
        pages = λ s. (failure_of model s (ProgramCall page), programmed_pages s page image (failure_of model s (ProgramCall page)));
        geometry = λ s. programmed_geometry s page image (failure_of model s (ProgramCall page));
      }
    where
      same : (pages : ℕ → PageState) (o : Option DoneBits) (b : ℕ) → IsIn (table_blocks g) b → pages_after g pages (ProgramEvent page image) o (first_page g b) ≡ pages (first_page g b)
      same pages None b i = page-apart pages page (first_page g b) (good_program (pages page) image) (out b i)
      same pages (Some done) b i = page-apart pages page (first_page g b) (torn_program (pages page) image done) (out b i)

module _ {W : Type 0} (model : FaultModel W) (g : Geometry) (c : Setting g) (enough : 4 ≤ g.blocks) (F : ℕ → Type 0) (factory : AreFactoryBad g c.is_good F)
    (A B Fails : ℕ → Type 0) (begun : (b : ℕ) → Fails b → B b) (Fresh : Type 0) (block : ℕ) (out : IsIn (table_blocks g) block → ⊥) (marked_now : B block) where
  abbrev Good_ : List ℕ → Type 0
  Good_ = Shows g F A B

  -- each torn event of a mark is fair, and the table blocks that fail are known to
  abbrev pub MarkGrant : ChipState W → ChipEvent → Type 0
  MarkGrant s e = IsFairEvent model s e × BlockFails model Fails g s e

  pub laws : TableLaws g (IsTableBlock g c.is_good) Fails (IsTable g) Good_
  laws = table-laws g enough c.is_good F A B Fails factory.good begun

  abbrev Marked_ : Finished → Shelf → Type 0
  Marked_ = IsMarked g enough c.is_good F A B Fails Fresh block out marked_now laws

  abbrev Moment : Path Finished → ChipState W → Type 0
  Moment path s = Alive g c Good_ Fresh (first_event path) s

  abbrev Ended : ChipState W → Type 0
  Ended s = Alive g c Good_ Fresh None s

  abbrev pub mark_law : Safety W Finished
  mark_law = record { model = model; granted = MarkGrant; moment = Moment; ended = Ended; result = Comes g c Good_ Fresh Marked_ }

  -- a mark of a data block on a chip whose two copies hold the table in memory
  pub mark-safe : (k : Known) (holds : Shelf) (s : ChipState W) → slice_index k.table block ≡ 0 → HoldsBoth (IsTableBlock g c.is_good) (IsTable g) Good_ Fresh k.table k.version k.places holds
      → Holding g c Good_ Fresh holds None s → Safe mark_law (mark_path g k block) s
  mark-safe k holds s zero_ both h =
      outside-safe model g c Good_ Fresh MarkGrant Moment Ended (Comes g c Good_ Fresh Marked_) holds some (EraseEvent block) (erase-outside model g c Good_ Fresh MarkGrant Moment Ended (Comes g c Good_ Fresh Marked_) block out)
      (λ erased. Then (ProgramEvent (first_page g block) (marker_image g)) (λ marker. either (has_tables g) (λ x. write_tables g (with_mark g k block) marker) (λ x. after_marker_alone g k block marker))) s
      (λ t i. alive-outside g c Good_ Fresh holds (EraseEvent block) t i rests (λ b e. subst (λ x. IsIn (table_blocks g) x → ⊥) (same_Some block b e) out))
      (λ t i. alive-still g c Good_ Fresh holds t i rests) h (λ erased t i.
      outside-safe model g c Good_ Fresh MarkGrant Moment Ended (Comes g c Good_ Fresh Marked_) holds some (ProgramEvent (first_page g block) (marker_image g))
      (program-outside model g c Good_ Fresh MarkGrant Moment Ended (Comes g c Good_ Fresh Marked_) (first_page g block) (marker_image g) (λ b inside e. out (subst (IsIn (table_blocks g)) (first_page-same g b block c.laws.sized e) inside)))
      (λ marker. either (has_tables g) (λ x. write_tables g (with_mark g k block) marker) (λ x. after_marker_alone g k block marker)) t
      (λ u j. alive-outside g c Good_ Fresh holds (ProgramEvent (first_page g block) (marker_image g)) u j rests
      (λ b e. subst (λ x. IsIn (table_blocks g) x → ⊥) (sym (block_of_first g block c.laws.sized) ∙ same_Some (first_page g block / g.pages_per_block) b e) out))
      (λ u j. alive-still g c Good_ Fresh holds u j rests) i (λ marker u j.
      subst (λ t. Safe mark_law (either t (λ x. write_tables g (with_mark_by t) marker) (λ x. after_marker_alone g k block marker)) u) (sym c.tables)
      (goes-safe model g c Fails Good_ Fresh MarkGrant (λ s e grant. grant) Marked_ (λ a y e. e.rests) Moment
      (λ path fresh holds s h goes. along-alive g c Fails Good_ Fresh Marked_ (λ a y e. e.rests) path fresh holds s h goes) Ended (λ holds s h rests. alive-still g c Good_ Fresh holds s h rests)
      (write_tables g (record k { table = marked k.table block; version = next_version k.version }) marker) None holds u j
      (marking-goes g enough c.is_good F A B Fails Fresh block out marked_now laws k marker holds zero_ both))))
    where
      with_mark_by : Bool → Known
      with_mark_by t = record k { table = marked k.table block; version = if t then next_version k.version else k.version }

      newest : Newest (IsTableBlock g c.is_good) (IsTable g) Good_ holds
      newest = both-rest (IsTableBlock g c.is_good) (IsTable g) Good_ Fresh k.table k.version k.places holds both

      rests : AtRest g c Good_ Fresh holds
      rests = inr newest

      some : IsEmpty holds → ⊥
      some empty = absurd (cc (newest.at, empty newest.place))
