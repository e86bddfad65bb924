-- An attach of a chip with tables is safe, and comes to a table that shows what it should.
use Rattle.std.proofs.Common.{◌≡◌, ◌≢◌, ◌≤◌, ℕ, false, List, [], map, filter, refl, sym, ◌∙◌, Option, Some, None, inl, inr, subst}
use Rattle.std.proofs.lemmas.Bool.{false≢true}
use Rattle.nand_model.specs.Sizes.{numbers_from}
use Rattle.nand_model.specs.Chip.{ChipState, FaultModel, ChipEvent}
use Rattle.nand_model.specs.Table.{Copy, table_blocks}
use Rattle.chip_paths.specs.Attach.{Attaching, marker_table, use_found, rewrite_copies, attach_by, attach_path}
use Rattle.chip_paths.specs.Copies.{candidates, copies_held, found_among, is_valid, places_for}
use Rattle.nand_model.specs.Path.{Path, first_event}
use Rattle.nand_model.specs.declared.geometry.Geometry.{Geometry}
use Rattle.nand_model.specs.declared.words.Which.{Which}
use Rattle.nand_model.specs.declared.words.Which.TheVariants.{Primary, Mirror}
use Rattle.nand_model.specs.declared.words.Choice.TheVariants.{Neither}
use Rattle.relocation_laws.specs.Shelves.{Held, Shelf, TableLaws}
use Rattle.relocation_laws.specs.Tables.{IsTable, IsTableBlock, Shows}
use Rattle.page_laws.specs.Keeping.{IsFairEvent, IsQuietEvent}
use Rattle.relocation_laws.specs.Keeping.{BlockFails}
use Rattle.relocation_laws.proofs.Tables.{table-laws, table-block-there}
use Rattle.relocation_laws.specs.Agreement.{listed}
use Rattle.relocation_laws.proofs.Finding.{found-none, listed-seen, blocks-seen}
use Rattle.relocation_laws.proofs.Attaching.{IsAttached, found-goes, empty-goes}
use Rattle.relocation_laws.proofs.Safety.{Safety, Safe}
use Rattle.relocation_laws.proofs.Goes.{Setting, AtRest, Holding, Alive, Comes, Along, along-alive, none-aside, goes-safe}
use Rattle.relocation_laws.proofs.Reading.{Still, scan-safe, markers-safe}
use Rattle.relocation_laws.proofs.MarkerTables.{AreFactoryBad, markers-fine}

module _ {W : Type 0} (model : FaultModel W) (g : Geometry) (c : Setting g) (enough : 4 ≤ g.blocks) (F : ℕ → Type 0) (factory : AreFactoryBad g c.is_good F)
    (p q : ℕ) (in_p : IsTableBlock g c.is_good p) (in_q : IsTableBlock g c.is_good q) (apart : p ≢ q)
    (A B Fails : ℕ → Type 0) (begun : (b : ℕ) → Fails b → B b) where
  abbrev Good_ : List ℕ → Type 0
  Good_ = Shows g F A B

  -- nothing was acknowledged yet
  abbrev Fresh : Type 0
  Fresh = (b : ℕ) → A b → ⊥

  -- each torn event of an attach is fair, each event finds the chip quiet, and the blocks that fail
  -- are known to
  abbrev pub AttachGrant : ChipState W → ChipEvent → Type 0
  AttachGrant s e = IsFairEvent model s e × IsQuietEvent s e × BlockFails model Fails g s e

  abbrev pub Attached_ : Attaching → Shelf → Type 0
  Attached_ = IsAttached g (IsTableBlock g c.is_good) Good_ Fresh

  laws : TableLaws g (IsTableBlock g c.is_good) Fails (IsTable g) Good_
  laws = table-laws g enough c.is_good F A B Fails factory.good begun

  abbrev pub AttachAlong : Option ℕ → Shelf → Path Attaching → Type 0
  AttachAlong = Along g c Fails Good_ Fresh Attached_ (λ a h e. e.rests)

  good-ones : (holds : Shelf) → AtRest g c Good_ Fresh holds → (b : ℕ) → c.is_good b ≡ false → holds b ≡ None
  good-ones holds (inl e) b h = e.0 b
  good-ones holds (inr j) b h = on (holds b) refl
    where
      on : (o : Option Held) → holds b ≡ o → holds b ≡ None
      on None e = e
      on (Some k) e = absurd (false≢true (sym h ∙ (j.beneath b k e).inside.1))

  abbrev pub Rest_ : Shelf → ChipState W → Type 0
  Rest_ holds s = Holding g c Good_ Fresh holds None s

  abbrev pub attach_law : (Path Attaching → ChipState W → Type 0) → (ChipState W → Type 0) → Safety W Attaching
  attach_law moment ended = record { model = model; granted = AttachGrant; moment = moment; ended = ended; result = Comes g c Good_ Fresh Attached_ }

  module _ (moment : Path Attaching → ChipState W → Type 0) (at_moment : (path : Path Attaching) (fresh : Option ℕ) (holds : Shelf) (s : ChipState W) → Holding g c Good_ Fresh holds fresh s → AttachAlong fresh holds path → moment path s)
      (ended : ChipState W → Type 0) (at_end : (holds : Shelf) (s : ChipState W) → Holding g c Good_ Fresh holds None s → AtRest g c Good_ Fresh holds → ended s) where
    abbrev pub Still_ : Shelf → Type 0
    Still_ = Still model g c enough Good_ Fresh AttachGrant moment ended (Comes g c Good_ Fresh Attached_) (λ s e grant. grant.1)

    -- once the table blocks are read
    chosen-safe : (holds : Shelf) (s : ChipState W) → Rest_ holds s → AtRest g c Good_ Fresh holds → Still_ holds
        → Safe (attach_law moment ended) (use_found g (places_for g (filter c.is_good (table_blocks g)) (found_among (listed holds (table_blocks g)) Primary) (found_among (listed holds (table_blocks g)) Mirror))
        (found_among (listed holds (table_blocks g)) Primary) (found_among (listed holds (table_blocks g)) Mirror)) s
    chosen-safe holds s h (inr j) still =
        goes-safe model g c Fails Good_ Fresh AttachGrant (λ s e grant. (grant.0, grant.2)) Attached_ (λ a y e. e.rests) moment at_moment ended at_end _ None holds s h (found-goes g c.is_good Fails Good_ Fresh laws holds j)
    chosen-safe holds s h (inl e) still =
        subst (λ o. Safe (attach_law moment ended) (use_found g (places_for g (filter c.is_good (table_blocks g)) o (found_among held Mirror)) o (found_among held Mirror)) s) (sym (none Primary))
        (subst (λ o. Safe (attach_law moment ended) (use_found g (places_for g (filter c.is_good (table_blocks g)) None o) None o) s) (sym (none Mirror))
        (markers-safe model g c enough Good_ Fresh AttachGrant moment ended (Comes g c Good_ Fresh Attached_) (λ s e grant. grant.1) holds still e.0 (numbers_from 0 g.blocks) [] []
        (λ pages. rewrite_copies g (places_for g (filter c.is_good (table_blocks g)) None None) Neither 1 (marker_table g pages)) s refl tt h
        (λ t pages seen i.
        let m = markers-fine g enough c.is_good F A B factory e.1 pages seen in
        goes-safe model g c Fails Good_ Fresh AttachGrant (λ s e grant. (grant.0, grant.2)) Attached_ (λ a y e. e.rests) moment at_moment ended at_end
        (rewrite_copies g (places_for g (filter c.is_good (table_blocks g)) None None) Neither 1 (marker_table g pages)) None holds t i
        (empty-goes g c.is_good Fails Good_ Fresh laws holds e.0 e.1 (marker_table g pages) m.form m.shows (λ b inside. m.free b (table-block-there g enough b inside.0) inside.1) p q in_p in_q apart))))
      where
        held : List (ℕ × Copy)
        held = listed holds (table_blocks g)

        none : (k : Which) → found_among held k ≡ None
        none k = found-none holds (is_valid held k) (table_blocks g) (λ b d at. absurd (cc (at, e.0 b)))

    -- an attach of a chip that stands is safe
    pub attach-safe : (s : ChipState W) (a : Alive g c Good_ Fresh None s) → Still_ a.holds → Safe (attach_law moment ended) (attach_path g) s
    attach-safe s a still =
        subst (λ t. Safe (attach_law moment ended) (attach_by t g) s) (sym c.tables)
        (scan-safe model g c enough Good_ Fresh AttachGrant moment ended (Comes g c Good_ Fresh Attached_) (λ s e grant. grant.1) a.holds still (table_blocks g) [] []
        (λ pages. path (candidates g pages)) s refl tt a.holding
        (λ t pages seen i. subst (λ l. Safe (attach_law moment ended) (path_of l (map (λ (k : ℕ × List ℕ). k.0) (candidates g pages))) t) (sym (listed-seen g c.is_good a.holds (good-ones a.holds a.rests) (table_blocks g) pages seen))
        (subst (λ bs. Safe (attach_law moment ended) (path_of (listed a.holds (table_blocks g)) bs) t) (sym (blocks-seen g c.is_good a.holds (good-ones a.holds a.rests) (table_blocks g) pages seen)) (chosen-safe a.holds t i a.rests still))))
      where
        path_of : List (ℕ × Copy) → List ℕ → Path Attaching
        path_of held blocks = use_found g (places_for g blocks (found_among held Primary) (found_among held Mirror)) (found_among held Primary) (found_among held Mirror)

        path : List (ℕ × List ℕ) → Path Attaching
        path cs = path_of (copies_held g cs) (map (λ (k : ℕ × List ℕ). k.0) cs)

  -- the law of an attach of which nothing more is asked than that the chip is alive
  abbrev pub alive_law : Safety W Attaching
  alive_law = attach_law (λ path s. Alive g c Good_ Fresh (first_event path) s) (λ s. Alive g c Good_ Fresh None s)

  still-alive : (holds : Shelf) → AtRest g c Good_ Fresh holds
      → Still model g c enough Good_ Fresh AttachGrant (λ path s. Alive g c Good_ Fresh (first_event path) s) (λ s. Alive g c Good_ Fresh None s) (Comes g c Good_ Fresh Attached_) (λ s e grant. grant.1) holds
  still-alive holds rests = record {
    before = λ page rest t h. record { holds = holds; holding = h; rests = rests; aside = none-aside g holds };
    after_cut = λ t h. record { holds = holds; holding = h; rests = rests; aside = none-aside g holds };
  }

  -- an attach of a chip that stands keeps it alive
  pub attach-alive : (s : ChipState W) → Alive g c Good_ Fresh None s → Safe alive_law (attach_path g) s
  attach-alive s a =
      attach-safe (λ path s. Alive g c Good_ Fresh (first_event path) s)
      (λ path fresh holds s h goes. along-alive g c Fails Good_ Fresh Attached_ (λ a h e. e.rests) path fresh holds s h goes) (λ s. Alive g c Good_ Fresh None s)
      (λ holds s h rests. record { holds = holds; holding = h; rests = rests; aside = none-aside g holds }) s a (still-alive a.holds a.rests)
