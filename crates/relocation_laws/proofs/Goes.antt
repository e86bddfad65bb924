-- A path that goes along from shelf to shelf is safe on a chip whose pages hold the first one.
use Rattle.std.proofs.Common.{◌≡◌, ◌≢◌, ◌⊎◌, ℕ, ◌/◌, Bool, true, List, refl, ap, sym, ◌∙◌, Option, Some, None, inl, inr, subst}
use Rattle.std.proofs.lemmas.Option.{none-some, same_Some}
use Rattle.nand_model.specs.Sizes.{first_page}
use Rattle.nand_model.specs.Chip.{PageState, ChipState, FaultModel, ProgramCall, EraseCall, ChipEvent, Complete, PowerCut, Flipped, DoneBits, PageEvent, ReadEvent, EraseEvent, ProgramEvent, happens, failure_of, counted, erase_block, program_page}
use Rattle.nand_model.specs.Table.{has_tables, table_blocks}
use Rattle.nand_model.specs.Path.{Answer, Good, Failed, Path, Over, Then, answer_to, first_event, good_or_failed, is_failure}
use Rattle.nand_model.specs.Quiet.{fairness_of}
use Rattle.nand_model.specs.declared.geometry.Geometry.{Geometry}
use Rattle.nand_model.specs.declared.words.Fairness.TheVariants.{Foul}
use Rattle.relocation_laws.specs.Shelves.{Held, Shelf, with_held, IsAside, Rests}
use Rattle.relocation_laws.specs.Goes.{Writes, Goes}
use Rattle.page_laws.specs.Keeping.{IsIn, IsImage, PageLaws, IsFairEvent}
use Rattle.relocation_laws.specs.Tables.{IsTable, IsTableBlock}
use Rattle.relocation_laws.specs.Keeping.{BlockFails, pages_after}
use Rattle.run_model.specs.Run.{block_changed}
use Rattle.page_laws.proofs.Pages.{block_of_first}
use Rattle.relocation_laws.specs.Agreement.{copy_as}
use Rattle.relocation_laws.proofs.Safety.{Safety, turned, closed-turned, Safe}
use Rattle.relocation_laws.proofs.Standing.{Stands, IsFreshAt, stands-flipped, fresh-flipped, stands-erased, fresh-erased, stands-torn-erased, stands-programmed, stands-torn-programmed}

-- what stays of a chip with tables
pub record Setting (g : Geometry) : Type 0 where
  pub is_good : ℕ → Bool
  pub laws : PageLaws g
  pub tables : has_tables g ≡ true

abbrev pub AtRest : (g : Geometry) → Setting g → (List ℕ → Type 0) → Type 0 → Shelf → Type 0
AtRest g c Good_ Fresh = Rests (IsTableBlock g c.is_good) (IsTable g) Good_ Fresh

no-fresh : (g : Geometry) (pages : ℕ → PageState) → IsFreshAt g None pages
no-fresh g pages b e = absurd (cc)

-- what is at rest stands in table blocks
pub rests-inside : (g : Geometry) (c : Setting g) (Good_ : List ℕ → Type 0) (Fresh : Type 0) (holds : Shelf) → AtRest g c Good_ Fresh holds → (b : ℕ) → (IsIn (table_blocks g) b → ⊥) → holds b ≡ None
rests-inside g c Good_ Fresh holds (inl e) b out = e.0 b
rests-inside g c Good_ Fresh holds (inr j) b out = on (holds b) refl
  where
    on : (o : Option Held) → holds b ≡ o → holds b ≡ None
    on None e = e
    on (Some k) e = absurd (out (j.beneath b k e).inside.0)

-- while the next event changes its block, another one holds a copy and is called bad by none, or
-- there is nothing in this block
abbrev pub StandsAside : Geometry → Option PageEvent → Shelf → Type 0
StandsAside g next holds = (b : ℕ) → block_changed g next ≡ Some b → IsAside holds b

pub none-aside : (g : Geometry) (holds : Shelf) → StandsAside g None holds
none-aside g holds b e = absurd (none-some b e)

module _ {W : Type 0} (g : Geometry) (c : Setting g) (Good_ : List ℕ → Type 0) (Fresh : Type 0) where
  -- the chip's pages hold a shelf
  pub record Holding (holds : Shelf) (fresh : Option ℕ) (s : ChipState W) : Type 0 where
    pub geometry : s.geometry ≡ g
    pub stands : Stands g c.is_good holds s.pages
    pub is_fresh : IsFreshAt g fresh s.pages

  -- the chip's pages hold a shelf at which it may rest, and another block holds a copy that is
  -- found while the next event changes its block
  pub record Alive (next : Option PageEvent) (s : ChipState W) : Type 0 where
    pub holds : Shelf
    pub holding : Holding holds None s
    pub rests : AtRest g c Good_ Fresh holds
    pub aside : StandsAside g next holds

  -- with no event to come
  pub resting : (next : Option PageEvent) (s : ChipState W) → Alive next s → Alive None s
  resting next s h = record { holds = h.holds; holding = h.holding; rests = h.rests; aside = none-aside g h.holds }

  pub record Comes {A : Type 0} (Ends : A → Shelf → Type 0) (a : A) (s : ChipState W) : Type 0 where
    pub holds : Shelf
    pub holding : Holding holds None s
    pub ends : Ends a holds

  pub holding-flipped : (model : FaultModel W) (holds : Shelf) (fresh : Option ℕ) (s : ChipState W) (page bit : ℕ) → Holding holds fresh s → Holding holds fresh (happens model s (Flipped page bit))
  holding-flipped model holds fresh s page bit h =
      record {
        geometry = h.geometry;
        stands = stands-flipped g c.is_good c.laws c.tables holds s.pages page bit h.stands;
        is_fresh = fresh-flipped g c.is_good c.laws c.tables fresh s.pages page bit h.is_fresh;
      }

  pub holding-turned : (model : FaultModel W) (holds : Shelf) (fresh : Option ℕ) (s : ChipState W) (flips : List (ℕ × ℕ)) → Holding holds fresh s → Holding holds fresh (turned model s flips)
  holding-turned model holds fresh s flips h = closed-turned model (Holding holds fresh) (λ t page bit k. holding-flipped model holds fresh t page bit k) s flips h

  pub settled : (holds : Shelf) (fresh : Option ℕ) (s : ChipState W) → Holding holds fresh s → Holding holds None s
  settled holds fresh s h = record { geometry = h.geometry; stands = h.stands; is_fresh = no-fresh g s.pages }

  -- the chip after an event whose pages are these
  held-after : (s t : ChipState W) (e : PageEvent) (o : Option DoneBits) (holds : Shelf) (fresh : Option ℕ) → s.geometry ≡ g → t.geometry ≡ s.geometry → t.pages ≡ pages_after s.geometry s.pages e o
      → Stands g c.is_good holds (pages_after g s.pages e o) → IsFreshAt g fresh (pages_after g s.pages e o) → Holding holds fresh t
  held-after s t e o holds fresh geo same pages st fr =
      record { geometry = same ∙ geo; stands = subst (Stands g c.is_good holds) (sym are) st; is_fresh = subst (IsFreshAt g fresh) (sym are) fr }
    where
      are : t.pages ≡ pages_after g s.pages e o
      are = pages ∙ ap (λ k. pages_after k s.pages e o) geo

  -- before an event that changes no table block
  pub alive-outside : (holds : Shelf) (next : PageEvent) (s : ChipState W) → Holding holds None s → AtRest g c Good_ Fresh holds → ((b : ℕ) → block_changed g (Some next) ≡ Some b → IsIn (table_blocks g) b → ⊥) → Alive (Some next) s
  alive-outside holds next s h rests out = record { holds = holds; holding = h; rests = rests; aside = λ b e. inl (rests-inside g c Good_ Fresh holds rests b (out b e)) }

  -- with no event to come
  pub alive-still : (holds : Shelf) (s : ChipState W) → Holding holds None s → AtRest g c Good_ Fresh holds → Alive None s
  alive-still holds s h rests = record { holds = holds; holding = h; rests = rests; aside = none-aside g holds }

module _ {A : Type 0} (g : Geometry) (c : Setting g) (Fails : ℕ → Type 0) (Good_ : List ℕ → Type 0) (Fresh : Type 0) (Ends : A → Shelf → Type 0)
    (at_rest : (a : A) (h : Shelf) → Ends a h → AtRest g c Good_ Fresh h) where
  abbrev pub Along : Option ℕ → Shelf → Path A → Type 0
  Along = Goes g (IsTableBlock g c.is_good) Fails (IsTable g) (AtRest g c Good_ Fresh) Ends

  -- a chip that goes along is alive at each moment
  pub along-alive : {W : Type 0} (path : Path A) (fresh : Option ℕ) (holds : Shelf) (s : ChipState W) → Holding g c Good_ Fresh holds fresh s → Along fresh holds path → Alive g c Good_ Fresh (first_event path) s
  along-alive (Over a) fresh holds s h goes = record { holds = holds; holding = settled g c Good_ Fresh holds fresh s h; rests = at_rest a holds goes; aside = none-aside g holds }
  along-alive (Then (ReadEvent page) rest) fresh holds s h goes = absurd goes
  along-alive (Then (EraseEvent b) rest) fresh holds s h goes =
      record { holds = holds; holding = settled g c Good_ Fresh holds fresh s h; rests = goes.1; aside = λ d e. subst (IsAside holds) (same_Some b d e) goes.6 }
  along-alive (Then (ProgramEvent page image) rest) fresh holds s h goes =
      record { holds = holds; holding = settled g c Good_ Fresh holds fresh s h; rests = goes.5; aside = λ d e. inl (subst (λ x. holds x ≡ None) (same goes.0 d goes.2.page_is e) goes.4) }
    where
      same : (b d : ℕ) → page ≡ first_page g b → block_changed g (Some (ProgramEvent page image)) ≡ Some d → b ≡ d
      same b d is e = sym (block_of_first g b c.laws.sized) ∙ ap (λ p. p / g.pages_per_block) (sym is) ∙ same_Some (page / g.pages_per_block) d e

module _ {W A : Type 0} (model : FaultModel W) (g : Geometry) (c : Setting g) (Fails : ℕ → Type 0) (Good_ : List ℕ → Type 0) (Fresh : Type 0)
    (granted : ChipState W → ChipEvent → Type 0) (fair : (s : ChipState W) (e : ChipEvent) → granted s e → IsFairEvent model s e × BlockFails model Fails g s e)
    (Ends : A → Shelf → Type 0) (at_rest : (a : A) (h : Shelf) → Ends a h → AtRest g c Good_ Fresh h)
    (moment : Path A → ChipState W → Type 0) (at_moment : (path : Path A) (fresh : Option ℕ) (holds : Shelf) (s : ChipState W) → Holding g c Good_ Fresh holds fresh s → Along g c Fails Good_ Fresh Ends at_rest fresh holds path → moment path s)
    (ended : ChipState W → Type 0) (at_end : (holds : Shelf) (s : ChipState W) → Holding g c Good_ Fresh holds None s → AtRest g c Good_ Fresh holds → ended s) where
  -- the law of a path on a chip with tables
  abbrev pub law : Safety W A
  law = record { model = model; granted = granted; moment = moment; ended = ended; result = Comes g c Good_ Fresh Ends }

  abbrev Along_ : Option ℕ → Shelf → Path A → Type 0
  Along_ = Along g c Fails Good_ Fresh Ends at_rest

  abbrev Held_ : Shelf → Option ℕ → ChipState W → Type 0
  Held_ = Holding g c Good_ Fresh

  image-of : (page : ℕ) (image : List ℕ) (b : ℕ) (k : Held) → Writes g (IsTableBlock g c.is_good) Fails (IsTable g) (AtRest g c Good_ Fresh) Ends page image b k → IsImage g image (Some (copy_as k))
  image-of page image b k w = subst (λ i. IsImage g i (Some (copy_as k))) (sym w.image_is) (c.laws.image k.which k.version k.table w.byte w.form.long)

  abbrev Step : PageEvent → (Answer → Path A) → ChipState W → Type 0
  Step e rest t =
      moment (Then e rest) t
      × ((done : DoneBits) → granted t (PowerCut e done) → ended (happens model t (PowerCut e done)))
      × (granted t (Complete e) → Safe law (rest (answer_to model t e)) (happens model t (Complete e)))

  abbrev Later : (Answer → Path A) → Type 0
  Later rest = (answer : Answer) (f : Option ℕ) (y : Shelf) (u : ChipState W) → Held_ y f u → Along_ f y (rest answer) → Safe law (rest answer) u

  erase-safe : (b : ℕ) (rest : Answer → Path A) (fresh : Option ℕ) (holds : Shelf) (t : ChipState W) → Held_ holds fresh t → Along_ fresh holds (Then (EraseEvent b) rest) → Later rest → Step (EraseEvent b) rest t
  erase-safe b rest fresh holds t now goes later = (
    at_moment (Then (EraseEvent b) rest) fresh holds t now goes,
    λ done grant. cut done (fair t (PowerCut (EraseEvent b) done) grant).0,
    λ grant. by (failure_of model t (EraseCall b)) (fair t (Complete (EraseEvent b)) grant).0 (fair t (Complete (EraseEvent b)) grant).1,
  )
    where
      blanked : Shelf
      blanked = with_held holds b None

      left : (done : DoneBits) → fairness_of g t.pages (EraseEvent b) (pages_after g t.pages (EraseEvent b) (Some done)) ≢ Foul
          → Stands g c.is_good holds (pages_after g t.pages (EraseEvent b) (Some done)) ⊎ Stands g c.is_good blanked (pages_after g t.pages (EraseEvent b) (Some done))
      left done not_foul = stands-torn-erased g c.is_good c.laws c.tables b goes.0.0 goes.0.1 holds t.pages now.stands done goes.3 not_foul

      whole : Stands g c.is_good blanked (pages_after g t.pages (EraseEvent b) None)
      whole = stands-erased g c.is_good c.laws c.tables b goes.0.0 goes.0.1 holds t.pages now.stands goes.3

      fresh-then : IsFreshAt g (Some b) (pages_after g t.pages (EraseEvent b) None)
      fresh-then = fresh-erased g c.is_good c.laws c.tables b goes.0.0 goes.0.1 holds t.pages now.stands

      cut : (done : DoneBits) → fairness_of t.geometry t.pages (EraseEvent b) (happens model t (PowerCut (EraseEvent b) done)).pages ≢ Foul → ended (happens model t (PowerCut (EraseEvent b) done))
      cut done not_foul = on (left done (rw now.geometry at not_foul))
        where
          u : ChipState W
          u = happens model t (PowerCut (EraseEvent b) done)

          on : Stands g c.is_good holds (pages_after g t.pages (EraseEvent b) (Some done)) ⊎ Stands g c.is_good blanked (pages_after g t.pages (EraseEvent b) (Some done)) → ended u
          on (inl st) = at_end holds u (held-after g c Good_ Fresh t u (EraseEvent b) (Some done) holds None now.geometry refl refl st (no-fresh g (pages_after g t.pages (EraseEvent b) (Some done)))) goes.1
          on (inr st) = at_end blanked u (held-after g c Good_ Fresh t u (EraseEvent b) (Some done) blanked None now.geometry refl refl st (no-fresh g (pages_after g t.pages (EraseEvent b) (Some done)))) goes.2

      by : (f : Option DoneBits) → (is_failure (good_or_failed f) ≡ true → fairness_of t.geometry t.pages (EraseEvent b) (counted model f (erase_block model t b f)).pages ≢ Foul)
          → (is_failure (good_or_failed f) ≡ true → IsIn (table_blocks g) b → Fails b) → Safe law (rest (good_or_failed f)) (counted model f (erase_block model t b f))
      by None not_foul bad =
          later Good (Some b) blanked (counted model None (erase_block model t b None))
          (held-after g c Good_ Fresh t (counted model None (erase_block model t b None)) (EraseEvent b) None blanked (Some b) now.geometry refl refl whole fresh-then) goes.4
      by (Some done) not_foul bad = on (left done (rw now.geometry at (not_foul refl)))
        where
          u : ChipState W
          u = counted model (Some done) (erase_block model t b (Some done))

          on : Stands g c.is_good holds (pages_after g t.pages (EraseEvent b) (Some done)) ⊎ Stands g c.is_good blanked (pages_after g t.pages (EraseEvent b) (Some done)) → Safe law (rest Failed) u
          on (inl st) = later Failed None holds u (held-after g c Good_ Fresh t u (EraseEvent b) (Some done) holds None now.geometry refl refl st (no-fresh g (pages_after g t.pages (EraseEvent b) (Some done)))) (goes.5 (bad refl goes.0.0)).0
          on (inr st) = later Failed None blanked u (held-after g c Good_ Fresh t u (EraseEvent b) (Some done) blanked None now.geometry refl refl st (no-fresh g (pages_after g t.pages (EraseEvent b) (Some done)))) (goes.5 (bad refl goes.0.0)).1

  program-safe : (page : ℕ) (image : List ℕ) (rest : Answer → Path A) (fresh : Option ℕ) (holds : Shelf) (t : ChipState W) → Held_ holds fresh t → (goes : Along_ fresh holds (Then (ProgramEvent page image) rest)) → Later rest
      → page ≡ first_page g goes.0 → Step (ProgramEvent (first_page g goes.0) image) rest t
  program-safe page image rest fresh holds t now goes later at_page = (
    subst (λ p. moment (Then (ProgramEvent p image) rest) t) at_page (at_moment (Then (ProgramEvent page image) rest) fresh holds t now goes),
    λ done grant. cut done (fair t (PowerCut event done) grant).0,
    λ grant. by (failure_of model t (ProgramCall (first_page g b))) (fair t (Complete event) grant).0 (fair t (Complete event) grant).1,
  )
    where
      b : ℕ
      b = goes.0

      k : Held
      k = goes.1

      event : PageEvent
      event = ProgramEvent (first_page g b) image

      written : Shelf
      written = with_held holds b (Some k)

      is_image : IsImage g image (Some (copy_as k))
      is_image = image-of page image b k goes.2

      left : (done : DoneBits) → fairness_of g t.pages event (pages_after g t.pages event (Some done)) ≢ Foul
          → Stands g c.is_good holds (pages_after g t.pages event (Some done)) ⊎ Stands g c.is_good written (pages_after g t.pages event (Some done))
      left done not_foul = stands-torn-programmed g c.is_good c.laws c.tables b goes.2.inside.0 goes.2.inside.1 holds t.pages now.stands image k is_image done goes.4 not_foul

      whole : Stands g c.is_good written (pages_after g t.pages event None)
      whole = stands-programmed g c.is_good c.laws c.tables b goes.2.inside.0 goes.2.inside.1 holds t.pages now.stands image k is_image (now.is_fresh b goes.3)

      cut : (done : DoneBits) → fairness_of t.geometry t.pages event (happens model t (PowerCut event done)).pages ≢ Foul → ended (happens model t (PowerCut event done))
      cut done not_foul = on (left done (rw now.geometry at not_foul))
        where
          u : ChipState W
          u = happens model t (PowerCut event done)

          on : Stands g c.is_good holds (pages_after g t.pages event (Some done)) ⊎ Stands g c.is_good written (pages_after g t.pages event (Some done)) → ended u
          on (inl st) = at_end holds u (held-after g c Good_ Fresh t u event (Some done) holds None now.geometry refl refl st (no-fresh g (pages_after g t.pages event (Some done)))) goes.5
          on (inr st) = at_end written u (held-after g c Good_ Fresh t u event (Some done) written None now.geometry refl refl st (no-fresh g (pages_after g t.pages event (Some done)))) goes.6

      by : (f : Option DoneBits) → (is_failure (good_or_failed f) ≡ true → fairness_of t.geometry t.pages event (counted model f (program_page model t (first_page g b) image f)).pages ≢ Foul)
          → (is_failure (good_or_failed f) ≡ true → (x : ℕ) → first_page g b ≡ first_page g x → IsIn (table_blocks g) x → Fails x) → Safe law (rest (good_or_failed f)) (counted model f (program_page model t (first_page g b) image f))
      by None not_foul bad =
          later Good None written (counted model None (program_page model t (first_page g b) image None))
          (held-after g c Good_ Fresh t (counted model None (program_page model t (first_page g b) image None)) event None written None now.geometry refl refl whole (no-fresh g (pages_after g t.pages event None))) goes.7
      by (Some done) not_foul bad = on (left done (rw now.geometry at (not_foul refl)))
        where
          u : ChipState W
          u = counted model (Some done) (program_page model t (first_page g b) image (Some done))

          on : Stands g c.is_good holds (pages_after g t.pages event (Some done)) ⊎ Stands g c.is_good written (pages_after g t.pages event (Some done)) → Safe law (rest Failed) u
          on (inl st) = later Failed None holds u (held-after g c Good_ Fresh t u event (Some done) holds None now.geometry refl refl st (no-fresh g (pages_after g t.pages event (Some done)))) (goes.8 (bad refl b refl goes.2.inside.0)).0
          on (inr st) = later Failed None written u (held-after g c Good_ Fresh t u event (Some done) written None now.geometry refl refl st (no-fresh g (pages_after g t.pages event (Some done)))) (goes.8 (bad refl b refl goes.2.inside.0)).1

  pub goes-safe : (path : Path A) (fresh : Option ℕ) (holds : Shelf) (s : ChipState W) → Held_ holds fresh s → Along_ fresh holds path → Safe law path s
  goes-safe (Over a) fresh holds s h goes = λ flips. (
    at_moment (Over a) fresh holds (turned model s flips) (holding-turned g c Good_ Fresh model holds fresh s flips h) goes,
    record { holds = holds; holding = settled g c Good_ Fresh holds fresh (turned model s flips) (holding-turned g c Good_ Fresh model holds fresh s flips h); ends = goes },
  )
  goes-safe (Then (ReadEvent page) rest) fresh holds s h goes = absurd goes
  goes-safe (Then (EraseEvent b) rest) fresh holds s h goes = λ flips.
      erase-safe b rest fresh holds (turned model s flips) (holding-turned g c Good_ Fresh model holds fresh s flips h) goes (λ answer f y u. goes-safe (rest answer) f y u)
  goes-safe (Then (ProgramEvent page image) rest) fresh holds s h goes = λ flips.
      subst (λ p. Step (ProgramEvent p image) rest (turned model s flips)) (sym goes.2.page_is)
      (program-safe page image rest fresh holds (turned model s flips) (holding-turned g c Good_ Fresh model holds fresh s flips h) goes (λ answer f y u. goes-safe (rest answer) f y u) goes.2.page_is)
