-- What the first page of a table block keeps through flips and torn events, as long as it is quiet.
use Rattle.std.specs.Prelude.{◌≡◌, ◌≢◌, ◌⊎◌, ℕ, ◌+◌, ◌<◌, Bool, true, ◌==◌, List, [], ◌∷◌, length, Option, Some, None, ⊤, slice_index}
use Rattle.nand_model.specs.Chip.{PageState, ChipState, FaultModel, ChipEvent, Complete, PowerCut, Flipped, blank_page, flipped, good_program, happens}
use Rattle.nand_model.specs.Table.{Copy, copy_in, table_page, read_again}
use Rattle.nand_model.specs.Page.{marker_byte}
use Rattle.nand_model.specs.Path.{answer_to, is_failure}
use Rattle.nand_model.specs.Quiet.{is_quiet, is_quiet_table_page, has_no_flip_in, fairness_of}
use Rattle.nand_model.specs.declared.geometry.Geometry.{Geometry}
use Rattle.nand_model.specs.declared.words.Which.{Which}
use Rattle.nand_model.specs.declared.words.Fairness.TheVariants.{Foul}

-- b is among these numbers
abbrev pub IsIn : List ℕ → ℕ → Type 0
IsIn [] b = ⊥
IsIn (x ∷ xs) b = (b ≡ x) ⊎ IsIn xs b

-- a page after flips of these bits
abbrev pub after_flips : PageState → List ℕ → PageState
after_flips page [] = page
after_flips page (bit ∷ bits) = after_flips (flipped page bit) bits

-- whatever bits flip, as long as the page is quiet it holds this copy, or none
abbrev pub KeepsCopy : Geometry → PageState → Option Copy → Type 0
KeepsCopy g page copy =
    (bits : List ℕ) → is_quiet_table_page g (after_flips page bits) ≡ true → copy_in g (after_flips page bits).cells
    ≡ copy

-- as long as no bit of the marker byte flips, it says whether the block is good
abbrev pub KeepsMarker : Geometry → PageState → Bool → Type 0
KeepsMarker g page is_good =
    (bits : List ℕ) → has_no_flip_in (after_flips page bits) g.page (g.page + 1) ≡ true
    → (marker_byte g (after_flips page bits).cells == 0xff) ≡ is_good

-- the first page of one of the last four blocks keeps its marker and, where that is good, this copy
-- or none: a block whose marker is bad is passed over, whatever it holds
pub record TablePage (g : Geometry) (page : PageState) (is_good : Bool) (copy : Option Copy) : Type 0 where
  pub copies : is_good ≡ true → KeepsCopy g page copy
  pub marker : KeepsMarker g page is_good

-- a page that was erased well, and was only flipped since
pub record IsFresh (g : Geometry) (page : PageState) : Type 0 where
  pub bits : List ℕ
  pub blank : page ≡ after_flips (blank_page g) bits

-- an image holds this copy and a good marker, and a page that was erased well, flipped at will and
-- then programmed with it keeps them
pub record IsImage (g : Geometry) (image : List ℕ) (copy : Option Copy) : Type 0 where
  pub here : copy_in g image ≡ copy
  pub marker : slice_index image g.page ≡ 0xff
  pub written : (bits : List ℕ) → TablePage g (good_program (after_flips (blank_page g) bits) image) true copy

-- The law of table pages: a blank page holds no copy, and the page of a table exactly that table's
-- copy, with reserved entries as good, through flips before and after its program, as long as each
-- step's word has had at most as many as the code corrects and none fell into a header in the
-- spare.
pub record PageLaws (g : Geometry) : Type 0 where
  pub sized : 0 < g.pages_per_block
  pub blank : TablePage g (blank_page g) true None
  pub image : (which : Which) (version : ℕ) (states : List ℕ) → version < 256 → length states ≡ g.blocks
      → IsImage g (table_page g which version states)
      (Some (record { which = which; version = version; states = read_again states }))

-- an event of a trace is fair: where it failed or was cut, what it left is not foul
abbrev pub IsFairEvent : {W : Type 0} → FaultModel W → ChipState W → ChipEvent → Type 0
IsFairEvent model s (Complete e) =
    is_failure (answer_to model s e) ≡ true
    → fairness_of s.geometry s.pages e (happens model s (Complete e)).pages ≢ Foul
IsFairEvent model s (PowerCut e done) =
    fairness_of s.geometry s.pages e (happens model s (PowerCut e done)).pages ≢ Foul
IsFairEvent model s (Flipped page bit) = ⊤

-- an event found the chip quiet; a flip need not
abbrev pub IsQuietEvent : {W : Type 0} → ChipState W → ChipEvent → Type 0
IsQuietEvent s (Complete e) = is_quiet s.geometry s.pages ≡ true
IsQuietEvent s (PowerCut e done) = is_quiet s.geometry s.pages ≡ true
IsQuietEvent s (Flipped page bit) = ⊤

-- each event of a trace is so, in the state that it finds
abbrev pub EachStep : {W : Type 0} → FaultModel W → (ChipState W → ChipEvent → Type 0) → ChipState W → List ChipEvent
    → Type 0
EachStep model P s [] = ⊤
EachStep model P s (e ∷ trace) = P s e × EachStep model P (happens model s e) trace
