-- The copy in a page, by the place of its header.
use Rattle.std.proofs.Common.{◌≡◌, ◌≢◌, ◌+◌, ◌/◌, ℕ, Bool, true, false, List, Option, Some, None, Ok, Err, refl, ap, ap₂, ◌∙◌}
use Rattle.std.specs.Prelude.{◌==◌, ◌&&◌, is_some, is_none, slice_index, slice_range}
use Rattle.std.proofs.lemmas.Bool.{false≢true}
use Rattle.std.proofs.lemmas.Bool.Decides.{eqb_tells}
use Rattle.std.proofs.Common.{inl, inr}
use Rattle.nand_model.specs.Page.{Decoding, decoded, step_read}
use Rattle.nand_model.specs.Table.{copy_if, copy_in, copy_of_kind, copy_under, has_no_pattern, header_at, kind_in, states_in, table_at}
use Rattle.nand_model.specs.declared.geometry.Geometry.{Geometry}
use Rattle.nand_model.specs.declared.words.Which.{Which}
use Rattle.bbt_image.specs.declared.errors.NoCopy.{NoCopy}
use Rattle.bbt_image.specs.declared.errors.NoCopy.TheVariants.{NoPattern, Unreadable}
use Rattle.bbt_image.specs.Taking.{HasNoPattern, IsUnreadable, TellsKind}

pub eqb_same : (a b : ℕ) → a ≡ b → (a == b) ≡ true
eqb_same a b e = elim (eqb_tells a b) [ inl h ↦ h.0 | inr h ↦ absurd (h.1 e) ]

pub eqb_other : (a b : ℕ) → a ≢ b → (a == b) ≡ false
eqb_other a b e = elim (eqb_tells a b) [ inl h ↦ absurd (e h.1) | inr h ↦ h.0 ]

and_false : (x : Bool) → (x && false) ≡ false
and_false true = refl
and_false false = refl

-- a page of which a step failed holds no copy
copy_failed : (g : Geometry) (d : Decoding) (which : Which) → d.failed ≢ 0 → copy_of_kind g d (Some which) ≡ None
copy_failed g d which h = rw (eqb_other d.failed 0 h) refl

in_spare : (g : Geometry) (cells : List ℕ) → g.bbt ≡ 1 → copy_in g cells ≡ copy_under g cells (kind_in g cells)
in_spare g cells e = ap (λ (t : Bool). copy_if t g cells) (eqb_same g.bbt 1 e)

none_in_spare : (g : Geometry) (cells : List ℕ) → g.bbt ≡ 1 → has_no_pattern (g.bbt == 1) g cells ≡ is_none (kind_in g cells)
none_in_spare g cells e = ap (λ (t : Bool). has_no_pattern t g cells) (eqb_same g.bbt 1 e)

in_body : (g : Geometry) (cells : List ℕ) → g.bbt ≢ 1 → copy_in g cells ≡ copy_of_kind g (decoded g cells) (kind_in g (decoded g cells).image)
in_body g cells e = ap (λ (t : Bool). copy_if t g cells) (eqb_other g.bbt 1 e)

none_in_body : (g : Geometry) (cells : List ℕ) → g.bbt ≢ 1
    → has_no_pattern (g.bbt == 1) g cells ≡ (is_some (step_read g cells 0).corrected && is_none (kind_in g (decoded g cells).image))
none_in_body g cells e = ap (λ (t : Bool). has_no_pattern t g cells) (eqb_other g.bbt 1 e)

-- a pattern, and a step that failed
pub spare_failed : (g : Geometry) (cells : List ℕ) (which : Which) → g.bbt ≡ 1 → kind_in g cells ≡ Some which → (decoded g cells).failed ≢ 0
    → IsUnreadable g cells
spare_failed g cells which e kind failed = (none_in_spare g cells e ∙ ap (λ (k : Option Which). is_none k) kind, failed)

-- whether there is no pattern, by the first step and by the header
first_and_kind : (g : Geometry) (cells : List ℕ) (first : Bool) (kind : Option Which) → g.bbt ≢ 1
    → is_some (step_read g cells 0).corrected ≡ first → kind_in g (decoded g cells).image ≡ kind
    → has_no_pattern (g.bbt == 1) g cells ≡ (first && is_none kind)
first_and_kind g cells first kind e ef ek = none_in_body g cells e ∙ ap₂ (λ (t : Bool) (k : Option Which). t && is_none k) ef ek

-- a pattern, and a step that failed
pub body_failed : (g : Geometry) (cells : List ℕ) (which : Which) → g.bbt ≢ 1 → kind_in g (decoded g cells).image ≡ Some which → (decoded g cells).failed ≢ 0
    → IsUnreadable g cells
body_failed g cells which e kind failed =
    (first_and_kind g cells (is_some (step_read g cells 0).corrected) (Some which) e refl kind ∙ and_false (is_some (step_read g cells 0).corrected), failed)

-- no pattern in a first step that can be decoded
pub body_none : (g : Geometry) (cells : List ℕ) → g.bbt ≢ 1 → kind_in g (decoded g cells).image ≡ None → is_some (step_read g cells 0).corrected ≡ true
    → HasNoPattern g cells
body_none g cells e kind first = first_and_kind g cells true None e first kind

kind_none : (k : Option Which) → is_none k ≡ true → k ≡ None
kind_none None h = refl
kind_none (Some which) h = cc

second : (x y : Bool) → (x && y) ≡ true → y ≡ true
second true y h = h
second false y h = absurd (false≢true h)

-- a page with no pattern holds no copy
no_pattern_none : (t : Bool) (g : Geometry) (cells : List ℕ) → has_no_pattern t g cells ≡ true → copy_if t g cells ≡ None
no_pattern_none true g cells h = ap (copy_under g cells) (kind_none (kind_in g cells) h)
no_pattern_none false g cells h =
    ap (copy_of_kind g (decoded g cells))
    (kind_none (kind_in g (decoded g cells).image) (second (is_some (step_read g cells 0).corrected) (is_none (kind_in g (decoded g cells).image)) h))

-- nor does a page of which a step failed
kind_failed : (g : Geometry) (d : Decoding) (kind : Option Which) → d.failed ≢ 0 → copy_of_kind g d kind ≡ None
kind_failed g d None h = refl
kind_failed g d (Some which) h = copy_failed g d which h

under_failed : (g : Geometry) (cells : List ℕ) (kind : Option Which) → (decoded g cells).failed ≢ 0 → copy_under g cells kind ≡ None
under_failed g cells None h = refl
under_failed g cells (Some which) h = copy_failed g (decoded g cells) which h

failed_none : (t : Bool) (g : Geometry) (cells : List ℕ) → (decoded g cells).failed ≢ 0 → copy_if t g cells ≡ None
failed_none true g cells h = under_failed g cells (kind_in g cells) h
failed_none false g cells h = kind_failed g (decoded g cells) (kind_in g (decoded g cells).image) h

-- where a page is refused it holds no copy
pub refused_none : (g : Geometry) (cells : List ℕ) (why : NoCopy) → TellsKind g cells (Err why) → copy_in g cells ≡ None
refused_none g cells NoPattern h = no_pattern_none (g.bbt == 1) g cells h
refused_none g cells Unreadable h = failed_none (g.bbt == 1) g cells h.1

-- a page of a kind, of which no step failed, holds a copy
copy_whole : (g : Geometry) (d : Decoding) (which : Which) → d.failed ≡ 0
    → copy_of_kind g d (Some which)
    ≡ Some (record { which = which; version = slice_index d.image (header_at g + 4); states = states_in (slice_range d.image (table_at g) (table_at g + g.blocks / 4)) })
copy_whole g d which e = rw (eqb_same d.failed 0 e) refl

-- a page that holds a copy has a pattern
pub copy_has_pattern : (g : Geometry) (cells : List ℕ) (which : Which) → TellsKind g cells (Ok which) → HasNoPattern g cells → ⊥
copy_has_pattern g cells which tells none =
    let held = tells.0 ∙ copy_whole g (decoded g cells) which tells.1 in
    let gone : copy_in g cells ≡ None = no_pattern_none (g.bbt == 1) g cells none in
    cc

-- nor can a step of it have failed
pub copy_readable : (g : Geometry) (cells : List ℕ) (which : Which) → TellsKind g cells (Ok which) → IsUnreadable g cells → ⊥
copy_readable g cells which tells bad = bad.1 tells.1
