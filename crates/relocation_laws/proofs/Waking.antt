-- Once something is held, it stays so along a path.
use Rattle.std.proofs.Common.{ℕ, List, sym, Option, Some, None, ◌∙◌}
use Rattle.std.proofs.lemmas.Option.{none-some}
use Rattle.nand_model.specs.Chip.{ReadEvent, ProgramEvent, EraseEvent}
use Rattle.nand_model.specs.Path.{Path, Over, Then, Good, Failed}
use Rattle.nand_model.specs.declared.geometry.Geometry.{Geometry}
use Rattle.relocation_laws.specs.Goes.{Goes}
use Rattle.relocation_laws.specs.Shelves.{Shelf, with_held, IsEmpty}
use Rattle.relocation_laws.proofs.Induction.{held-own}

module _ {A : Type 0} (g : Geometry) (TB Fails : ℕ → Type 0) (Form : List ℕ → Type 0) (Rests Rests1 : Shelf → Type 0) (Ends Ends1 : A → Shelf → Type 0)
    (rests : (h : Shelf) → (IsEmpty h → ⊥) → Rests h → Rests1 h) (ends : (a : A) (h : Shelf) → (IsEmpty h → ⊥) → Ends a h → Ends1 a h) where
  -- a path that goes along from a shelf that holds something goes along by what is asked of such
  -- shelves
  pub goes-on : (path : Path A) (fresh : Option ℕ) (holds : Shelf) → (IsEmpty holds → ⊥) → Goes g TB Fails Form Rests Ends fresh holds path → Goes g TB Fails Form Rests1 Ends1 fresh holds path
  goes-on (Over a) fresh holds some h = ends a holds some h
  goes-on (Then (ReadEvent page) rest) fresh holds some h = h
  goes-on (Then (EraseEvent b) rest) fresh holds some h = (
    h.0,
    rests holds some h.1,
    rests (with_held holds b None) later h.2,
    h.3,
    goes-on (rest Good) (Some b) (with_held holds b None) later h.4,
    λ f. (goes-on (rest Failed) None holds some (h.5 f).0, goes-on (rest Failed) None (with_held holds b None) later (h.5 f).1),
    h.6,
  )
    where
      later : IsEmpty (with_held holds b None) → ⊥
      later empty = some (h.3 empty)
  goes-on (Then (ProgramEvent page image) rest) fresh holds some h = (
    h.0,
    h.1,
    record { page_is = h.2.page_is; image_is = h.2.image_is; inside = h.2.inside; byte = h.2.byte; form = h.2.form },
    h.3,
    h.4,
    rests holds some h.5,
    rests (with_held holds h.0 (Some h.1)) later h.6,
    goes-on (rest Good) None (with_held holds h.0 (Some h.1)) later h.7,
    λ f. (goes-on (rest Failed) None holds some (h.8 f).0, goes-on (rest Failed) None (with_held holds h.0 (Some h.1)) later (h.8 f).1),
  )
    where
      later : IsEmpty (with_held holds h.0 (Some h.1)) → ⊥
      later empty = none-some h.1 (sym (empty h.0) ∙ held-own holds h.0 (Some h.1))
