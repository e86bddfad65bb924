-- A new chip, with or without tables, lives; and what its attaches show, by the notes.
use Rattle.std.proofs.Common.{◌≡◌, ◌⊎◌, ◌≤◌, ℕ, zero, suc, Bool, true, false, not, ◌==◌, List, [], ◌∷◌, ◌++◌, refl, ap, sym, ◌∙◌, arith, inl, inr, subst}
use Rattle.std.specs.Prelude.{Contains}
use Rattle.std.specs.List.{list_any}
use Rattle.std.proofs.lemmas.Bool.{false≢true}
use Rattle.std.proofs.lemmas.Bool.Decides.{nat_tests}
use Rattle.nand_model.specs.Sizes.{first_page}
use Rattle.nand_model.specs.Chip.{sim_faults, new_chip, new_page}
use Rattle.nand_model.specs.Table.{has_tables}
use Rattle.nand_model.specs.Partitions.{Partitions}
use Rattle.nand_model.proofs.Bounds.{bounds}
use Rattle.nand_model.specs.declared.geometry.Geometry.{Geometry}
use Rattle.nand_model.specs.declared.words.Note.{Note}
use Rattle.nand_model.specs.declared.words.Weak.{Weak}
use Rattle.run_model.specs.Marking.{ShowsMarks}
use Rattle.run_model.specs.Run.{HasTableBlocks}
use Rattle.page_laws.specs.Keeping.{IsIn, KeepsMarker, PageLaws}
use Rattle.page_laws.proofs.PagesHold.{page_laws}
use Rattle.relocation_laws.specs.Tables.{is_good_of}
use Rattle.relocation_laws.specs.Tables.{Shows}
use Rattle.relocation_laws.proofs.NewChip.{some_is, any_in, not_true, are_bad, bad_page, new_marker, new_lives, two_good, TwoBlocks, two-blocks}
use Rattle.crash_laws.proofs.Bare.{AliveBare}
use Rattle.crash_laws.proofs.BareLives.{without_tables}
use Rattle.crash_laws.proofs.Boots.{Acked, Begun}
use Rattle.crash_laws.proofs.Chain.{Kind}
use Rattle.crash_laws.proofs.Markers0.{BlockMark}
use Rattle.crash_laws.proofs.Tabled.{with_tables}

-- a new chip without tables
bare_alive : (g : Geometry) (bad : List ℕ) (weak : List Weak) → AliveBare g (IsIn bad) (λ b. ⊥) (λ b. ⊥) (new_chip g bad weak)
bare_alive g bad weak = record { geometry = refl; marks = λ b small. on b (is_good_of bad b) refl }
  where
    on : (b : ℕ) (t : Bool) → is_good_of bad b ≡ t → BlockMark g (IsIn bad) (λ b. ⊥) (λ b. ⊥) b (new_page g bad (first_page g b))
    on b true e = record { bad = λ x. absurd (false≢true (sym (is_bad x) ∙ e)); other = inl (subst (λ t. KeepsMarker g (new_page g bad (first_page g b)) t) e (new_marker g bad weak (page_laws g) b true e)) }
      where
        is_bad : IsIn bad b ⊎ ⊥ → is_good_of bad b ≡ false
        is_bad (inl i) = ap not (some_is (λ c. c == b) bad b i (grind (arith, nat_tests)))
        is_bad (inr x) = absurd x
    on b false e = record { bad = λ x. bad_page g bad b e; other = inr (inl (any_in bad b (not_true (list_any (λ c. c == b) bad) e))) }

-- what is kept of a new chip, of whichever kind it is
pub record Start (g : Geometry) (bad : List ℕ) (weak : List Weak) (partitions : Partitions) : Type 1 where
  pub kind : Kind sim_faults g (IsIn bad) partitions
  pub alive : kind.Lives (λ b. ⊥) (λ b. ⊥) (new_chip g bad weak)

pub start : (g : Geometry) (bad : List ℕ) (weak : List Weak) (partitions : Partitions) (t : Bool) → has_tables g ≡ t → HasTableBlocks g bad → Start g bad weak partitions
unfolding with_tables without_tables
start g bad weak partitions true tables few =
    record {
      kind = with_tables sim_faults g (record { is_good = is_good_of bad; laws = laws; tables = tables }) enough (IsIn bad) (are_bad g bad) two.one two.another two.one_good two.another_good two.apart partitions;
      alive = new_lives g bad weak laws tables enough two.one two.another two.one_good two.another_good two.apart;
    }
  where
    laws : PageLaws g
    laws = page_laws g

    enough : 4 ≤ g.blocks
    enough = omega (arith, (bounds g).blocks_low)

    two : TwoBlocks g (is_good_of bad)
    two = two-blocks g (is_good_of bad) enough (two_good g bad tables few)
start g bad weak partitions false bare few =
    record { kind = without_tables sim_faults g laws.sized laws.blank.marker (IsIn bad) partitions bare; alive = bare_alive g bad weak }
  where
    laws : PageLaws g
    laws = page_laws g

in_contains : (xs : List ℕ) (b : ℕ) → Contains xs b → IsIn xs b
in_contains [] b c = absurd (omega (arith, c.1))
in_contains (x ∷ xs) b (zero, l, e) = inl (sym e)
in_contains (x ∷ xs) b (suc i, l, e) = inr (in_contains xs b (i, omega (arith, l), e))

contains_in : (xs : List ℕ) (b : ℕ) → IsIn xs b → Contains xs b
contains_in [] b i = absurd i
contains_in (x ∷ xs) b (inl e) = (0, omega arith, sym e)
contains_in (x ∷ xs) b (inr i) = let c = contains_in xs b i in (suc c.0, omega (arith, c.1), c.2)

pub shows_marks : (g : Geometry) (partitions : Partitions) (k : ℕ) (bad : List ℕ) (past : List (List Note)) (before : List Note) (states : List ℕ)
    → Shows g (IsIn bad) (Acked partitions k past) (Begun g partitions k (past ++ before ∷ [])) states → ShowsMarks g partitions k bad past before states
shows_marks g partitions k bad past before states h = record {
  factory = λ b small c. h.factory b small (in_contains bad b c);
  acknowledged = λ b small a. h.acked b small a;
  no_other = λ b small s. on b (h.no_other b small s);
}
  where
    on : (b : ℕ) → IsIn bad b ⊎ Begun g partitions k (past ++ before ∷ []) b → Contains bad b ⊎ Begun g partitions k (past ++ before ∷ []) b
    on b (inl i) = inl (contains_in bad b i)
    on b (inr x) = inr x
