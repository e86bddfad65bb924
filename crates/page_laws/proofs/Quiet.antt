-- What a quiet chip shows to a read.
use Rattle.std.proofs.Common.{◌≡◌, ◌⊎◌, ◌<◌, ◌≤◌, ℕ, zero, suc, ◌+◌, Bool, true, false, ◌||◌, ◌==◌, List, [], ◌∷◌, refl, ap, sym, arith, not, inl, inr}
use Rattle.std.specs.List.{list_all}
use Rattle.std.proofs.lemmas.Bool.{false≢true}
use Rattle.std.proofs.lemmas.Bool.Decides.{nat_tests}
use Rattle.nand_model.specs.Sizes.{first_page, numbers_from}
use Rattle.nand_model.specs.Chip.{PageState}
use Rattle.nand_model.specs.Table.{has_tables, table_blocks}
use Rattle.nand_model.specs.Quiet.{is_quiet, is_quiet_table_page, has_no_flip_in}
use Rattle.nand_model.specs.declared.geometry.Geometry.{Geometry}
use Rattle.page_laws.specs.Keeping.{IsIn}
use Rattle.page_laws.proofs.Torn.{and_left, and_right}

pub list_all-in : (test : ℕ → Bool) (xs : List ℕ) (b : ℕ) → list_all test xs ≡ true → IsIn xs b → test b ≡ true
list_all-in test [] b h i = absurd i
list_all-in test (x ∷ xs) b h (inl e) = rw e (and_left (test x) (list_all test xs) h)
list_all-in test (x ∷ xs) b h (inr i) = list_all-in test xs b (and_right (test x) (list_all test xs) h) i

number_split : (first count b : ℕ) → first ≤ b → b < first + suc count → (t : Bool) → (b == first) ≡ t → (first + 1 ≤ b → IsIn (numbers_from (first + 1) count) b)
    → (b ≡ first) ⊎ IsIn (numbers_from (first + 1) count) b
number_split first count b h k true e later = inl (grind (arith, nat_tests))
number_split first count b h k false e later = inr (later (grind (arith, nat_tests)))

pub in_numbers : (first count b : ℕ) → first ≤ b → b < first + count → IsIn (numbers_from first count) b
in_numbers first zero b h k = absurd (omega arith)
in_numbers first (suc count) b h k = number_split first count b h k (b == first) refl (λ more. in_numbers (first + 1) count b more (omega (arith, k)))

pub dec_in : (xs : List ℕ) (b : ℕ) → IsIn xs b ⊎ (IsIn xs b → ⊥)
dec_in [] b = inr (λ i. i)
dec_in (x ∷ xs) b = on (b == x) refl (dec_in xs b)
  where
    on : (t : Bool) → (b == x) ≡ t → IsIn xs b ⊎ (IsIn xs b → ⊥) → IsIn (x ∷ xs) b ⊎ (IsIn (x ∷ xs) b → ⊥)
    on true e r = inl (inl (grind (arith, nat_tests)))
    on false e (inl i) = inl (inr i)
    on false e (inr n) = inr (neither e n)
      where
        neither : (b == x) ≡ false → (IsIn xs b → ⊥) → IsIn (x ∷ xs) b → ⊥
        neither e n (inl same) = grind (arith, nat_tests)
        neither e n (inr i) = n i

or_false : (a b : Bool) → a ≡ false → (a || b) ≡ true → b ≡ true
or_false true b e h = absurd (false≢true (sym e))
or_false false b e h = h

module _ (g : Geometry) (pages : ℕ → PageState) (quiet : is_quiet g pages ≡ true) where
  pub quiet_marker : (b : ℕ) → IsIn (numbers_from 0 g.blocks) b → has_no_flip_in (pages (first_page g b)) g.page (g.page + 1) ≡ true
  quiet_marker b i = list_all-in (λ c. has_no_flip_in (pages (first_page g c)) g.page (g.page + 1)) (numbers_from 0 g.blocks) b (and_left _ (not (has_tables g) || list_all (λ c. is_quiet_table_page g (pages (first_page g c))) (table_blocks g)) quiet) i

  pub quiet_table : (b : ℕ) → has_tables g ≡ true → IsIn (table_blocks g) b → is_quiet_table_page g (pages (first_page g b)) ≡ true
  quiet_table b tables i =
      list_all-in (λ c. is_quiet_table_page g (pages (first_page g c))) (table_blocks g) b
      (or_false (not (has_tables g)) _ (ap not tables) (and_right (list_all (λ c. has_no_flip_in (pages (first_page g c)) g.page (g.page + 1)) (numbers_from 0 g.blocks)) _ quiet)) i

pub numbers_small : (first count b : ℕ) → IsIn (numbers_from first count) b → b < first + count
numbers_small first zero b i = absurd i
numbers_small first (suc count) b (inl e) = omega arith
numbers_small first (suc count) b (inr i) = omega (arith, numbers_small (first + 1) count b i)
