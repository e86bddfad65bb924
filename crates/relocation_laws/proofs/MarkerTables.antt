-- The table that the markers of a chip make.
use Rattle.std.proofs.Common.{◌≡◌, ◌⊎◌, ◌<◌, ◌≤◌, ℕ, zero, suc, ◌+◌, ◌-◌, Bool, true, false, not, List, [], ◌∷◌, length, map, refl, ap, sym, ◌∙◌, arith, inl, inr, subst, if◌then◌else◌, slice_index, bit_or}
use Rattle.std.proofs.lemmas.Bool.{false≢true}
use Rattle.nand_model.specs.Sizes.{numbers_from}
use Rattle.nand_model.specs.Table.{written_code, state_read, calls_bad, read_again}
use Rattle.chip_paths.specs.Attach.{with_reserved, marker_table}
use Rattle.nand_model.specs.declared.geometry.Geometry.{Geometry}
use Rattle.relocation_laws.specs.Tables.{IsTable, Shows}
use Rattle.relocation_laws.proofs.Reading.{SeenMarkers}
use Rattle.relocation_laws.proofs.Tables.{reserved_at, table-block-low, table-block-there}

abbrev code_of : Bool → ℕ
code_of t = if t then 0 else 3

long-map : (f : ℕ → ℕ) (xs : List ℕ) → length (map f xs) ≡ length xs
long-map f [] = refl
long-map f (x ∷ xs) = ap suc (long-map f xs)

long-reserved : (n : ℕ) (xs : List ℕ) → length (reserved_at n xs) ≡ length xs
long-reserved zero xs = long-map (λ s. bit_or s 2) xs
long-reserved (suc n) [] = refl
long-reserved (suc n) (x ∷ xs) = ap suc (long-reserved n xs)

module _ (is_good : ℕ → Bool) where
  abbrev codes : List ℕ → List ℕ
  codes bs = map (λ b. code_of (is_good b)) bs

  back-first : (t : Bool) (xs ys : List ℕ) → read_again xs ≡ ys → read_again (code_of t ∷ xs) ≡ code_of t ∷ ys
  back-first true xs ys e = ap (λ (l : List ℕ). 0 ∷ l) e
  back-first false xs ys e = ap (λ (l : List ℕ). 3 ∷ l) e

  back-last : (t : Bool) (xs ys : List ℕ) → read_again xs ≡ ys → read_again (bit_or (code_of t) 2 ∷ xs) ≡ state_read (written_code (code_of t)) ∷ ys
  back-last true xs ys e = ap (λ (l : List ℕ). 0 ∷ l) e
  back-last false xs ys e = ap (λ (l : List ℕ). 3 ∷ l) e

  codes-back : (bs : List ℕ) → read_again (codes bs) ≡ codes bs
  codes-back [] = refl
  codes-back (b ∷ bs) = back-first (is_good b) (codes bs) (codes bs) (codes-back bs)

  codes-reserved : (n : ℕ) (bs : List ℕ) → read_again (reserved_at n (codes bs)) ≡ read_again (codes bs)
  codes-reserved zero [] = refl
  codes-reserved zero (b ∷ bs) = back-last (is_good b) (map (λ s. bit_or s 2) (codes bs)) (read_again (codes bs)) (codes-reserved zero bs)
  codes-reserved (suc n) [] = refl
  codes-reserved (suc n) (b ∷ bs) = ap (λ (l : List ℕ). state_read (written_code (code_of (is_good b))) ∷ l) (codes-reserved n bs)

  bad-first : (t : Bool) (x : ℕ) (xs : List ℕ) → (x ≡ code_of t) ⊎ (x ≡ bit_or (code_of t) 2) → calls_bad (x ∷ xs) 0 ≡ not t
  bad-first true x xs (inl e) = rw e refl
  bad-first true x xs (inr e) = rw e refl
  bad-first false x xs (inl e) = rw e refl
  bad-first false x xs (inr e) = rw e refl

  bad-codes : (n first count i : ℕ) → i < count → calls_bad (reserved_at n (codes (numbers_from first count))) i ≡ not (is_good (first + i))
  bad-codes n first zero i h = absurd (omega (arith, h))
  bad-codes zero first (suc count) zero h = bad-first (is_good first) (bit_or (code_of (is_good first)) 2) (map (λ s. bit_or s 2) (codes (numbers_from (first + 1) count))) (inr refl) ∙ ap (λ b. not (is_good b)) (omega arith)
  bad-codes (suc n) first (suc count) zero h = bad-first (is_good first) (code_of (is_good first)) (reserved_at n (codes (numbers_from (first + 1) count))) (inl refl) ∙ ap (λ b. not (is_good b)) (omega arith)
  bad-codes zero first (suc count) (suc i) h = let less : i < count = omega (arith, h) in bad-codes zero (first + 1) count i less ∙ ap (λ b. not (is_good b)) (omega arith)
  bad-codes (suc n) first (suc count) (suc i) h = let less : i < count = omega (arith, h) in bad-codes n (first + 1) count i less ∙ ap (λ b. not (is_good b)) (omega arith)

  two-or-three : (t : Bool) → (bit_or (code_of t) 2 ≡ 2) ⊎ (bit_or (code_of t) 2 ≡ 3)
  two-or-three true = inl refl
  two-or-three false = inr refl

  reserved-codes : (n first count i : ℕ) → n ≤ i → i < count → (slice_index (reserved_at n (codes (numbers_from first count))) i ≡ 2) ⊎ (slice_index (reserved_at n (codes (numbers_from first count))) i ≡ 3)
  reserved-codes n first zero i l h = absurd (omega (arith, h))
  reserved-codes zero first (suc count) zero l h = two-or-three (is_good first)
  reserved-codes (suc n) first (suc count) zero l h = absurd (omega (arith, l))
  reserved-codes zero first (suc count) (suc i) l h = let less : i < count = omega (arith, h) in let low : 0 ≤ i = omega arith in reserved-codes zero (first + 1) count i low less
  reserved-codes (suc n) first (suc count) (suc i) l h = let less : i < count = omega (arith, h) in let low : n ≤ i = omega (arith, l) in reserved-codes n (first + 1) count i low less

  long-codes : (first count : ℕ) → length (codes (numbers_from first count)) ≡ count
  long-codes first zero = refl
  long-codes first (suc count) = ap suc (long-codes (first + 1) count)

  seen-codes : (g : Geometry) (bs : List ℕ) (pages : List (List ℕ)) → SeenMarkers g is_good bs pages → marker_table g pages ≡ codes bs
  seen-codes g [] [] h = refl
  seen-codes g [] (x ∷ xs) h = absurd h
  seen-codes g (b ∷ bs) [] h = absurd h
  seen-codes g (b ∷ bs) (x ∷ xs) h = ap (λ t. code_of t ∷ marker_table g xs) h.0 ∙ ap (λ (l : List ℕ). code_of (is_good b) ∷ l) (seen-codes g bs xs h.1)

-- the factory-bad blocks are those whose markers were bad at first
pub record AreFactoryBad (g : Geometry) (is_good : ℕ → Bool) (F : ℕ → Type 0) : Type 0 where
  pub bad : (b : ℕ) → b < g.blocks → F b → is_good b ≡ false
  pub good : (b : ℕ) → is_good b ≡ false → F b

pub record MarkersFine (g : Geometry) (is_good : ℕ → Bool) (F A B : ℕ → Type 0) (states : List ℕ) : Type 0 where
  pub form : IsTable g (with_reserved g states)
  pub shows : Shows g F A B (with_reserved g states)
  pub free : (b : ℕ) → b < g.blocks → is_good b ≡ true → calls_bad (with_reserved g states) b ≡ false

-- the marker table of a chip on which nothing was marked
pub markers-fine : (g : Geometry) (enough : 4 ≤ g.blocks) (is_good : ℕ → Bool) (F A B : ℕ → Type 0) → AreFactoryBad g is_good F → ((b : ℕ) → A b → ⊥) → (pages : List (List ℕ))
    → SeenMarkers g is_good (numbers_from 0 g.blocks) pages → MarkersFine g is_good F A B (marker_table g pages)
markers-fine g enough is_good F A B factory none pages seen =
    subst (MarkersFine g is_good F A B) (sym (seen-codes is_good g (numbers_from 0 g.blocks) pages seen)) (record {
      form = record {
        long = long-reserved (g.blocks - 4) first ∙ long-codes is_good 0 g.blocks;
        back = ap (with_reserved g) (codes-reserved is_good (g.blocks - 4) (numbers_from 0 g.blocks) ∙ codes-back is_good (numbers_from 0 g.blocks));
        reserved = λ b i. reserved-codes is_good (g.blocks - 4) 0 g.blocks b (table-block-low g enough b i) (table-block-there g enough b i);
      };
      shows = record {
        factory = λ b small f. shown b small ∙ ap not (factory.bad b small f);
        acked = λ b small a. absurd (none b a);
        no_other = λ b small s. inl (factory.good b (not-good (is_good b) (sym (shown b small) ∙ s)));
      };
      free = λ b small e. shown b small ∙ ap not e;
    })
  where
    first : List ℕ
    first = codes is_good (numbers_from 0 g.blocks)

    shown : (b : ℕ) → b < g.blocks → calls_bad (with_reserved g first) b ≡ not (is_good b)
    shown b small = bad-codes is_good (g.blocks - 4) 0 g.blocks b small ∙ ap (λ c. not (is_good c)) (omega arith)

    not-good : (t : Bool) → not t ≡ true → t ≡ false
    not-good true e = absurd (false≢true e)
    not-good false e = refl
