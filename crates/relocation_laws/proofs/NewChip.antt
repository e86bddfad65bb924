-- A new chip holds nothing.
use Rattle.std.proofs.Common.{◌≡◌, ◌≢◌, ◌⊎◌, ◌<◌, ◌≤◌, ℕ, zero, suc, ◌+◌, ◌-◌, Bool, true, false, not, ◌||◌, ◌==◌, if◌then◌else◌, List, [], ◌∷◌, length, filter, refl, ap, sym, ◌∙◌, arith, None, inl, inr, subst, slice_index, slice_set, replicate}
use Rattle.std.specs.Prelude.{⊤}
use Rattle.std.specs.List.{list_any, count_by}
use Rattle.std.proofs.lemmas.List.Sums.{length-filter}
use Rattle.std.proofs.lemmas.List.Filters.{length-filter_both}
use Rattle.run_model.specs.Run.{HasTableBlocks}
use Rattle.std.proofs.lemmas.Bool.{false≢true}
use Rattle.std.proofs.lemmas.Bool.Decides.{nat_tests}
use Rattle.nand_model.specs.Sizes.{first_page, raw_len}
use Rattle.nand_model.specs.Chip.{PageState, sim_faults, new_chip, new_page, blank_page}
use Rattle.nand_model.specs.Table.{has_tables, table_blocks}
use Rattle.nand_model.specs.declared.geometry.Geometry.{Geometry}
use Rattle.nand_model.specs.declared.words.Weak.{Weak}
use Rattle.page_laws.specs.Keeping.{after_flips, KeepsCopy, PageLaws, TablePage, KeepsMarker, IsIn}
use Rattle.relocation_laws.specs.Tables.{IsTableBlock}
use Rattle.relocation_laws.specs.Tables.{is_good_of}
use Rattle.relocation_laws.proofs.MarkerTables.{AreFactoryBad}
use Rattle.relocation_laws.proofs.Lives.{Lives}
use Rattle.relocation_laws.proofs.Goes.{none-aside}
use Rattle.page_laws.proofs.Markers.{flips_elsewhere}
use Rattle.page_laws.proofs.Pages.{first_page-same}

pub some_is : (test : ℕ → Bool) (xs : List ℕ) (b : ℕ) → IsIn xs b → test b ≡ true → list_any test xs ≡ true
some_is test [] b i e = absurd i
some_is test (x ∷ xs) b (inl same) e = ap (λ t. t || list_any test xs) (subst (λ y. test y ≡ true) same e)
some_is test (x ∷ xs) b (inr i) e = either (test x) (list_any test xs) (some_is test xs b i e)
  where
    either : (s t : Bool) → t ≡ true → (s || t) ≡ true
    either true t h = refl
    either false t h = h

no_such : (test : ℕ → Bool) (xs : List ℕ) → ((b : ℕ) → IsIn xs b → test b ≡ false) → list_any test xs ≡ false
no_such test [] h = refl
no_such test (x ∷ xs) h = both (test x) (list_any test xs) (h x (inl refl)) (no_such test xs (λ b i. h b (inr i)))
  where
    both : (s t : Bool) → s ≡ false → t ≡ false → (s || t) ≡ false
    both s t e f = rw (e, f) refl

pub any_in : (xs : List ℕ) (b : ℕ) → list_any (λ c. c == b) xs ≡ true → IsIn xs b
any_in [] b e = absurd (false≢true e)
any_in (x ∷ xs) b e = on (x == b) refl e (λ f. any_in xs b f)
  where
    on : (t : Bool) → (x == b) ≡ t → (t || list_any (λ c. c == b) xs) ≡ true → (list_any (λ c. c == b) xs ≡ true → IsIn xs b) → IsIn (x ∷ xs) b
    on true same h later = inl (grind (arith, nat_tests))
    on false same h later = inr (later h)

pub not_true : (t : Bool) → not t ≡ false → t ≡ true
not_true true e = refl
not_true false e = absurd (false≢true (sym e))

not_false : (t : Bool) → not t ≡ true → t ≡ false
not_false true e = absurd (false≢true e)
not_false false e = refl

pub are_bad : (g : Geometry) (bad : List ℕ) → AreFactoryBad g (is_good_of bad) (IsIn bad)
are_bad g bad = record {
  bad = λ b small i. ap not (some_is (λ c. c == b) bad b i (grind (arith, nat_tests)));
  good = λ b e. any_in bad b (not_true (list_any (λ c. c == b) bad) e);
}

-- the first page of a good block of a new chip is blank
pub good_page : (g : Geometry) (bad : List ℕ) (b : ℕ) → 0 < g.pages_per_block → is_good_of bad b ≡ true → new_page g bad (first_page g b) ≡ blank_page g
good_page g bad b sized good =
    ap (λ t. if t then record { cells = slice_set (replicate (raw_len g) 0xff) g.page 0; flips = []; torn = false; flipped_since = false } else blank_page g)
    (no_such (λ c. first_page g c == first_page g b) bad (λ c i. apart c i (first_page g c == first_page g b) refl))
  where
    apart : (c : ℕ) → IsIn bad c → (t : Bool) → (first_page g c == first_page g b) ≡ t → (first_page g c == first_page g b) ≡ false
    apart c i false e = e
    apart c i true e =
        let same_page : first_page g c ≡ first_page g b = grind (arith, nat_tests) in
        let same : c ≡ b = first_page-same g c b sized same_page in
        absurd (false≢true (sym (not_false (list_any (λ x. x == b) bad) good) ∙ some_is (λ x. x == b) bad c i (grind (arith, nat_tests))))

zeroed : (cells : List ℕ) (i : ℕ) → slice_index (slice_set cells i 0) i ≡ 0
zeroed [] i = refl
zeroed (x ∷ xs) zero = refl
zeroed (x ∷ xs) (suc i) = zeroed xs i

-- the first page of a bad block says so
pub bad_page : (g : Geometry) (bad : List ℕ) (b : ℕ) → is_good_of bad b ≡ false → KeepsMarker g (new_page g bad (first_page g b)) false
bad_page g bad b e = subst (λ p. KeepsMarker g p false) (sym page_is) marker
  where
    marked : PageState
    marked = record { cells = slice_set (replicate (raw_len g) 0xff) g.page 0; flips = []; torn = false; flipped_since = false }

    inside : IsIn bad b
    inside = any_in bad b (not_true (list_any (λ c. c == b) bad) e)

    page_is : new_page g bad (first_page g b) ≡ marked
    page_is = ap (λ t. if t then marked else blank_page g) (some_is (λ c. first_page g c == first_page g b) bad b inside (grind (arith, nat_tests)))

    marker : KeepsMarker g marked false
    marker bits n = not_full (slice_index (after_flips marked bits).cells g.page) ((flips_elsewhere marked bits g.page n).same ∙ zeroed (replicate (raw_len g) 0xff) g.page)
      where
        not_full : (x : ℕ) → x ≡ 0 → (x == 0xff) ≡ false
        not_full x z = rw z refl

module _ (g : Geometry) (bad : List ℕ) (weak : List Weak) (laws : PageLaws g) where
  pub new_marker : (b : ℕ) (t : Bool) → is_good_of bad b ≡ t → KeepsMarker g (new_page g bad (first_page g b)) (is_good_of bad b)
  new_marker b true e = subst (λ p. KeepsMarker g p (is_good_of bad b)) (sym (good_page g bad b laws.sized e)) (subst (λ t. KeepsMarker g (blank_page g) t) (sym e) laws.blank.marker)
  new_marker b false e = subst (λ t. KeepsMarker g (new_page g bad (first_page g b)) t) (sym e) (bad_page g bad b e)

  new_table_page : (b : ℕ) → TablePage g (new_page g bad (first_page g b)) (is_good_of bad b) None
  new_table_page b = record {
    copies = λ e. subst (λ p. KeepsCopy g p None) (sym (good_page g bad b laws.sized e)) (laws.blank.copies refl);
    marker = new_marker b (is_good_of bad b) refl;
  }

  -- a new chip holds nothing
  pub new_lives : (tables : has_tables g ≡ true) (enough : 4 ≤ g.blocks) (p q : ℕ) (in_p : IsTableBlock g (is_good_of bad) p) (in_q : IsTableBlock g (is_good_of bad) q) (apart : p ≢ q)
      → Lives sim_faults g (record { is_good = is_good_of bad; laws = laws; tables = tables }) enough (IsIn bad) (are_bad g bad) p q in_p in_q apart (λ b. ⊥) (λ b. ⊥) (new_chip g bad weak)
  new_lives tables enough p q in_p in_q apart =
      record {
        holds = λ b. None;
        holding = record {
          geometry = refl;
          stands = record { tables = λ b i. new_table_page b; markers = λ e b small out. new_marker b (is_good_of bad b) refl };
          is_fresh = λ b e. absurd (cc);
        };
        rests = inl ((λ b. refl), λ b a. a);
        aside = none-aside g (λ b. None);
      }

filter-yes : {X : Type 0} (test : X → Bool) (x : X) (xs : List X) → test x ≡ true → filter test (x ∷ xs) ≡ x ∷ filter test xs
filter-yes test x xs e = rw e refl

filter-no : {X : Type 0} (test : X → Bool) (x : X) (xs : List X) → test x ≡ false → filter test (x ∷ xs) ≡ filter test xs
filter-no test x xs e = rw e refl

-- no element twice
abbrev AreDistinct : List ℕ → Type 0
AreDistinct [] = ⊤
AreDistinct (x ∷ xs) = (IsIn xs x → ⊥) × AreDistinct xs

filter_cases : (test : ℕ → Bool) (x : ℕ) (xs : List ℕ) (t : Bool) → test x ≡ t → ((test x ≡ true) × (filter test (x ∷ xs) ≡ x ∷ filter test xs)) ⊎ ((test x ≡ false) × (filter test (x ∷ xs) ≡ filter test xs))
filter_cases test x xs true e = inl (e, filter-yes test x xs e)
filter_cases test x xs false e = inr (e, filter-no test x xs e)

in_filter : (test : ℕ → Bool) (xs : List ℕ) (b : ℕ) → IsIn (filter test xs) b → IsIn xs b × (test b ≡ true)
in_filter test [] b i = absurd i
in_filter test (x ∷ xs) b i = on (filter_cases test x xs (test x) refl) (λ j. in_filter test xs b j)
  where
    first : (test x ≡ true) → IsIn (x ∷ filter test xs) b → (IsIn (filter test xs) b → IsIn xs b × (test b ≡ true)) → IsIn (x ∷ xs) b × (test b ≡ true)
    first e (inl same) later = (inl same, subst (λ y. test y ≡ true) (sym same) e)
    first e (inr j) later = (inr (later j).0, (later j).1)

    on : ((test x ≡ true) × (filter test (x ∷ xs) ≡ x ∷ filter test xs)) ⊎ ((test x ≡ false) × (filter test (x ∷ xs) ≡ filter test xs))
        → (IsIn (filter test xs) b → IsIn xs b × (test b ≡ true)) → IsIn (x ∷ xs) b × (test b ≡ true)
    on (inl r) later = first r.0 (subst (λ l. IsIn l b) r.1 i) later
    on (inr r) later = let j = later (subst (λ l. IsIn l b) r.1 i) in (inr j.0, j.1)

distinct_filter : (test : ℕ → Bool) (xs : List ℕ) → AreDistinct xs → AreDistinct (filter test xs)
distinct_filter test [] h = tt
distinct_filter test (x ∷ xs) h = on (filter_cases test x xs (test x) refl) (distinct_filter test xs h.1)
  where
    on : ((test x ≡ true) × (filter test (x ∷ xs) ≡ x ∷ filter test xs)) ⊎ ((test x ≡ false) × (filter test (x ∷ xs) ≡ filter test xs)) → AreDistinct (filter test xs) → AreDistinct (filter test (x ∷ xs))
    on (inl r) later = subst AreDistinct (sym r.1) ((λ i. h.0 (in_filter test xs x i).0), later)
    on (inr r) later = subst AreDistinct (sym r.1) later

blocks_distinct : (g : Geometry) → 4 ≤ g.blocks → AreDistinct (table_blocks g)
blocks_distinct g h = (first, (second, (third, ((λ i. i), tt))))
  where
    third : IsIn ((g.blocks - 4) ∷ []) (g.blocks - 3) → ⊥
    third (inl e) = omega arith
    third (inr i) = i

    second : IsIn ((g.blocks - 3) ∷ (g.blocks - 4) ∷ []) (g.blocks - 2) → ⊥
    second (inl e) = omega arith
    second (inr (inl e)) = omega arith
    second (inr (inr i)) = i

    first : IsIn ((g.blocks - 2) ∷ (g.blocks - 3) ∷ (g.blocks - 4) ∷ []) (g.blocks - 1) → ⊥
    first (inl e) = omega arith
    first (inr (inl e)) = omega arith
    first (inr (inr (inl e))) = omega arith
    first (inr (inr (inr i))) = i

-- at least two of the last four blocks are good
pub two_good : (g : Geometry) (bad : List ℕ) → has_tables g ≡ true → HasTableBlocks g bad → 2 ≤ length (filter (is_good_of bad) (table_blocks g))
two_good g bad tables few =
    let h = few tables in
    let all : length (filter (λ b. list_any (λ c. c == b) bad) (table_blocks g)) + length (filter (is_good_of bad) (table_blocks g)) ≡ 4 = length-filter_both (λ b. list_any (λ c. c == b) bad) (is_good_of bad) (λ b. refl) (table_blocks g) in
    let counted : length (filter (λ b. list_any (λ c. c == b) bad) (table_blocks g)) ≡ count_by (λ b. list_any (λ c. c == b) bad) (table_blocks g) = length-filter (λ b. list_any (λ c. c == b) bad) (table_blocks g) in
    omega (arith, h, all, counted)

-- two different good blocks among the last four
pub record TwoBlocks (g : Geometry) (is_good : ℕ → Bool) : Type 0 where
  pub one : ℕ
  pub another : ℕ
  pub one_good : IsTableBlock g is_good one
  pub another_good : IsTableBlock g is_good another
  pub apart : one ≢ another

pub two-blocks : (g : Geometry) (is_good : ℕ → Bool) → 4 ≤ g.blocks → 2 ≤ length (filter is_good (table_blocks g)) → TwoBlocks g is_good
two-blocks g is_good enough two = on (filter is_good (table_blocks g)) refl two
  where
    on : (blocks : List ℕ) → filter is_good (table_blocks g) ≡ blocks → 2 ≤ length blocks → TwoBlocks g is_good
    on [] e h = absurd (omega (arith, h))
    on (a ∷ []) e h = absurd (omega (arith, h))
    on (a ∷ b ∷ rest) e h =
        record {
          one = a;
          another = b;
          one_good = in_filter is_good (table_blocks g) a (subst (λ l. IsIn l a) (sym e) (inl refl));
          another_good = in_filter is_good (table_blocks g) b (subst (λ l. IsIn l b) (sym e) (inr (inl refl)));
          apart = λ same. distinct.0 (inl same);
        }
      where
        distinct : AreDistinct (a ∷ b ∷ rest)
        distinct = subst AreDistinct e (distinct_filter is_good (table_blocks g) (blocks_distinct g enough))
