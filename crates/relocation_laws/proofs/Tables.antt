-- What a table says of a block, and what a further block called bad changes of it.
use Rattle.std.proofs.Common.{◌≡◌, ◌≢◌, ◌⊎◌, ℕ, zero, suc, ◌-◌, ◌<◌, ◌≤◌, Bool, true, false, ◌&&◌, not, ◌==◌, List, [], ◌∷◌, ◌++◌, length, map, take, drop, find, refl, ap, sym, ◌∙◌, arith, inl, inr, subst, Some, slice_index, slice_set, bit_or}
use Rattle.std.proofs.lemmas.Bool.{and_parts, eqb-true, false≢true}
use Rattle.std.proofs.lemmas.Bool.Decides.{eqb_tells}
use Rattle.nand_model.specs.Table.{table_blocks, is_bad_state, calls_bad, read_again}
use Rattle.chip_paths.specs.Writing.{marked, next_place}
use Rattle.nand_model.specs.declared.geometry.Geometry.{Geometry}
use Rattle.relocation_laws.specs.Shelves.{TableLaws}
use Rattle.page_laws.specs.Keeping.{IsIn}
use Rattle.relocation_laws.specs.Tables.{IsTable, Shows, IsTableBlock}

-- what is found is in the list and passes the test
pub find-in : (test : ℕ → Bool) (xs : List ℕ) (b : ℕ) → find test xs ≡ Some b → IsIn xs b × (test b ≡ true)
find-in test [] b e = absurd (cc)
find-in test (x ∷ xs) b e = on (find-in test xs b) (test x) refl
  where
    on : (find test xs ≡ Some b → IsIn xs b × (test b ≡ true)) → (t : Bool) → test x ≡ t → IsIn (x ∷ xs) b × (test b ≡ true)
    on later true h = let same : x ≡ b = cc (rw h at e) in (inl (sym same), subst (λ y. test y ≡ true) same h)
    on later false h = let found = later (rw h at e) in (inr found.0, found.1)

bad-is : (s : ℕ) → is_bad_state s ≡ true → (s ≡ 1) ⊎ (s ≡ 3)
bad-is s h = on (eqb_tells s 1)
  where
    on : ((s == 1) ≡ true) × (s ≡ 1) ⊎ (((s == 1) ≡ false) × (s ≢ 1)) → (s ≡ 1) ⊎ (s ≡ 3)
    on (inl t) = inl t.1
    on (inr t) = inr (eqb-true s 3 (rw t.0 at h))

bad-or-one : (s : ℕ) → is_bad_state s ≡ true → is_bad_state (bit_or s 1) ≡ true
bad-or-one s h = on (bad-is s h)
  where
    on : (s ≡ 1) ⊎ (s ≡ 3) → is_bad_state (bit_or s 1) ≡ true
    on (inl e) = rw e refl
    on (inr e) = rw e refl

pub set-other : (table : List ℕ) (b c v : ℕ) → c ≢ b → slice_index (slice_set table b v) c ≡ slice_index table c
set-other [] b c v n = refl
set-other (x ∷ xs) zero zero v n = absurd (n refl)
set-other (x ∷ xs) zero (suc c) v n = refl
set-other (x ∷ xs) (suc b) zero v n = refl
set-other (x ∷ xs) (suc b) (suc c) v n = set-other xs b c v (λ e. n (ap suc e))

pub set-own : (table : List ℕ) (b v : ℕ) → b < length table → slice_index (slice_set table b v) b ≡ v
set-own [] b v h = absurd (omega (arith, h))
set-own (x ∷ xs) zero v h = refl
set-own (x ∷ xs) (suc b) v h = let less : b < length xs = omega (arith, h) in set-own xs b v less

-- past the end nothing is set
set-none : (table : List ℕ) (b v c : ℕ) → length table ≤ b → slice_index (slice_set table b v) c ≡ slice_index table c
set-none [] b v c h = refl
set-none (x ∷ xs) zero v c h = absurd (omega (arith, h))
set-none (x ∷ xs) (suc b) v zero h = refl
set-none (x ∷ xs) (suc b) v (suc c) h = let less : length xs ≤ b = omega (arith, h) in set-none xs b v c less

pub long-set : (table : List ℕ) (b v : ℕ) → length (slice_set table b v) ≡ length table
long-set [] b v = refl
long-set (x ∷ xs) zero v = refl
long-set (x ∷ xs) (suc b) v = ap suc (long-set xs b v)

-- a block that is called bad stays so, whatever block is called bad beside it
bad-set : (table : List ℕ) (b c v : ℕ) → (is_bad_state (slice_index table b) ≡ true → is_bad_state v ≡ true) → calls_bad table c ≡ true → calls_bad (slice_set table b v) c ≡ true
bad-set [] b c v keeps h = h
bad-set (x ∷ xs) zero zero v keeps h = keeps h
bad-set (x ∷ xs) zero (suc c) v keeps h = h
bad-set (x ∷ xs) (suc b) zero v keeps h = h
bad-set (x ∷ xs) (suc b) (suc c) v keeps h = bad-set xs b c v keeps h

pub grows-marked : (table : List ℕ) (b c : ℕ) → calls_bad table c ≡ true → calls_bad (marked table b) c ≡ true
grows-marked table b c h = bad-set table b c (bit_or (slice_index table b) 1) (bad-or-one (slice_index table b)) h

pub stays-marked : (table : List ℕ) (b c : ℕ) → c ≢ b → calls_bad (marked table b) c ≡ calls_bad table c
stays-marked table b c n = ap is_bad_state (set-other table b c (bit_or (slice_index table b) 1) n)

abbrev pub reserved_at : ℕ → List ℕ → List ℕ
reserved_at n states = take n states ++ map (λ s. bit_or s 2) (drop n states)

head-same : (x y : ℕ) (xs ys : List ℕ) → x ∷ xs ≡ y ∷ ys → x ≡ y
head-same x y xs ys e = cc

tail-same : (x y : ℕ) (xs ys : List ℕ) → x ∷ xs ≡ y ∷ ys → xs ≡ ys
tail-same x y xs ys e = cc

-- a block among the last ones that is called factory bad: the table still comes back
back-set : (n : ℕ) (table : List ℕ) (b : ℕ) → n ≤ b → reserved_at n (read_again table) ≡ table → reserved_at n (read_again (slice_set table b 3)) ≡ slice_set table b 3
back-set zero [] b h e = refl
back-set zero (x ∷ xs) zero h e = ap (λ ys. 3 ∷ ys) (tail-same _ _ _ _ e)
back-set zero (x ∷ xs) (suc b) h e =
    let first = head-same _ _ _ _ e in
    let low : 0 ≤ b = omega arith in
    let t = back-set zero xs b low (tail-same _ _ _ _ e) in
    cc
back-set (suc n) [] b h e = refl
back-set (suc n) (x ∷ xs) zero h e = absurd (omega (arith, h))
back-set (suc n) (x ∷ xs) (suc b) h e =
    let first = head-same _ _ _ _ e in
    let low : n ≤ b = omega (arith, h) in
    let t = back-set n xs b low (tail-same _ _ _ _ e) in
    cc

module _ (g : Geometry) (enough : 4 ≤ g.blocks) where
  pub table-block-low : (b : ℕ) → IsIn (table_blocks g) b → g.blocks - 4 ≤ b
  table-block-low b (inl e) = omega arith
  table-block-low b (inr (inl e)) = omega arith
  table-block-low b (inr (inr (inl e))) = omega arith
  table-block-low b (inr (inr (inr (inl e)))) = omega arith
  table-block-low b (inr (inr (inr (inr i)))) = absurd i

  pub table-block-there : (b : ℕ) → IsIn (table_blocks g) b → b < g.blocks
  table-block-there b (inl e) = omega arith
  table-block-there b (inr (inl e)) = omega arith
  table-block-there b (inr (inr (inl e))) = omega arith
  table-block-there b (inr (inr (inr (inl e)))) = omega arith
  table-block-there b (inr (inr (inr (inr i)))) = absurd i

  -- one of the last four blocks, called bad, has the entry 3
  pub marked-reserved : (table : List ℕ) (b : ℕ) → IsIn (table_blocks g) b → IsTable g table → marked table b ≡ slice_set table b 3
  marked-reserved table b inside f = on (f.reserved b inside)
    where
      on : (slice_index table b ≡ 2) ⊎ (slice_index table b ≡ 3) → marked table b ≡ slice_set table b 3
      on (inl e) = ap (λ s. slice_set table b (bit_or s 1)) e
      on (inr e) = ap (λ s. slice_set table b (bit_or s 1)) e

  form-set : (table : List ℕ) (b : ℕ) → IsIn (table_blocks g) b → IsTable g table → IsTable g (slice_set table b 3)
  form-set table b inside f =
      record {
        long = long-set table b 3 ∙ f.long;
        back = back-set (g.blocks - 4) table b (table-block-low b inside) f.back;
        reserved = reserved;
      }
    where
      reserved : (c : ℕ) → IsIn (table_blocks g) c → (slice_index (slice_set table b 3) c ≡ 2) ⊎ (slice_index (slice_set table b 3) c ≡ 3)
      reserved c is = on (eqb_tells c b)
        where
          on : ((c == b) ≡ true) × (c ≡ b) ⊎ (((c == b) ≡ false) × (c ≢ b)) → (slice_index (slice_set table b 3) c ≡ 2) ⊎ (slice_index (slice_set table b 3) c ≡ 3)
          on (inl t) = inr (ap (slice_index (slice_set table b 3)) t.1 ∙ set-own table b 3 (omega (arith, table-block-there b inside, f.long)))
          on (inr t) = subst (λ s. (s ≡ 2) ⊎ (s ≡ 3)) (sym (set-other table b c 3 t.1)) (f.reserved c is)

  hit-set : (table : List ℕ) (b : ℕ) → IsIn (table_blocks g) b → IsTable g table → calls_bad (marked table b) b ≡ true
  hit-set table b inside f =
      ap (λ t. calls_bad t b) (marked-reserved table b inside f) ∙ ap is_bad_state (set-own table b 3 (omega (arith, table-block-there b inside, f.long)))

  place-law : (table : List ℕ) (other b : ℕ) → next_place g table other ≡ Some b → IsIn (table_blocks g) b × (calls_bad table b ≡ false) × (b ≢ other)
  place-law table other b e =
      let found = find-in (λ block. slice_index table block == 2 && not (block == other)) (table_blocks g) b e in
      let both = and_parts (slice_index table b == 2) (not (b == other)) found.1 in
      (found.0, ap is_bad_state (eqb-true (slice_index table b) 2 both.0), λ same. apart same both.1)
    where
      apart : b ≡ other → not (b == other) ≡ true → ⊥
      apart same h = on (eqb_tells b other)
        where
          on : ((b == other) ≡ true) × (b ≡ other) ⊎ (((b == other) ≡ false) × (b ≢ other)) → ⊥
          on (inl t) = false≢true (rw t.0 at h)
          on (inr t) = t.1 same

  -- the laws of tables hold of these
  pub table-laws : (is_good : ℕ → Bool) (Factory Acked Begun Fails : ℕ → Type 0) → ((b : ℕ) → is_good b ≡ false → Factory b) → ((b : ℕ) → Fails b → Begun b)
      → TableLaws g (IsTableBlock g is_good) Fails (IsTable g) (Shows g Factory Acked Begun)
  table-laws is_good Factory Acked Begun Fails bad_ones begun =
      record {
        place = λ table other b s e. let found = place-law table other b e in ((found.0, good table b s (table-block-there b found.0) found.1 (is_good b) refl), found.1, found.2);
        form = λ table b inside f. subst (IsTable g) (sym (marked-reserved table b inside.0 f)) (form-set table b inside.0 f);
        good = λ table b inside f bad s.
            record {
              factory = λ c there is. grows-marked table b c (s.factory c there is);
              acked = λ c there is. grows-marked table b c (s.acked c there is);
              no_other = λ c there h. no_other table b bad s c there h (eqb_tells c b);
            };
        hit = λ table b inside f. hit-set table b inside.0 f;
        grows = grows-marked;
        stays = stays-marked;
      }
    where
      good : (table : List ℕ) (b : ℕ) → Shows g Factory Acked Begun table → b < g.blocks → calls_bad table b ≡ false → (t : Bool) → is_good b ≡ t → is_good b ≡ true
      good table b s there free true e = e
      good table b s there free false e = absurd (false≢true (sym free ∙ s.factory b there (bad_ones b e)))

      no_other : (table : List ℕ) (b : ℕ) → Fails b → Shows g Factory Acked Begun table → (c : ℕ) → c < g.blocks → calls_bad (marked table b) c ≡ true
          → ((c == b) ≡ true) × (c ≡ b) ⊎ (((c == b) ≡ false) × (c ≢ b)) → Factory c ⊎ Begun c
      no_other table b bad s c there h (inl t) = inr (subst Begun (sym t.1) (begun b bad))
      no_other table b bad s c there h (inr t) = s.no_other c there (sym (stays-marked table b c t.1) ∙ h)
