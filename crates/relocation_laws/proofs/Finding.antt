-- Which of the copies that the last four blocks hold are found.
use Rattle.std.proofs.Common.{◌≡◌, ◌≢◌, ◌⊎◌, ℕ, zero, suc, Bool, true, false, ◌&&◌, not, ◌==◌, List, [], ◌∷◌, map, filter, find, zip, refl, ap, sym, ◌∙◌, inl, inr, subst, Option, Some, None, true≢false, ap₂}
use Rattle.std.specs.Prelude.{⊤}
use Rattle.std.specs.List.{list_any}
use Rattle.std.proofs.lemmas.Bool.{and_from}
use Rattle.std.proofs.lemmas.Bool.Decides.{eqb_tells}
use Rattle.nand_model.specs.Table.{Copy, copy_in, same_which, written_code, state_read, is_bad_state, calls_bad, read_again}
use Rattle.nand_model.specs.Page.{marker_byte}
use Rattle.nand_model.specs.declared.geometry.Geometry.{Geometry}
use Rattle.nand_model.specs.declared.words.Which.{Which}
use Rattle.nand_model.specs.declared.words.Which.TheVariants.{Primary, Mirror}
use Rattle.chip_paths.specs.Writing.{other_of}
use Rattle.chip_paths.specs.Copies.{with_copy, copies_held, is_disowned, is_valid}
use Rattle.relocation_laws.specs.Shelves.{Held, Shelf}
use Rattle.relocation_laws.specs.Agreement.{copy_as, copy_of, listed}
use Rattle.page_laws.specs.Keeping.{IsIn}

state-same : (s : ℕ) → is_bad_state (state_read (written_code s)) ≡ is_bad_state s
state-same s = on (eqb_tells s 1) (eqb_tells s 3)
  where
    on : ((s == 1) ≡ true) × (s ≡ 1) ⊎ (((s == 1) ≡ false) × (s ≢ 1)) → ((s == 3) ≡ true) × (s ≡ 3) ⊎ (((s == 3) ≡ false) × (s ≢ 3))
        → is_bad_state (state_read (written_code s)) ≡ is_bad_state s
    on (inl t) u = rw t.1 refl
    on (inr t) (inl u) = rw u.1 refl
    on (inr t) (inr u) = rw (t.0, u.0) refl

-- a written table calls the same blocks bad
pub calls-same : (table : List ℕ) (b : ℕ) → calls_bad (read_again table) b ≡ calls_bad table b
calls-same [] b = refl
calls-same (x ∷ xs) zero = state-same x
calls-same (x ∷ xs) (suc b) = calls-same xs b

abbrev some_pair : ℕ → Held → Option (ℕ × Copy)
some_pair b c = Some (b, copy_as c)

pair-same : (x n : ℕ) (d c : Held) → x ≡ n → d ≡ c → some_pair x d ≡ some_pair n c
pair-same x n d c e h = ap₂ some_pair e h

some-held : (a b : Held) → Some a ≡ Some b → a ≡ b
some-held a b e = cc

-- the one block whose copy passes the test is found
pub found-at : (holds : Shelf) (test : (ℕ × Copy) → Bool) (bs : List ℕ) (n : ℕ) (c : Held) → IsIn bs n → holds n ≡ Some c → test (n, copy_as c) ≡ true
    → ((b : ℕ) (d : Held) → holds b ≡ Some d → test (b, copy_as d) ≡ true → b ≡ n) → find test (listed holds bs) ≡ Some (n, copy_as c)
found-at holds test [] n c i at passes only = absurd i
found-at holds test (x ∷ bs) n c i at passes only = on (holds x) refl i (λ j. found-at holds test bs n c j at passes only)
  where
    on : (o : Option Held) → holds x ≡ o → (n ≡ x) ⊎ IsIn bs n → (IsIn bs n → find test (listed holds bs) ≡ Some (n, copy_as c))
        → find test (with_copy x (copy_of o) (listed holds bs)) ≡ Some (n, copy_as c)
    on None e (inl j) later = absurd (cc (at, e, ap holds j))
    on None e (inr j) later = later j
    on (Some d) e j later = by (test (x, copy_as d)) refl j
      where
        by : (t : Bool) → test (x, copy_as d) ≡ t → (n ≡ x) ⊎ IsIn bs n → find test ((x, copy_as d) ∷ listed holds bs) ≡ Some (n, copy_as c)
        by true h j =
            let same = only x d e h in
            rw h (pair-same x n d c same (some-held d c (sym e ∙ ap holds same ∙ at)))
        by false h (inl j) = absurd (true≢false (sym passes ∙ subst (λ y. test (y, copy_as c) ≡ false) (sym j) (subst (λ (k : Held). test (x, copy_as k) ≡ false) (some-held d c (sym e ∙ ap holds (sym j) ∙ at)) h)))
        by false h (inr j) = rw h (later j)

-- no copy passes the test
pub found-none : (holds : Shelf) (test : (ℕ × Copy) → Bool) (bs : List ℕ) → ((b : ℕ) (d : Held) → holds b ≡ Some d → test (b, copy_as d) ≡ false) → find test (listed holds bs) ≡ None
found-none holds test [] never = refl
found-none holds test (x ∷ bs) never = on (holds x) refl (found-none holds test bs never)
  where
    on : (o : Option Held) → holds x ≡ o → find test (listed holds bs) ≡ None → find test (with_copy x (copy_of o) (listed holds bs)) ≡ None
    on None e later = later
    on (Some d) e later = rw (never x d e) later

abbrev pub disowns : ℕ → (ℕ × Copy) → Bool
disowns b c = not (c.0 == b) && calls_bad c.1.states b

any-none : (holds : Shelf) (test : (ℕ × Copy) → Bool) (bs : List ℕ) → ((b : ℕ) (d : Held) → holds b ≡ Some d → test (b, copy_as d) ≡ false) → list_any test (listed holds bs) ≡ false
any-none holds test [] never = refl
any-none holds test (x ∷ bs) never = on (holds x) refl (any-none holds test bs never)
  where
    on : (o : Option Held) → holds x ≡ o → list_any test (listed holds bs) ≡ false → list_any test (with_copy x (copy_of o) (listed holds bs)) ≡ false
    on None e later = later
    on (Some d) e later = rw (never x d e) later

any-at : (holds : Shelf) (test : (ℕ × Copy) → Bool) (bs : List ℕ) (n : ℕ) (c : Held) → IsIn bs n → holds n ≡ Some c → test (n, copy_as c) ≡ true → list_any test (listed holds bs) ≡ true
any-at holds test [] n c i at passes = absurd i
any-at holds test (x ∷ bs) n c i at passes = on (holds x) refl i (λ j. any-at holds test bs n c j at passes)
  where
    on : (o : Option Held) → holds x ≡ o → (n ≡ x) ⊎ IsIn bs n → (IsIn bs n → list_any test (listed holds bs) ≡ true) → list_any test (with_copy x (copy_of o) (listed holds bs)) ≡ true
    on None e (inl j) later = absurd (cc (at, e, ap holds j))
    on None e (inr j) later = later j
    on (Some d) e (inl j) later = rw (subst (λ y. test (y, copy_as d) ≡ true) j (subst (λ (k : Held). test (n, copy_as k) ≡ true) (some-held c d (sym at ∙ ap holds j ∙ e)) passes)) refl
    on (Some d) e (inr j) later = by (test (x, copy_as d)) refl
      where
        by : (t : Bool) → test (x, copy_as d) ≡ t → list_any test ((x, copy_as d) ∷ listed holds bs) ≡ true
        by true h = rw h refl
        by false h = rw h (later j)

not-equal : (a b : ℕ) → a ≢ b → not (a == b) ≡ true
not-equal a b n = on (eqb_tells a b)
  where
    on : ((a == b) ≡ true) × (a ≡ b) ⊎ (((a == b) ≡ false) × (a ≢ b)) → not (a == b) ≡ true
    on (inl t) = absurd (n t.1)
    on (inr t) = rw t.0 refl

not-same : (a : ℕ) → not (a == a) ≡ false
not-same a = on (eqb_tells a a)
  where
    on : ((a == a) ≡ true) × (a ≡ a) ⊎ (((a == a) ≡ false) × (a ≢ a)) → not (a == a) ≡ false
    on (inl t) = rw t.0 refl
    on (inr t) = absurd (t.1 refl)

and-right : (x : Bool) → (x && false) ≡ false
and-right true = refl
and-right false = refl

-- a block that the copy of another one calls bad
pub disowned-at : (holds : Shelf) (bs : List ℕ) (b n : ℕ) (c : Held) → IsIn bs n → holds n ≡ Some c → n ≢ b → calls_bad c.table b ≡ true → is_disowned (listed holds bs) b ≡ true
disowned-at holds bs b n c i at apart bad =
    any-at holds (disowns b) bs n c i at (and_from _ _ (not-equal n b apart) (calls-same c.table b ∙ bad))

pub disowned-never : (holds : Shelf) (bs : List ℕ) (b : ℕ) → ((x : ℕ) (d : Held) → holds x ≡ Some d → x ≢ b → calls_bad d.table b ≡ false) → is_disowned (listed holds bs) b ≡ false
disowned-never holds bs b never = any-none holds (disowns b) bs (λ x d e. on x d e (eqb_tells x b))
  where
    on : (x : ℕ) (d : Held) → holds x ≡ Some d → ((x == b) ≡ true) × (x ≡ b) ⊎ (((x == b) ≡ false) × (x ≢ b)) → disowns b (x, copy_as d) ≡ false
    on x d e (inl t) = rw t.0 refl
    on x d e (inr t) = rw t.0 (calls-same d.table b ∙ never x d e t.1)

pub same-kind : (k : Which) → same_which k k ≡ true
same-kind Primary = refl
same-kind Mirror = refl

pub other-kind : (k : Which) → same_which (other_of k) k ≡ false
other-kind Primary = refl
other-kind Mirror = refl

-- a copy of this kind in a block that no other copy calls bad
pub valid-at : (held : List (ℕ × Copy)) (k : Which) (b : ℕ) (c : Held) → c.which ≡ k → is_disowned held b ≡ false → is_valid held k (b, copy_as c) ≡ true
valid-at held k b c kind owned = rw (kind, same-kind k, owned) refl

pub not-valid-kind : (held : List (ℕ × Copy)) (k : Which) (b : ℕ) (c : Held) → c.which ≡ other_of k → is_valid held k (b, copy_as c) ≡ false
not-valid-kind held k b c kind = rw (kind, other-kind k) refl

pub not-valid-disowned : (held : List (ℕ × Copy)) (k : Which) (b : ℕ) (c : Held) → is_disowned held b ≡ true → is_valid held k (b, copy_as c) ≡ false
not-valid-disowned held k b c bad = rw bad (and-right (same_which c.which k))

-- the pages of these blocks as a quiet read sees them
pub record SeenPage (g : Geometry) (is_good : ℕ → Bool) (holds : Shelf) (b : ℕ) (cells : List ℕ) : Type 0 where
  pub marker : (marker_byte g cells == 0xff) ≡ is_good b
  pub copy : is_good b ≡ true → copy_in g cells ≡ copy_of (holds b)

abbrev pub SeenPages : Geometry → (ℕ → Bool) → Shelf → List ℕ → List (List ℕ) → Type 0
SeenPages g is_good holds [] [] = ⊤
SeenPages g is_good holds (b ∷ bs) (cells ∷ pages) = SeenPage g is_good holds b cells × SeenPages g is_good holds bs pages
SeenPages g is_good holds _ _ = ⊥

abbrev has_good_marker : Geometry → (ℕ × List ℕ) → Bool
has_good_marker g c = marker_byte g c.1 == 0xff

module _ (g : Geometry) (is_good : ℕ → Bool) (holds : Shelf) (good_ones : (b : ℕ) → is_good b ≡ false → holds b ≡ None) where
  listed-one : (b : ℕ) (x : List ℕ) (zs : List (ℕ × List ℕ)) (bs : List ℕ) (t : Bool) → is_good b ≡ t → SeenPage g is_good holds b x
      → copies_held g (filter (has_good_marker g) zs) ≡ listed holds bs → copies_held g (filter (has_good_marker g) ((b, x) ∷ zs)) ≡ listed holds (b ∷ bs)
  listed-one b x zs bs true e h later = rw (h.marker, e) (ap (λ o. with_copy b o (copies_held g (filter (has_good_marker g) zs))) (h.copy e) ∙ ap (with_copy b (copy_of (holds b))) later)
  listed-one b x zs bs false e h later = rw (h.marker, e, good_ones b e) later

  -- the copies held are those of the shelf
  pub listed-seen : (bs : List ℕ) (pages : List (List ℕ)) → SeenPages g is_good holds bs pages → copies_held g (filter (has_good_marker g) (zip bs pages)) ≡ listed holds bs
  listed-seen [] [] h = refl
  listed-seen [] (x ∷ xs) h = absurd h
  listed-seen (b ∷ bs) [] h = absurd h
  listed-seen (b ∷ bs) (x ∷ xs) h = listed-one b x (zip bs xs) bs (is_good b) refl h.0 (listed-seen bs xs h.1)

  blocks-one : (b : ℕ) (x : List ℕ) (zs : List (ℕ × List ℕ)) (bs : List ℕ) (t : Bool) → is_good b ≡ t → SeenPage g is_good holds b x
      → map (λ (c : ℕ × List ℕ). c.0) (filter (has_good_marker g) zs) ≡ filter is_good bs → map (λ (c : ℕ × List ℕ). c.0) (filter (has_good_marker g) ((b, x) ∷ zs)) ≡ filter is_good (b ∷ bs)
  blocks-one b x zs bs true e h later = rw (h.marker, e) (ap (λ (l : List ℕ). b ∷ l) later)
  blocks-one b x zs bs false e h later = rw (h.marker, e) later

  -- and the candidates are the good ones of the blocks
  pub blocks-seen : (bs : List ℕ) (pages : List (List ℕ)) → SeenPages g is_good holds bs pages → map (λ (c : ℕ × List ℕ). c.0) (filter (has_good_marker g) (zip bs pages)) ≡ filter is_good bs
  blocks-seen [] [] h = refl
  blocks-seen [] (x ∷ xs) h = absurd h
  blocks-seen (b ∷ bs) [] h = absurd h
  blocks-seen (b ∷ bs) (x ∷ xs) h = blocks-one b x (zip bs xs) bs (is_good b) refl h.0 (blocks-seen bs xs h.1)
