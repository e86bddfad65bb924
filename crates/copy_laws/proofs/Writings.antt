-- A writing ends with two whole copies, or it has failed for one of them: the block in its place
-- failed, and none of the last four was left.
use Rattle.std.proofs.Common.{◌≡◌, ◌≢◌, ◌⊎◌, inl, inr, ◌≤◌, ◌+◌, ◌*◌, ◌==◌, ◌&&◌, not, ℕ, zero, suc, Bool, true, false, List, [], ◌∷◌, length, Option, Some, None, refl, ap, sym, ◌∙◌, subst, arith, slice_index, slice_set, bit_or, bit_and}
use Rattle.std.proofs.lemmas.Bool.{and_from, and_parts, eq-eqb, eqb-true, false_from_ne_true, false≢true}
use Rattle.std.proofs.lemmas.Bool.Decides.{eqb_tells}
use Rattle.std.proofs.lemmas.Nat.{and_or_self}
use Rattle.nand_model.specs.Sizes.{first_page}
use Rattle.nand_model.specs.Table.{table_blocks}
use Rattle.nand_model.specs.Path.{Answer, Path, is_good}
use Rattle.nand_model.specs.declared.geometry.Geometry.{Geometry}
use Rattle.nand_model.specs.declared.words.Which.{Which}
use Rattle.nand_model.specs.declared.words.Which.TheVariants.{Primary, Mirror}
use Rattle.chip_paths.specs.Writing.{Places, WholeCopies, Writing, after_event, after_good, count_if, event_once, is_whole, marked, most_events, moved, next_place, other_of, place_of, whole_count, with_place, with_retired, with_whole, writing_after, writing_of, writing_path, writing_step, writing_within, written_by}
use Rattle.page_laws.specs.Keeping.{IsIn}
use Rattle.relocation_laws.proofs.Tables.{find-in, set-other}
use Rattle.copy_laws.proofs.Counting.{count, count_less, count_no_more, count_none, count_without_two}
use Rattle.copy_laws.proofs.Sound.{AreAmong, Failing, IsTold, Sound}

-- a copy is still to be written
abbrev pub IsLeft : List Which → Which → Type 0
IsLeft [] q = ⊥
IsLeft (which ∷ more) q = (q ≡ which) ⊎ IsLeft more q

-- ---- the one kind of copy and the other
pub is_kind : (which q : Which) → (q ≡ which) ⊎ (q ≡ other_of which)
is_kind Primary Primary = inl refl
is_kind Primary Mirror = inr refl
is_kind Mirror Primary = inr refl
is_kind Mirror Mirror = inl refl

whole_own : (whole : WholeCopies) (which : Which) (t : Bool) → is_whole (with_whole whole which t) which ≡ t
whole_own whole Primary t = refl
whole_own whole Mirror t = refl

whole_other : (whole : WholeCopies) (which : Which) (t : Bool) → is_whole (with_whole whole which t) (other_of which) ≡ is_whole whole (other_of which)
whole_other whole Primary t = refl
whole_other whole Mirror t = refl

place_own : (places : Places) (which : Which) (block : ℕ) → place_of (with_place places which block) which ≡ block
place_own places Primary block = refl
place_own places Mirror block = refl

place_other : (places : Places) (which : Which) (block : ℕ) → place_of (with_place places which block) (other_of which) ≡ place_of places (other_of which)
place_other places Primary block = refl
place_other places Mirror block = refl

-- the places differ, whichever is named first
apart_from : (places : Places) (which : Which) → place_of places which ≢ place_of places (other_of which) → places.primary ≢ places.mirror
apart_from places Primary apart e = apart e
apart_from places Mirror apart e = apart (sym e)

-- ---- entries
set_own_or : (table : List ℕ) (b v : ℕ) → (slice_index (slice_set table b v) b ≡ v) ⊎ (slice_index (slice_set table b v) b ≡ 0)
set_own_or [] b v = inr refl
set_own_or (x ∷ xs) zero v = inl refl
set_own_or (x ∷ xs) (suc b) v = set_own_or xs b v

not_two : (x : ℕ) → bit_or x 1 ≡ 2 → ⊥
not_two x e =
    let one : bit_and 2 1 ≡ 1 = subst (λ y. bit_and y 1 ≡ 1) e (and_or_self 1 x) in
    let none : 0 ≡ 1 = one in
    absurd (omega (arith, none))

pub apart_if : (a b : ℕ) → not (a == b) ≡ true → a ≢ b
apart_if a b h e = false≢true (subst (λ t. not t ≡ true) (eq-eqb a b e) h)

pub if_apart : (a b : ℕ) → a ≢ b → not (a == b) ≡ true
if_apart a b apart = on (eqb_tells a b)
  where
    on : ((a == b) ≡ true) × (a ≡ b) ⊎ (((a == b) ≡ false) × (a ≢ b)) → not (a == b) ≡ true
    on (inl t) = absurd (apart t.1)
    on (inr t) = rw t.0 refl

-- a block whose entry is 2 beside one that was called bad
entry_left : (table : List ℕ) (here x : ℕ) → slice_index (marked table here) x ≡ 2 → (x ≢ here) × (slice_index table x ≡ 2)
entry_left table here x e = on (eqb_tells x here)
  where
    own : (slice_index (marked table here) here ≡ bit_or (slice_index table here) 1) ⊎ (slice_index (marked table here) here ≡ 0) → x ≡ here → ⊥
    own (inl f) same = not_two (slice_index table here) (sym f ∙ ap (slice_index (marked table here)) (sym same) ∙ e)
    own (inr f) same =
        let none : 0 ≡ 2 = sym f ∙ ap (slice_index (marked table here)) (sym same) ∙ e in
        absurd (omega (arith, none))

    on : ((x == here) ≡ true) × (x ≡ here) ⊎ (((x == here) ≡ false) × (x ≢ here)) → (x ≢ here) × (slice_index table x ≡ 2)
    on (inl t) = absurd (own (set_own_or table here (bit_or (slice_index table here) 1)) t.1)
    on (inr t) = (t.1, sym (set-other table here x (bit_or (slice_index table here) 1) t.1) ∙ e)

-- a block that may take the place of one that fails
abbrev pub is_free : List ℕ → Places → ℕ → Bool
is_free table places b = slice_index table b == 2 && (not (b == places.primary) && not (b == places.mirror))

abbrev IsFree : List ℕ → Places → ℕ → Type 0
IsFree table places b = (slice_index table b ≡ 2) × ((q : Which) → b ≢ place_of places q)

free_parts : (table : List ℕ) (places : Places) (b : ℕ) → is_free table places b ≡ true → IsFree table places b
free_parts table places b h = (eqb-true (slice_index table b) 2 all.0, apart)
  where
    all : ((slice_index table b == 2) ≡ true) × ((not (b == places.primary) && not (b == places.mirror)) ≡ true)
    all = and_parts (slice_index table b == 2) (not (b == places.primary) && not (b == places.mirror)) h

    both : (not (b == places.primary) ≡ true) × (not (b == places.mirror) ≡ true)
    both = and_parts (not (b == places.primary)) (not (b == places.mirror)) all.1

    apart : (q : Which) → b ≢ place_of places q
    apart Primary = apart_if b places.primary both.0
    apart Mirror = apart_if b places.mirror both.1

free_from : (table : List ℕ) (places : Places) (b : ℕ) → IsFree table places b → is_free table places b ≡ true
free_from table places b h =
    and_from (slice_index table b == 2) (not (b == places.primary) && not (b == places.mirror)) (eq-eqb (slice_index table b) 2 h.0)
    (and_from (not (b == places.primary)) (not (b == places.mirror)) (if_apart b places.primary (h.1 Primary)) (if_apart b places.mirror (h.1 Mirror)))

-- a place is not free
taken : (table : List ℕ) (places : Places) (q : Which) → is_free table places (place_of places q) ≡ false
taken table places q = false_from_ne_true (is_free table places (place_of places q)) (λ t. (free_parts table places (place_of places q) t).1 q refl)

-- a writing has failed for one of the copies
pub record FailedFor (g : Geometry) (table : List ℕ) (places : Places) (failing : Failing) : Type 0 where
  pub which : Which
  pub place_failed : failing (place_of places which) ≡ true
  pub none_left : next_place g table (place_of places (other_of which)) ≡ None

pub failed_more : (g : Geometry) (table : List ℕ) (places : Places) (x y : Failing) → AreAmong x y → FailedFor g table places x → FailedFor g table places y
failed_more g table places x y among h = record { which = h.which; place_failed = among (place_of places h.which) h.place_failed; none_left = h.none_left }

-- each copy is whole or still to be written; or the writing has failed for one of them
abbrev IsGoing : Writing → Type 0
IsGoing w = (q : Which) → (is_whole w.whole q ≡ true) ⊎ IsLeft w.left q

pub record Underway (g : Geometry) (w : Writing) (failing : Failing) : Type 0 where
  pub inside : (q : Which) → IsIn (table_blocks g) (place_of w.places q)
  pub apart : w.places.primary ≢ w.places.mirror
  pub few : count (is_free w.table w.places) (table_blocks g) ≤ w.chances
  pub standing : IsGoing w ⊎ ((w.left ≡ []) × FailedFor g w.table w.places failing)

-- a writing at its start, of which each copy is whole or to be written
pub underway_start : (g : Geometry) (table : List ℕ) (version : ℕ) (places : Places) (whole : WholeCopies) (left : List Which) (failing : Failing)
    → ((q : Which) → IsIn (table_blocks g) (place_of places q)) → places.primary ≢ places.mirror → ((q : Which) → (is_whole whole q ≡ true) ⊎ IsLeft left q)
    → Underway g (writing_of table version places whole left) failing
underway_start g table version places whole left failing inside apart going =
    let four : length (table_blocks g) ≡ 4 = refl in
    let all = count_without_two (is_free table places) (table_blocks g) places.primary places.mirror (inside Primary) (inside Mirror) apart (taken table places Primary) (taken table places Mirror) in
    record { inside = inside; apart = apart; few = omega (arith, four, all); standing = inl going }

-- a writing that is over
pub underway_over : (g : Geometry) (w : Writing) (failing : Failing) → Underway g w failing → w.left ≡ [] → (whole_count w.whole ≡ 2) ⊎ FailedFor g w.table w.places failing
underway_over g w failing u over = on u.standing
  where
    whole : IsGoing w → (q : Which) → is_whole w.whole q ≡ true
    whole going q = by (going q)
      where
        by : (is_whole w.whole q ≡ true) ⊎ IsLeft w.left q → is_whole w.whole q ≡ true
        by (inl e) = e
        by (inr left) = absurd (subst (λ l. IsLeft l q) over left)

    on : IsGoing w ⊎ ((w.left ≡ []) × FailedFor g w.table w.places failing) → (whole_count w.whole ≡ 2) ⊎ FailedFor g w.table w.places failing
    on (inl going) =
        let one : count_if w.whole.primary ≡ 1 = ap count_if (whole going Primary) in
        let other : count_if w.whole.mirror ≡ 1 = ap count_if (whole going Mirror) in
        inl (omega (arith, one, other))
    on (inr failed) = inr failed.1

-- ---- one event
module _ (g : Geometry) (w : Writing) (which : Which) (more : List Which) (left_is : w.left ≡ which ∷ more) (failing now : Failing) (among : AreAmong failing now) (u : Underway g w failing) where
  abbrev here : ℕ
  here = place_of w.places which

  abbrev there : ℕ
  there = place_of w.places (other_of which)

  going : IsGoing w
  going = on u.standing
    where
      on : IsGoing w ⊎ ((w.left ≡ []) × FailedFor g w.table w.places failing) → IsGoing w
      on (inl h) = h
      on (inr h) = absurd (cc (h.0, left_is))

  is_left : (q : Which) → q ≡ which → IsLeft w.left q
  is_left q e = subst (λ l. IsLeft l q) (sym left_is) (inl e)

  -- the block was erased
  pub erased_well : Underway g (after_good w which more false) now
  erased_well = record { inside = u.inside; apart = u.apart; few = u.few; standing = inl (λ q. on q (is_kind which q)) }
    where
      on : (q : Which) → (q ≡ which) ⊎ (q ≡ other_of which) → (is_whole (with_whole w.whole which false) q ≡ true) ⊎ IsLeft w.left q
      on q (inl e) = inr (is_left q e)
      on q (inr e) = by (going q)
        where
          by : (is_whole w.whole q ≡ true) ⊎ IsLeft w.left q → (is_whole (with_whole w.whole which false) q ≡ true) ⊎ IsLeft w.left q
          by (inl whole) = inl (ap (is_whole (with_whole w.whole which false)) e ∙ whole_other w.whole which false ∙ ap (is_whole w.whole) (sym e) ∙ whole)
          by (inr left) = inr left

  -- the copy was programmed
  pub programmed_well : Underway g (after_good w which more true) now
  programmed_well = record { inside = u.inside; apart = u.apart; few = u.few; standing = inl (λ q. on q (is_kind which q)) }
    where
      own : (q : Which) → q ≡ which → is_whole (with_whole w.whole which true) q ≡ true
      own q e = ap (is_whole (with_whole w.whole which true)) e ∙ whole_own w.whole which true

      on : (q : Which) → (q ≡ which) ⊎ (q ≡ other_of which) → (is_whole (with_whole w.whole which true) q ≡ true) ⊎ IsLeft more q
      on q (inl e) = inl (own q e)
      on q (inr e) = by (going q)
        where
          last : (q ≡ which) ⊎ IsLeft more q → (is_whole (with_whole w.whole which true) q ≡ true) ⊎ IsLeft more q
          last (inl f) = inl (own q f)
          last (inr left) = inr left

          by : (is_whole w.whole q ≡ true) ⊎ IsLeft w.left q → (is_whole (with_whole w.whole which true) q ≡ true) ⊎ IsLeft more q
          by (inl whole) = inl (ap (is_whole (with_whole w.whole which true)) e ∙ whole_other w.whole which true ∙ ap (is_whole w.whole) (sym e) ∙ whole)
          by (inr left) = last (subst (λ l. IsLeft l q) left_is left)

  -- the block has failed
  abbrev table_then : List ℕ
  table_then = marked w.table here

  -- a block that is free then was free before
  was_free : (x : ℕ) (places : Places) → x ≢ place_of w.places (other_of which) → is_free table_then places x ≡ true → is_free w.table w.places x ≡ true
  was_free x places beside h = free_from w.table w.places x (entry.1, λ q. on q (is_kind which q))
    where
      entry : (x ≢ here) × (slice_index w.table x ≡ 2)
      entry = entry_left w.table here x (free_parts table_then places x h).0

      on : (q : Which) → (q ≡ which) ⊎ (q ≡ other_of which) → x ≢ place_of w.places q
      on q (inl e) f = entry.0 (f ∙ ap (place_of w.places) e)
      on q (inr e) f = beside (f ∙ ap (place_of w.places) e)

  -- the block that is found for the copy
  module _ (block : ℕ) (found : next_place g table_then there ≡ Some block) where
    is_next : IsIn (table_blocks g) block × ((slice_index table_then block == 2 && not (block == there)) ≡ true)
    is_next = find-in (λ b. slice_index table_then b == 2 && not (b == there)) (table_blocks g) block found

    parts : ((slice_index table_then block == 2) ≡ true) × (not (block == there) ≡ true)
    parts = and_parts (slice_index table_then block == 2) (not (block == there)) is_next.1

    beside_there : block ≢ there
    beside_there = apart_if block there parts.1

    entry_there : (block ≢ here) × (slice_index w.table block ≡ 2)
    entry_there = entry_left w.table here block (eqb-true (slice_index table_then block) 2 parts.0)

    free_now : is_free w.table w.places block ≡ true
    free_now = free_from w.table w.places block (entry_there.1, λ q. on q (is_kind which q))
      where
        on : (q : Which) → (q ≡ which) ⊎ (q ≡ other_of which) → block ≢ place_of w.places q
        on q (inl e) f = entry_there.0 (f ∙ ap (place_of w.places) e)
        on q (inr e) f = beside_there (f ∙ ap (place_of w.places) e)

    abbrev places_then : Places
    places_then = with_place w.places which block

    inside_then : (q : Which) → IsIn (table_blocks g) (place_of places_then q)
    inside_then q = on (is_kind which q)
      where
        on : (q ≡ which) ⊎ (q ≡ other_of which) → IsIn (table_blocks g) (place_of places_then q)
        on (inl e) = subst (IsIn (table_blocks g)) (sym (ap (place_of places_then) e ∙ place_own w.places which block)) is_next.0
        on (inr e) = subst (IsIn (table_blocks g)) (sym (ap (place_of places_then) e ∙ place_other w.places which block)) (u.inside (other_of which))

    apart_then : places_then.primary ≢ places_then.mirror
    apart_then = apart_from places_then which (λ e. beside_there (sym (place_own w.places which block) ∙ e ∙ place_other w.places which block))

    fewer_then : count (is_free table_then places_then) (table_blocks g) + 1 ≤ count (is_free w.table w.places) (table_blocks g)
    fewer_then =
        count_less (is_free w.table w.places) (is_free table_then places_then) (table_blocks g) block
        (λ x h. was_free x places_then (λ f. (free_parts table_then places_then x h).1 (other_of which) (f ∙ sym (place_other w.places which block))) h)
        is_next.0 free_now (ap (is_free table_then places_then) (sym (place_own w.places which block)) ∙ taken table_then places_then which)

    none_but_here : w.chances ≡ 0 → ⊥
    none_but_here none =
        let few : count (is_free w.table w.places) (table_blocks g) ≤ w.chances = u.few in
        count_none (is_free w.table w.places) (table_blocks g) block (omega (arith, few, none)) is_next.0 free_now

  abbrev retired : Writing
  retired = record w { table = table_then; whole = with_whole w.whole which false; erased = false }

  both_left : (q : Which) → IsLeft (which ∷ other_of which ∷ []) q
  both_left q = on (is_kind which q)
    where
      on : (q ≡ which) ⊎ (q ≡ other_of which) → IsLeft (which ∷ other_of which ∷ []) q
      on (inl e) = inl e
      on (inr e) = inr (inl e)

  pub failed : now here ≡ true → Underway g (with_retired g w which) now
  failed bad = on (next_place g table_then there) refl w.chances refl
    where
      on : (o : Option ℕ) → next_place g table_then there ≡ o → (c : ℕ) → w.chances ≡ c → Underway g (moved retired which o c) now
      on None found c is = record {
        inside = u.inside;
        apart = u.apart;
        few =
            let fewer = count_no_more (is_free w.table w.places) (is_free table_then w.places) (table_blocks g) (λ x h. was_free x w.places ((free_parts table_then w.places x h).1 (other_of which)) h) in
            let few : count (is_free w.table w.places) (table_blocks g) ≤ w.chances = u.few in
            omega (arith, fewer, few);
        standing = inr (refl, record { which = which; place_failed = bad; none_left = found });
      }
      on (Some block) found zero is = absurd (none_but_here block found is)
      on (Some block) found (suc c) is = record {
        inside = inside_then block found;
        apart = apart_then block found;
        few =
            let fewer = fewer_then block found in
            let few : count (is_free w.table w.places) (table_blocks g) ≤ w.chances = u.few in
            omega (arith, fewer, few, is);
        standing = inl (λ q. inr (both_left q));
      }

-- ---- a whole writing
count_if_le : (b : Bool) → count_if b ≤ 1
count_if_le true = omega arith
count_if_le false = omega arith

module _ {A : Type 0} (g : Geometry) (Ends : A → Failing → Type 0) (go_on : Writing → Path A)
    (ends : (w : Writing) (failing : Failing) → Underway g w failing → w.left ≡ [] → Sound g Ends (go_on w) failing) where
  -- the events that are left at most
  abbrev Within : ℕ → Writing → Type 0
  Within n w = 2 * length w.left + 4 * w.chances ≤ n + count_if w.erased

  module _ (n : ℕ) (w : Writing) (failing : Failing) (within : Within (suc n) w) (u : Underway g w failing) (which : Which) (more : List Which) (left_is : w.left ≡ which ∷ more)
      (answer : Answer) (now : Failing) (among : AreAmong failing now) where
    abbrev Next : Writing → Type 0
    Next v = Within n v × Underway g v now

    within_moved : (v : Writing) (o : Option ℕ) (c : ℕ) → v.chances ≡ w.chances → w.chances ≡ c → v.erased ≡ false → Within n (moved v which o c)
    within_moved v None c same e lit = omega (arith, within, count_if_le w.erased, ap (λ (l : List Which). length l) left_is, same)
    within_moved v (Some b) zero same e lit = omega (arith, within, count_if_le w.erased, ap (λ (l : List Which). length l) left_is, same)
    within_moved v (Some b) (suc c) same e lit = omega (arith, within, count_if_le w.erased, ap (λ (l : List Which). length l) left_is, same, e)

    after_good_one : (erased : Bool) → w.erased ≡ erased → Next (after_good w which more erased)
    after_good_one false e = (omega (arith, within, ap count_if e), erased_well g w which more left_is failing now among u)
    after_good_one true e = (
      omega (arith, within, count_if_le w.erased, ap (λ (l : List Which). length l) left_is),
      programmed_well g w which more left_is failing now among u,
    )

    here_failed : (erased : Bool) → IsTold g (event_once erased g w which) answer now → is_good answer ≡ false → now (place_of w.places which) ≡ true
    here_failed false told bad = told bad (place_of w.places which) (eq-eqb (place_of w.places which) (place_of w.places which) refl)
    here_failed true told bad = told bad (place_of w.places which) (eq-eqb (first_page g (place_of w.places which)) (first_page g (place_of w.places which)) refl)

    after_one : (good : Bool) → is_good answer ≡ good → IsTold g (event_once w.erased g w which) answer now → Next (after_event g w which more good)
    after_one true e told = after_good_one w.erased refl
    after_one false e told = (
      within_moved (record w { table = marked w.table (place_of w.places which); whole = with_whole w.whole which false; erased = false })
          (next_place g (marked w.table (place_of w.places which)) (place_of w.places (other_of which))) w.chances refl refl refl,
      failed g w which more left_is failing now among u (here_failed w.erased told e),
    )

    next_one : IsTold g (event_once w.erased g w which) answer now → Next (writing_after g w answer)
    next_one told = subst (λ l. Next (written_by g w l (is_good answer))) (sym left_is) (after_one (is_good answer) refl told)

  within_sound : (n : ℕ) (w : Writing) (failing : Failing) → Within n w → Underway g w failing → Sound g Ends (writing_within n g w go_on) failing
  within_sound zero w failing within u = on w.left refl
    where
      on : (l : List Which) → w.left ≡ l → Sound g Ends (go_on w) failing
      on [] e = ends w failing u e
      on (which ∷ more) e = absurd (omega (arith, within, count_if_le w.erased, ap (λ (l : List Which). length l) e))
  within_sound (suc n) w failing within u = on (within_sound n) w.left refl
    where
      on : ((w : Writing) (failing : Failing) → Within n w → Underway g w failing → Sound g Ends (writing_within n g w go_on) failing) → (l : List Which) → w.left ≡ l
          → Sound g Ends (writing_step g w l (λ z. go_on w) (λ answer. writing_within n g (writing_after g w answer) go_on)) failing
      on later [] e = ends w failing u e
      on later (which ∷ more) e = λ answer now among told.
          let next = next_one n w failing within u which more e answer now among told in
          later (writing_after g w answer) now next.0 next.1

  pub writing_sound : (w : Writing) (failing : Failing) → Underway g w failing → Sound g Ends (writing_path g w go_on) failing
  writing_sound w failing u = within_sound (most_events w) w failing (omega arith) u
