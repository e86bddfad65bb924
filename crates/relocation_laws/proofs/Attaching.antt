-- The writing of an attach, from what it found, goes along and ends with a table that shows what it
-- should.
use Rattle.std.proofs.Common.{◌≡◌, ◌≢◌, ◌⊎◌, ℕ, zero, suc, ◌<◌, ◌≤◌, Bool, true, false, ◌&&◌, not, ◌==◌, List, [], ◌∷◌, filter, find, refl, ap, sym, ◌∙◌, arith, inl, inr, subst, Option, Some, None, true≢false, unwrap_or}
use Rattle.std.specs.Prelude.{⊤}
use Rattle.std.proofs.lemmas.Bool.{and_parts, and_from, false≢true}
use Rattle.std.proofs.lemmas.Bool.Decides.{eqb_tells}
use Rattle.nand_model.specs.Table.{Copy, table_blocks, calls_bad, read_again}
use Rattle.nand_model.specs.Path.{Path, Over}
use Rattle.chip_paths.specs.Writing.{Places, place_of, Writing, WholeCopies, is_whole, whole_count, other_of, writing_of, writing_path}
use Rattle.chip_paths.specs.Attach.{Attaching, with_reserved, whole_at_first, attaching_of, rewrite_copies, use_copy, use_found}
use Rattle.chip_paths.specs.Copies.{is_other, choice_of, used_copy, rewritten, first_other, found_among, found_calls_bad, places_for}
use Rattle.nand_model.specs.declared.geometry.Geometry.{Geometry}
use Rattle.nand_model.specs.declared.words.Which.{Which}
use Rattle.nand_model.specs.declared.words.Which.TheVariants.{Primary, Mirror}
use Rattle.nand_model.specs.declared.words.Choice.{Choice}
use Rattle.nand_model.specs.declared.words.Choice.TheVariants.{Primary as UsePrimary, Mirror as UseMirror, Neither}
use Rattle.relocation_laws.specs.Shelves.{Held, Shelf, with_held, TableLaws, IsBeneath, Newest, Rests, HoldsBoth, Ended, Keeps}
use Rattle.relocation_laws.specs.Goes.{Goes}
use Rattle.page_laws.specs.Keeping.{IsIn}
use Rattle.relocation_laws.specs.Tables.{IsTable, IsTableBlock}
use Rattle.relocation_laws.proofs.Induction.{each-kind}
use Rattle.relocation_laws.proofs.Going.{goes-along}
use Rattle.relocation_laws.specs.Agreement.{copy_as, listed}
use Rattle.relocation_laws.proofs.Finding.{calls-same}
use Rattle.relocation_laws.proofs.Seeing.{found-newest, found-second, Alone, Two}
use Rattle.relocation_laws.proofs.Choosing.{choice-same, choice-newer, choice-older}
use Rattle.relocation_laws.proofs.Starting.{start-beside, both-rest}

pub find-some : (test : ℕ → Bool) (xs : List ℕ) (s : ℕ) → IsIn xs s → test s ≡ true → (x : ℕ) × (find test xs ≡ Some x) × IsIn xs x × (test x ≡ true)
find-some test [] s i h = absurd i
find-some test (x ∷ xs) s i h = on (test x) refl i (λ j. find-some test xs s j h)
  where
    on : (t : Bool) → test x ≡ t → (s ≡ x) ⊎ IsIn xs s → (IsIn xs s → (y : ℕ) × (find test xs ≡ Some y) × IsIn xs y × (test y ≡ true))
        → (y : ℕ) × (find test (x ∷ xs) ≡ Some y) × IsIn (x ∷ xs) y × (test y ≡ true)
    on true e j later = (x, rw e refl, inl refl, e)
    on false e (inl j) later = absurd (true≢false (sym h ∙ ap test j ∙ e))
    on false e (inr j) later = let r = later j in (r.0, rw e r.1, inr r.2, r.3)

pub in-good : (is_good : ℕ → Bool) (bs : List ℕ) (b : ℕ) → IsIn bs b → is_good b ≡ true → IsIn (filter is_good bs) b
in-good is_good [] b i h = absurd i
in-good is_good (x ∷ bs) b i h = on (is_good x) refl i (λ j. in-good is_good bs b j h)
  where
    on : (t : Bool) → is_good x ≡ t → (b ≡ x) ⊎ IsIn bs b → (IsIn bs b → IsIn (filter is_good bs) b) → IsIn (filter is_good (x ∷ bs)) b
    on true e (inl j) later = rw e (inl j)
    on true e (inr j) later = rw e (inr (later j))
    on false e (inl j) later = absurd (true≢false (sym h ∙ ap is_good j ∙ e))
    on false e (inr j) later = rw e (later j)

pub good-in : (is_good : ℕ → Bool) (bs : List ℕ) (b : ℕ) → IsIn (filter is_good bs) b → IsIn bs b × (is_good b ≡ true)
good-in is_good [] b i = absurd i
good-in is_good (x ∷ bs) b i = on (is_good x) refl (good-in is_good bs b) i
  where
    on : (t : Bool) → is_good x ≡ t → (IsIn (filter is_good bs) b → IsIn bs b × (is_good b ≡ true)) → IsIn (filter is_good (x ∷ bs)) b → IsIn (x ∷ bs) b × (is_good b ≡ true)
    on true e later j = by (rw e at j)
      where
        by : (b ≡ x) ⊎ IsIn (filter is_good bs) b → IsIn (x ∷ bs) b × (is_good b ≡ true)
        by (inl q) = (inl q, ap is_good q ∙ e)
        by (inr q) = let r = later q in (inr r.0, r.1)
    on false e later j = let r = later (rw e at j) in (inr r.0, r.1)

pub few-whole : (whole : WholeCopies) (k : Which) → is_whole whole k ≡ false → whole_count whole ≤ 1
few-whole whole Primary e = by whole.primary whole.mirror e
  where
    by : (p m : Bool) → p ≡ false → whole_count (record { primary = p; mirror = m }) ≤ 1
    by true m e = absurd (true≢false e)
    by false true e = omega arith
    by false false e = omega arith
few-whole whole Mirror e = by whole.primary whole.mirror e
  where
    by : (p m : Bool) → m ≡ false → whole_count (record { primary = p; mirror = m }) ≤ 1
    by p true e = absurd (true≢false e)
    by true false e = omega arith
    by false false e = omega arith

not-equal : (a b : ℕ) → a ≢ b → not (a == b) ≡ true
not-equal a b n = on (eqb_tells a b)
  where
    on : ((a == b) ≡ true) × (a ≡ b) ⊎ (((a == b) ≡ false) × (a ≢ b)) → not (a == b) ≡ true
    on (inl t) = absurd (n t.1)
    on (inr t) = rw t.0 refl

unequal : (a b : ℕ) → not (a == b) ≡ true → b ≢ a
unequal a b h e = on (eqb_tells a b)
  where
    on : ((a == b) ≡ true) × (a ≡ b) ⊎ (((a == b) ≡ false) × (a ≢ b)) → ⊥
    on (inl t) = false≢true (rw t.0 at h)
    on (inr t) = t.1 (sym e)

not-false : (t : Bool) → t ≡ false → not t ≡ true
not-false t e = rw e refl

was-false : (t : Bool) → not t ≡ true → t ≡ false
was-false true h = absurd (false≢true h)
was-false false h = refl

-- an attach that is over: its table shows what it should, and two whole copies hold it
pub record IsAttached (g : Geometry) (TB : ℕ → Type 0) (Good : List ℕ → Type 0) (Fresh : Type 0) (a : Attaching) (h : Shelf) : Type 0 where
  pub shows : Good a.table
  pub form : IsTable g a.table
  pub rests : Rests TB (IsTable g) Good Fresh h
  pub both : 2 ≤ a.copies → HoldsBoth TB (IsTable g) Good Fresh a.table a.version a.places h

module _ (g : Geometry) (is_good : ℕ → Bool) (Fails : ℕ → Type 0) (Good : List ℕ → Type 0) (Fresh : Type 0) (laws : TableLaws g (IsTableBlock g is_good) Fails (IsTable g) Good) where
  abbrev TB : ℕ → Type 0
  TB = IsTableBlock g is_good

  abbrev blocks : List ℕ
  blocks = filter is_good (table_blocks g)

  abbrev Along : Shelf → Path Attaching → Type 0
  Along h path = Goes g TB Fails (IsTable g) (Rests TB (IsTable g) Good Fresh) (IsAttached g TB Good Fresh) None h path

  attach-ends : (choice : Choice) (w : Writing) (h : Shelf) → Keeps TB (IsTable g) Good Fresh w [] h → IsAttached g TB Good Fresh (attaching_of choice w) h
  attach-ends choice w h k = on w.failed k
    where
      on : (f : Option Which) → Ended TB (IsTable g) Good Fresh w f h → IsAttached g TB Good Fresh (attaching_of choice w) h
      on None e = record { shows = e.0.writable.shows; form = e.0.writable.form; rests = inr (both-rest TB (IsTable g) Good Fresh w.table w.version w.places h e.0); both = λ two. e.0 }
      on (Some which) e = record { shows = e.2; form = e.3; rests = e.0; both = λ two. absurd (omega (arith, two, few-whole w.whole which e.1)) }

  -- the writing that a choice leads to
  pub rewrite-goes : (h : Shelf) (places : Places) (choice : Choice) (version : ℕ) (states table : List ℕ) → with_reserved g states ≡ table
      → Keeps TB (IsTable g) Good Fresh (writing_of table version places (whole_at_first choice) (rewritten choice)) (rewritten choice) h → Along h (rewrite_copies g places choice version states)
  rewrite-goes h places choice version states table e keeps =
      subst (λ t. Along h (writing_path g (writing_of t version places (whole_at_first choice) (rewritten choice)) (λ w. Over (attaching_of choice w)))) (sym e)
      (goes-along g TB Fails (IsTable g) Good Fresh laws (IsAttached g TB Good Fresh) (λ w. Over (attaching_of choice w)) (λ w. ⊤) (λ w good u. tt) (λ fresh w y u k. attach-ends choice w y k)
      (writing_of table version places (whole_at_first choice) (rewritten choice)) h refl tt keeps)

  module _ (h : Shelf) (j : Newest TB (IsTable g) Good h) where
    abbrev newest : Held
    newest = j.copy

    abbrev n : ℕ
    n = j.place

    beneath : IsBeneath TB (IsTable g) Good newest.table n newest
    beneath = j.beneath n newest j.at

    -- a block for the copy that was not found
    free-block : (test : ℕ → Bool) → ((b : ℕ) → b ≢ n → calls_bad newest.table b ≡ false → test b ≡ true) → ((b : ℕ) → test b ≡ true → (b ≢ n) × (calls_bad newest.table b ≡ false))
        → (x : ℕ) × (find test blocks ≡ Some x) × TB x × (x ≢ n) × (calls_bad newest.table x ≡ false)
    free-block test passes tells =
        let r = find-some test blocks j.spare (in-good is_good (table_blocks g) j.spare j.spare_inside.0 j.spare_inside.1) (passes j.spare j.spare_apart j.spare_free) in
        (r.0, r.1, good-in is_good (table_blocks g) r.0 r.2, (tells r.0 r.3).0, (tells r.0 r.3).1)

    abbrev seen : Option (ℕ × Copy)
    seen = Some (n, copy_as newest)

    beside-primary : (b : ℕ) → b ≢ n → calls_bad newest.table b ≡ false → ((is_other (Some n) b && not (found_calls_bad seen b)) && not (found_calls_bad None b)) ≡ true
    beside-primary b apart free = and_from _ _ (and_from _ _ (not-equal n b (λ e. apart (sym e))) (not-false _ (calls-same newest.table b ∙ free))) refl

    tells-primary : (b : ℕ) → ((is_other (Some n) b && not (found_calls_bad seen b)) && not (found_calls_bad None b)) ≡ true → (b ≢ n) × (calls_bad newest.table b ≡ false)
    tells-primary b e =
        let all = and_parts (is_other (Some n) b && not (found_calls_bad seen b)) true e in
        let two = and_parts (is_other (Some n) b) (not (found_calls_bad seen b)) all.0 in
        (unequal n b two.0, sym (calls-same newest.table b) ∙ was-false _ two.1)

    beside-mirror : (b : ℕ) → b ≢ n → calls_bad newest.table b ≡ false → ((is_other (Some n) b && not (found_calls_bad None b)) && not (found_calls_bad seen b)) ≡ true
    beside-mirror b apart free = and_from _ _ (and_from _ _ (not-equal n b (λ e. apart (sym e))) refl) (not-false _ (calls-same newest.table b ∙ free))

    tells-mirror : (b : ℕ) → ((is_other (Some n) b && not (found_calls_bad None b)) && not (found_calls_bad seen b)) ≡ true → (b ≢ n) × (calls_bad newest.table b ≡ false)
    tells-mirror b e =
        let all = and_parts (is_other (Some n) b && true) (not (found_calls_bad seen b)) e in
        let two = and_parts (is_other (Some n) b) true all.0 in
        (unequal n b two.0, sym (calls-same newest.table b) ∙ was-false _ all.1)

    abbrev Found : Option (ℕ × Copy) → Option (ℕ × Copy) → Type 0
    Found primary mirror = Along h (use_found g (places_for g blocks primary mirror) primary mirror)

    primary-alone : newest.which ≡ Primary → ((b : ℕ) (c : Held) → h b ≡ Some c → b ≢ n → calls_bad newest.table b ≡ true) → Found seen None
    primary-alone kind rest =
        rewrite-goes h (places_for g blocks seen None) (UsePrimary true) newest.version (read_again newest.table) newest.table beneath.form.back
        (start-beside TB (IsTable g) Good Fresh h j Primary r.0 (places_for g blocks seen None) (whole_at_first (UsePrimary true)) kind refl at_x refl r.2 r.3 r.4 (λ b c e m q. rest b c e m))
      where
        r : (x : ℕ) × (find (λ block. is_other (Some n) block && not (found_calls_bad seen block) && not (found_calls_bad None block)) blocks ≡ Some x) × TB x × (x ≢ n) × (calls_bad newest.table x ≡ false)
        r = free-block (λ block. is_other (Some n) block && not (found_calls_bad seen block) && not (found_calls_bad None block)) beside-primary tells-primary

        at_x : place_of (places_for g blocks seen None) Mirror ≡ r.0
        at_x = ap (λ (o : Option ℕ). unwrap_or o (unwrap_or (first_other (Some n) (table_blocks g)) 0)) r.1

    mirror-alone : newest.which ≡ Mirror → ((b : ℕ) (c : Held) → h b ≡ Some c → b ≢ n → calls_bad newest.table b ≡ true) → Found None seen
    mirror-alone kind rest =
        rewrite-goes h (places_for g blocks None seen) (UseMirror true) newest.version (read_again newest.table) newest.table beneath.form.back
        (start-beside TB (IsTable g) Good Fresh h j Mirror r.0 (places_for g blocks None seen) (whole_at_first (UseMirror true)) kind refl at_x refl r.2 r.3 r.4 (λ b c e m q. rest b c e m))
      where
        r : (x : ℕ) × (find (λ block. is_other (Some n) block && not (found_calls_bad None block) && not (found_calls_bad seen block)) blocks ≡ Some x) × TB x × (x ≢ n) × (calls_bad newest.table x ≡ false)
        r = free-block (λ block. is_other (Some n) block && not (found_calls_bad None block) && not (found_calls_bad seen block)) beside-mirror tells-mirror

        at_x : place_of (places_for g blocks None seen) Primary ≡ r.0
        at_x = ap (λ (o : Option ℕ). unwrap_or o (unwrap_or (first_other (Some n) (table_blocks g)) 0)) r.1

    both-held : (k : Which) (places : Places) (m : ℕ) (older : Held) → place_of places k ≡ n → place_of places (other_of k) ≡ m → newest.which ≡ k → older.which ≡ other_of k
        → older.version ≡ newest.version → older.table ≡ newest.table → h m ≡ Some older → m ≢ n → calls_bad newest.table m ≡ false
        → ((b : ℕ) (c : Held) → h b ≡ Some c → b ≢ n → b ≢ m → calls_bad newest.table b ≡ true) → HoldsBoth TB (IsTable g) Good Fresh newest.table newest.version places h
    both-held k places m older at_n at_m kind other version table at apart free rest =
        record {
          writable = record { byte = beneath.version; form = beneath.form; shows = j.shows };
          fit = record {
            inside = each-kind (λ q. TB (place_of places q)) k (subst TB (sym at_n) beneath.inside) (subst TB (sym at_m) (j.beneath m older at).inside);
            free = each-kind (λ q. calls_bad newest.table (place_of places q) ≡ false) k (ap (calls_bad newest.table) at_n ∙ j.own) (ap (calls_bad newest.table) at_m ∙ free);
            apart = apart-places;
          };
          at = each-kind (λ q. h (place_of places q) ≡ Some (record { which = q; version = newest.version; table = newest.table })) k
              (ap h at_n ∙ j.at ∙ ap (λ (q : Which). as_some (record { which = q; version = newest.version; table = newest.table })) kind)
              (ap h at_m ∙ at ∙ same-older older other version table);
          beneath = j.beneath;
          others = λ b c e p q. rest b c e (far k places at_n b p q) (far (other_of k) places at_m b p q);
        }
      where
        as_some : Held → Option Held
        as_some c = Some c

        same-older : (older : Held) → older.which ≡ other_of k → older.version ≡ newest.version → older.table ≡ newest.table
            → Some older ≡ Some (record { which = other_of k; version = newest.version; table = newest.table })
        same-older older e v t =
            ap (λ (q : Which). as_some (record { which = q; version = older.version; table = older.table })) e
            ∙ ap (λ (q : ℕ). as_some (record { which = other_of k; version = q; table = older.table })) v
            ∙ ap (λ (q : List ℕ). as_some (record { which = other_of k; version = newest.version; table = q })) t

        apart-places : (q : Which) → place_of places q ≢ place_of places (other_of q)
        apart-places = by k at_n at_m
          where
            by : (k : Which) → place_of places k ≡ n → place_of places (other_of k) ≡ m → (q : Which) → place_of places q ≢ place_of places (other_of q)
            by Primary a b Primary e = apart (sym b ∙ sym e ∙ a)
            by Primary a b Mirror e = apart (sym b ∙ e ∙ a)
            by Mirror a b Primary e = apart (sym b ∙ e ∙ a)
            by Mirror a b Mirror e = apart (sym b ∙ sym e ∙ a)

        far : (q : Which) (places : Places) {y : ℕ} → place_of places q ≡ y → (b : ℕ) → b ≢ places.primary → b ≢ places.mirror → b ≢ y
        far Primary places e b p r s = p (s ∙ sym e)
        far Mirror places e b p r s = r (s ∙ sym e)

    module _ (t : Two g is_good Good h j) where
      abbrev seen_older : Option (ℕ × Copy)
      seen_older = Some (t.m, copy_as t.older)

      older-byte : t.older.version < 256
      older-byte = (j.beneath t.m t.older t.at).version

      same-version : t.is_older.steps ≡ 0 → t.older.version ≡ newest.version
      same-version e = omega (arith, older-byte, t.is_older.version, e)

      all-whole : (q : Which) → is_whole (record { primary = true; mirror = true }) q ≡ true
      all-whole Primary = refl
      all-whole Mirror = refl

      primary-two : newest.which ≡ Primary → (s : ℕ) → t.is_older.steps ≡ s → Found seen seen_older
      primary-two kind zero e =
          subst (λ ch. Along h (use_copy g (places_for g blocks seen seen_older) ch (used_copy ch seen seen_older))) (sym (ap (λ v. choice_of (Some v) (Some t.older.version)) (sym (same-version e)) ∙ choice-same t.older.version))
          (rewrite-goes h (places_for g blocks seen seen_older) (UsePrimary false) newest.version (read_again newest.table) newest.table beneath.form.back
          (both-held Primary (places_for g blocks seen seen_older) t.m t.older refl refl kind (t.kind_is ∙ ap other_of kind) (same-version e) (t.is_older.same e) t.at t.apart t.free t.rest, all-whole))
      primary-two kind (suc s) e =
          subst (λ ch. Along h (use_copy g (places_for g blocks seen seen_older) ch (used_copy ch seen seen_older)))
          (sym (ap (λ v. choice_of (Some v) (Some t.older.version)) t.is_older.version ∙ choice-newer t.older.version t.is_older.steps older-byte (omega (arith, e)) t.is_older.few))
          (rewrite-goes h (places_for g blocks seen seen_older) (UsePrimary true) newest.version (read_again newest.table) newest.table beneath.form.back
          (start-beside TB (IsTable g) Good Fresh h j Primary t.m (places_for g blocks seen seen_older) (whole_at_first (UsePrimary true)) kind refl refl refl (j.beneath t.m t.older t.at).inside t.apart t.free t.rest))

      mirror-two : newest.which ≡ Mirror → (s : ℕ) → t.is_older.steps ≡ s → Found seen_older seen
      mirror-two kind zero e =
          subst (λ ch. Along h (use_copy g (places_for g blocks seen_older seen) ch (used_copy ch seen_older seen))) (sym (ap (λ v. choice_of (Some t.older.version) (Some v)) (sym (same-version e)) ∙ choice-same t.older.version))
          (rewrite-goes h (places_for g blocks seen_older seen) (UsePrimary false) t.older.version (read_again t.older.table) newest.table (ap (λ q. with_reserved g (read_again q)) (t.is_older.same e) ∙ beneath.form.back) (
            subst (λ v. HoldsBoth TB (IsTable g) Good Fresh newest.table v (places_for g blocks seen_older seen) h) (sym (same-version e))
                (both-held Mirror (places_for g blocks seen_older seen) t.m t.older refl refl kind (t.kind_is ∙ ap other_of kind) (same-version e) (t.is_older.same e) t.at t.apart t.free t.rest),
            all-whole,
          ))
      mirror-two kind (suc s) e =
          subst (λ ch. Along h (use_copy g (places_for g blocks seen_older seen) ch (used_copy ch seen_older seen)))
          (sym (ap (λ v. choice_of (Some t.older.version) (Some v)) t.is_older.version ∙ choice-older t.older.version t.is_older.steps older-byte (omega (arith, e)) t.is_older.few))
          (rewrite-goes h (places_for g blocks seen_older seen) (UseMirror true) newest.version (read_again newest.table) newest.table beneath.form.back
          (start-beside TB (IsTable g) Good Fresh h j Mirror t.m (places_for g blocks seen_older seen) (whole_at_first (UseMirror true)) kind refl refl refl (j.beneath t.m t.older t.at).inside t.apart t.free t.rest))

    -- the attach goes along, whatever it finds beside the newest copy
    pub found-goes : Found (found_among (listed h (table_blocks g)) Primary) (found_among (listed h (table_blocks g)) Mirror)
    found-goes = on newest.which refl (found-second g is_good Good h j)
      where
        held : List (ℕ × Copy)
        held = listed h (table_blocks g)

        own : (k : Which) → newest.which ≡ k → found_among held k ≡ seen
        own k e = subst (λ q. found_among held q ≡ seen) e (found-newest g is_good Good h j)

        with : (primary mirror : Option (ℕ × Copy)) → found_among held Primary ≡ primary → found_among held Mirror ≡ mirror → Found primary mirror → Found (found_among held Primary) (found_among held Mirror)
        with primary mirror e f goes = subst (λ p. Found p (found_among held Mirror)) (sym e) (subst (λ m. Found primary m) (sym f) goes)

        on : (k : Which) → newest.which ≡ k → Alone g is_good Good h j ⊎ Two g is_good Good h j → Found (found_among held Primary) (found_among held Mirror)
        on Primary e (inl a) = with seen None (own Primary e) (subst (λ q. found_among held (other_of q) ≡ None) e a.none) (primary-alone e a.rest)
        on Mirror e (inl a) = with None seen (subst (λ q. found_among held (other_of q) ≡ None) e a.none) (own Mirror e) (mirror-alone e a.rest)
        on Primary e (inr t) =
            with seen (Some (t.m, copy_as t.older)) (own Primary e) (subst (λ q. found_among held (other_of q) ≡ Some (t.m, copy_as t.older)) e t.found) (primary-two t e t.is_older.steps refl)
        on Mirror e (inr t) =
            with (Some (t.m, copy_as t.older)) seen (subst (λ q. found_among held (other_of q) ≡ Some (t.m, copy_as t.older)) e t.found) (own Mirror e) (mirror-two t e t.is_older.steps refl)

  -- nothing is held: the table of the markers, which shows what it should, is written twice
  pub empty-goes : (h : Shelf) → ((b : ℕ) → h b ≡ None) → Fresh → (states : List ℕ) → IsTable g (with_reserved g states) → Good (with_reserved g states)
      → ((b : ℕ) → TB b → calls_bad (with_reserved g states) b ≡ false) → (p q : ℕ) → TB p → TB q → p ≢ q → Along h (rewrite_copies g (places_for g blocks None None) Neither 1 states)
  empty-goes h empty fresh states form shows free p q in_p in_q apart =
      rewrite-goes h (places_for g blocks None None) Neither 1 states (with_reserved g states) refl
      (record {
        writable = record { byte = omega arith; form = form; shows = shows };
        places = record { inside = inside; free = λ k. free (place_of (places_for g blocks None None) k) (inside k); apart = two-places };
        few = omega arith;
        resting = inl (empty, fresh);
        clear = inl (λ b. on b (eqb_tells b (places_for g blocks None None).primary), fresh);
        beneath = λ b c e. absurd (cc (e, empty b));
        others = λ b c e m. absurd (cc (e, empty b));
        goes_on = inl refl;
        going = refl;
        blank = λ e. absurd (false≢true e);
        kept = λ none. empty;
        aside = inl (empty (place_of (places_for g blocks None None) Primary));
      })
    where
      on : (b : ℕ) → ((b == (places_for g blocks None None).primary) ≡ true) × (b ≡ (places_for g blocks None None).primary) ⊎ (((b == (places_for g blocks None None).primary) ≡ false) × (b ≢ (places_for g blocks None None).primary))
          → with_held h (places_for g blocks None None).primary None b ≡ None
      on b (inl t) = rw t.0 refl
      on b (inr t) = rw t.0 (empty b)

      first : (x : ℕ) × (find (λ block. is_other None block && not (found_calls_bad None block) && not (found_calls_bad None block)) blocks ≡ Some x) × IsIn blocks x × (true ≡ true)
      first = find-some (λ block. is_other None block && not (found_calls_bad None block) && not (found_calls_bad None block)) blocks p (in-good is_good (table_blocks g) p in_p.0 in_p.1) refl

      primary-is : (places_for g blocks None None).primary ≡ first.0
      primary-is = ap (λ (o : Option ℕ). unwrap_or o (unwrap_or (first_other None (table_blocks g)) 0)) first.1

      primary : ℕ
      primary = (places_for g blocks None None).primary

      -- one of two blocks is not the primary's
      another : (s : ℕ) × TB s × (s ≢ primary)
      another = by (eqb_tells p primary)
        where
          by : ((p == primary) ≡ true) × (p ≡ primary) ⊎ (((p == primary) ≡ false) × (p ≢ primary)) → (s : ℕ) × TB s × (s ≢ primary)
          by (inl t) = (q, in_q, λ e. apart (t.1 ∙ sym e))
          by (inr t) = (p, in_p, t.1)

      test : ℕ → Bool
      test block = is_other (Some primary) block && not (found_calls_bad None block) && not (found_calls_bad None block)

      second : (x : ℕ) × (find test blocks ≡ Some x) × IsIn blocks x × (test x ≡ true)
      second = find-some test blocks another.0 (in-good is_good (table_blocks g) another.0 another.1.0 another.1.1)
          (and_from _ _ (and_from _ _ (not-equal primary another.0 (λ e. another.2 (sym e))) refl) refl)

      mirror-is : (places_for g blocks None None).mirror ≡ second.0
      mirror-is = ap (λ (o : Option ℕ). unwrap_or o (unwrap_or (first_other (Some primary) (table_blocks g)) 0)) second.1

      second-apart : second.0 ≢ primary
      second-apart = unequal primary second.0 (and_parts (is_other (Some primary) second.0) true (and_parts (is_other (Some primary) second.0 && true) true second.3).0).0

      inside : (k : Which) → TB (place_of (places_for g blocks None None) k)
      inside Primary = subst TB (sym primary-is) (good-in is_good (table_blocks g) first.0 first.2)
      inside Mirror = subst TB (sym mirror-is) (good-in is_good (table_blocks g) second.0 second.2)

      two-places : (k : Which) → place_of (places_for g blocks None None) k ≢ place_of (places_for g blocks None None) (other_of k)
      two-places Primary e = second-apart (sym mirror-is ∙ sym e)
      two-places Mirror e = second-apart (sym mirror-is ∙ e)
