-- What the last four blocks hold agrees, whenever the chip may rest and is quiet.
use Rattle.std.proofs.Common.{◌≡◌, ◌≢◌, ◌⊎◌, ◌<◌, ◌≤◌, ℕ, zero, suc, ◌+◌, ◌%◌, Bool, true, false, List, [], ◌∷◌, length, map, refl, ap, ap₂, sym, ◌∙◌, arith, Option, Some, None, inl, inr, subst, true≢false, Contains}
use Rattle.std.specs.Prelude.{IsSome}
use Rattle.std.proofs.lemmas.Bool.{false≢true}
use Rattle.relocation_laws.proofs.Aside.{found-beside}
use Rattle.std.proofs.lemmas.Option.{none-some, same_Some}
use Rattle.nand_model.specs.Sizes.{first_page}
use Rattle.nand_model.specs.Chip.{ChipState, PageEvent}
use Rattle.nand_model.specs.Table.{Copy, calls_bad, table_blocks, read_again}
use Rattle.chip_paths.specs.Copies.{candidates, copies_held, with_copy, is_disowned, found_among, is_valid, choice_of, used_copy}
use Rattle.nand_model.specs.Quiet.{is_quiet}
use Rattle.chip_paths.specs.Writing.{other_of}
use Rattle.nand_model.specs.declared.geometry.Geometry.{Geometry}
use Rattle.nand_model.specs.declared.words.Which.{Which}
use Rattle.nand_model.specs.declared.words.Which.TheVariants.{Primary, Mirror}
use Rattle.run_model.specs.Run.{IsLater, CopiesAgree, candidates_now, copy_in_use, IsFoundNow, block_changed}
use Rattle.relocation_laws.specs.Shelves.{Held, Shelf, IsEmpty, Newest}
use Rattle.page_laws.specs.Keeping.{IsIn}
use Rattle.relocation_laws.specs.Tables.{IsTable, IsTableBlock}
use Rattle.relocation_laws.proofs.Choosing.{choice-same, choice-newer, choice-older}
use Rattle.relocation_laws.specs.Agreement.{copy_as, copy_of, listed, used_of, used_among, IsBefore, VersionsAreClose, EqualVersionsEqualTables, UsedCoversAll, DisownedAreCalledBad, UsedStandsWell}
use Rattle.relocation_laws.proofs.Finding.{calls-same, found-none, SeenPage, SeenPages, listed-seen}
use Rattle.relocation_laws.proofs.Goes.{Setting, AtRest, Holding, Alive}
use Rattle.page_laws.proofs.Quiet.{quiet_marker, quiet_table}
use Rattle.relocation_laws.proofs.Reading.{table-in-numbers}
use Rattle.relocation_laws.proofs.Seeing.{found-newest, found-second, owned, Alone, Two}

-- how the copies of a shelf at rest agree
pub record AgreeOn (held : List (ℕ × Copy)) : Type 0 where
  pub two : (p m : ℕ) (primary mirror : Copy) → found_among held Primary ≡ Some (p, primary) → found_among held Mirror ≡ Some (m, mirror) → IsLater primary mirror ⊎ IsLater mirror primary
  pub covers : UsedCoversAll held
  pub disowned : DisownedAreCalledBad held
  pub own : UsedStandsWell held

abbrev some_at : ℕ → Copy → Option (ℕ × Copy)
some_at b x = Some (b, x)

second-same : (a b : ℕ) (x y : Copy) → some_at a x ≡ some_at b y → x ≡ y
second-same a b x y e = ap (λ (z : ℕ × Copy). z.1) (same_Some (a, x) (b, y) e)

-- what is listed is held
listed-is : (holds : Shelf) (bs : List ℕ) (b : ℕ) (copy : Copy) → Contains (listed holds bs) (b, copy) → (d : Held) × (holds b ≡ Some d) × (copy ≡ copy_as d)
listed-is holds [] b copy (k, less, at) = absurd (omega (arith, less))
listed-is holds (x ∷ bs) b copy within = on (holds x) refl within (λ w. listed-is holds bs b copy w)
  where
    on : (o : Option Held) → holds x ≡ o → Contains (with_copy x (copy_of o) (listed holds bs)) (b, copy) → (Contains (listed holds bs) (b, copy) → (d : Held) × (holds b ≡ Some d) × (copy ≡ copy_as d))
        → (d : Held) × (holds b ≡ Some d) × (copy ≡ copy_as d)
    on None e w later = later w
    on (Some d) e (zero, less, at) later = (d, ap holds (sym (ap (λ (z : ℕ × Copy). z.0) at)) ∙ e, sym (ap (λ (z : ℕ × Copy). z.1) at))
    on (Some d) e (suc k, less, at) later = let fewer : k < length (listed holds bs) = omega (arith, less) in later (k, fewer, at)

module _ (g : Geometry) (is_good : ℕ → Bool) (Good : List ℕ → Type 0) (holds : Shelf) (j : Newest (IsTableBlock g is_good) (IsTable g) Good holds) where
  abbrev newest : Held
  newest = j.copy

  abbrev held : List (ℕ × Copy)
  held = listed holds (table_blocks g)

  -- the copy calls bad what the newest one does, and its block is not called bad
  abbrev IsUsed : (ℕ × Copy) → Type 0
  IsUsed x = ((b : ℕ) → calls_bad x.1.states b ≡ calls_bad newest.table b) × (calls_bad newest.table x.0 ≡ false)

  newest-used : IsUsed (j.place, copy_as newest)
  newest-used = ((λ b. calls-same newest.table b), j.own)

  used-by : (fp fm : Option (ℕ × Copy)) → found_among held Primary ≡ fp → found_among held Mirror ≡ fm → (x : ℕ × Copy) → used_of fp fm ≡ Some x → IsUsed x
      → (y : ℕ × Copy) → used_of (found_among held Primary) (found_among held Mirror) ≡ Some y → IsUsed y
  used-by fp fm e f x is h y u = subst IsUsed (same_Some x y (sym is ∙ sym (ap₂ used_of e f) ∙ u)) h

  abbrev seen : Option (ℕ × Copy)
  seen = Some (j.place, copy_as newest)

  module _ (t : Two g is_good Good holds j) where
    abbrev seen_older : Option (ℕ × Copy)
    seen_older = Some (t.m, copy_as t.older)

    older-byte : t.older.version < 256
    older-byte = (j.beneath t.m t.older t.at).version

    same-version : t.is_older.steps ≡ 0 → t.older.version ≡ newest.version
    same-version e = omega (arith, older-byte, t.is_older.version, e)

    pub older-later : IsLater (copy_as t.older) (copy_as newest)
    older-later =
        record {
          steps = t.is_older.steps;
          few = t.is_older.few;
          version = t.is_older.version;
          same = λ z. ap read_again (t.is_older.same z);
          covers = λ b h. calls-same newest.table b ∙ (j.beneath t.m t.older t.at).covered b (sym (calls-same t.older.table b) ∙ h);
        }

    primary-used : (s : ℕ) → t.is_older.steps ≡ s → used_of seen seen_older ≡ seen
    primary-used zero e = ap (λ ch. used_copy ch seen seen_older) (ap (λ v. choice_of (Some v) (Some t.older.version)) (sym (same-version e)) ∙ choice-same t.older.version)
    primary-used (suc s) e =
        ap (λ ch. used_copy ch seen seen_older) (ap (λ v. choice_of (Some v) (Some t.older.version)) t.is_older.version ∙ choice-newer t.older.version t.is_older.steps older-byte (omega (arith, e)) t.is_older.few)

    mirror-used : (s : ℕ) → t.is_older.steps ≡ s → (x : ℕ × Copy) × (used_of seen_older seen ≡ Some x) × IsUsed x
    mirror-used zero e = (
      (t.m, copy_as t.older),
      ap (λ ch. used_copy ch seen_older seen) (ap (λ v. choice_of (Some t.older.version) (Some v)) (sym (same-version e)) ∙ choice-same t.older.version),
      ((λ b. calls-same t.older.table b ∙ ap (λ q. calls_bad q b) (t.is_older.same e)), t.free),
    )
    mirror-used (suc s) e = (
      (j.place, copy_as newest),
      ap (λ ch. used_copy ch seen_older seen) (ap (λ v. choice_of (Some t.older.version) (Some v)) t.is_older.version ∙ choice-older t.older.version t.is_older.steps older-byte (omega (arith, e)) t.is_older.few),
      newest-used,
    )

  own-found : (k : Which) → newest.which ≡ k → found_among held k ≡ seen
  own-found k e = subst (λ q. found_among held q ≡ seen) e (found-newest g is_good Good holds j)

  pub is-used : (y : ℕ × Copy) → used_of (found_among held Primary) (found_among held Mirror) ≡ Some y → IsUsed y
  is-used = on newest.which refl (found-second g is_good Good holds j)
    where
      on : (k : Which) → newest.which ≡ k → Alone g is_good Good holds j ⊎ Two g is_good Good holds j → (y : ℕ × Copy) → used_of (found_among held Primary) (found_among held Mirror) ≡ Some y → IsUsed y
      on Primary e (inl a) = used-by seen None (own-found Primary e) (subst (λ q. found_among held (other_of q) ≡ None) e a.none) (j.place, copy_as newest) refl newest-used
      on Mirror e (inl a) = used-by None seen (subst (λ q. found_among held (other_of q) ≡ None) e a.none) (own-found Mirror e) (j.place, copy_as newest) refl newest-used
      on Primary e (inr t) =
          used-by seen (Some (t.m, copy_as t.older)) (own-found Primary e) (subst (λ q. found_among held (other_of q) ≡ Some (t.m, copy_as t.older)) e t.found) (j.place, copy_as newest) (primary-used t t.is_older.steps refl) newest-used
      on Mirror e (inr t) =
          let u = mirror-used t t.is_older.steps refl in
          used-by (Some (t.m, copy_as t.older)) seen (subst (λ q. found_among held (other_of q) ≡ Some (t.m, copy_as t.older)) e t.found) (own-found Mirror e) u.0 u.1 u.2

  -- a copy is used
  pub used-some : (x : ℕ × Copy) × (used_of (found_among held Primary) (found_among held Mirror) ≡ Some x)
  used-some = on newest.which refl (found-second g is_good Good holds j)
    where
      of : (fp fm : Option (ℕ × Copy)) → found_among held Primary ≡ fp → found_among held Mirror ≡ fm → (x : ℕ × Copy) → used_of fp fm ≡ Some x
          → (y : ℕ × Copy) × (used_of (found_among held Primary) (found_among held Mirror) ≡ Some y)
      of fp fm e f x is = (x, ap₂ used_of e f ∙ is)

      on : (k : Which) → newest.which ≡ k → Alone g is_good Good holds j ⊎ Two g is_good Good holds j → (x : ℕ × Copy) × (used_of (found_among held Primary) (found_among held Mirror) ≡ Some x)
      on Primary e (inl a) = of seen None (own-found Primary e) (subst (λ q. found_among held (other_of q) ≡ None) e a.none) (j.place, copy_as newest) refl
      on Mirror e (inl a) = of None seen (subst (λ q. found_among held (other_of q) ≡ None) e a.none) (own-found Mirror e) (j.place, copy_as newest) refl
      on Primary e (inr t) =
          of seen (Some (t.m, copy_as t.older)) (own-found Primary e) (subst (λ q. found_among held (other_of q) ≡ Some (t.m, copy_as t.older)) e t.found) (j.place, copy_as newest) (primary-used t t.is_older.steps refl)
      on Mirror e (inr t) =
          let u = mirror-used t t.is_older.steps refl in
          of (Some (t.m, copy_as t.older)) seen (subst (λ q. found_among held (other_of q) ≡ Some (t.m, copy_as t.older)) e t.found) (own-found Mirror e) u.0 u.1

  two-agree : (p m : ℕ) (primary mirror : Copy) → found_among held Primary ≡ Some (p, primary) → found_among held Mirror ≡ Some (m, mirror) → IsLater primary mirror ⊎ IsLater mirror primary
  two-agree p m primary mirror fp fm = on newest.which refl (found-second g is_good Good holds j)
    where
      on : (k : Which) → newest.which ≡ k → Alone g is_good Good holds j ⊎ Two g is_good Good holds j → IsLater primary mirror ⊎ IsLater mirror primary
      on Primary e (inl a) = absurd (none-some (m, mirror) (sym (subst (λ q. found_among held (other_of q) ≡ None) e a.none) ∙ fm))
      on Mirror e (inl a) = absurd (none-some (p, primary) (sym (subst (λ q. found_among held (other_of q) ≡ None) e a.none) ∙ fp))
      on Primary e (inr t) =
          inr (subst (λ x. IsLater x primary) (second-same t.m m (copy_as t.older) mirror (sym (subst (λ q. found_among held (other_of q) ≡ Some (t.m, copy_as t.older)) e t.found) ∙ fm))
          (subst (λ x. IsLater (copy_as t.older) x) (second-same j.place p (copy_as newest) primary (sym (own-found Primary e) ∙ fp)) (older-later t)))
      on Mirror e (inr t) =
          inl (subst (λ x. IsLater x mirror) (second-same t.m p (copy_as t.older) primary (sym (subst (λ q. found_among held (other_of q) ≡ Some (t.m, copy_as t.older)) e t.found) ∙ fp))
          (subst (λ x. IsLater (copy_as t.older) x) (second-same j.place m (copy_as newest) mirror (sym (own-found Mirror e) ∙ fm)) (older-later t)))

  pub newest-agrees : AgreeOn held
  newest-agrees =
      record {
        two = two-agree;
        covers = λ n b x copy used within c bad.
            let l = listed-is holds (table_blocks g) b copy within in
            (is-used (n, x) used).0 c ∙ (j.beneath b l.0 l.1).covered c (sym (calls-same l.0.table c) ∙ ap (λ (k : Copy). calls_bad k.states c) (sym l.2) ∙ bad);
        disowned = λ n b x copy used within dis. (is-used (n, x) used).0 b ∙ on b dis (calls_bad newest.table b) refl;
        own = λ n x used. (is-used (n, x) used).0 n ∙ (is-used (n, x) used).1;
      }
    where
      on : (b : ℕ) → is_disowned held b ≡ true → (t : Bool) → calls_bad newest.table b ≡ t → calls_bad newest.table b ≡ true
      on b dis true h = h
      on b dis false h = absurd (true≢false (sym dis ∙ owned g is_good Good holds j b h))

-- where nothing is held, nothing is found and nothing is used
empty-none : (g : Geometry) (holds : Shelf) → IsEmpty holds → (k : Which) → found_among (listed holds (table_blocks g)) k ≡ None
empty-none g holds empty k = found-none holds (is_valid (listed holds (table_blocks g)) k) (table_blocks g) (λ b d at. absurd (cc (at, empty b)))

pub empty-unused : (g : Geometry) (holds : Shelf) → IsEmpty holds → used_among (listed holds (table_blocks g)) ≡ None
empty-unused g holds empty = ap₂ used_of (empty-none g holds empty Primary) (empty-none g holds empty Mirror)

pub empty-agrees : (g : Geometry) (holds : Shelf) → IsEmpty holds → AgreeOn (listed holds (table_blocks g))
empty-agrees g holds empty =
    record {
      two = λ p m a b fp fm. absurd (none-some (p, a) (sym (empty-none g holds empty Primary) ∙ fp));
      covers = λ n b x copy used within c bad. absurd (none-some (n, x) (sym (empty-unused g holds empty) ∙ used));
      disowned = λ n b x copy used within dis. absurd (none-some (n, x) (sym (empty-unused g holds empty) ∙ used));
      own = λ n x used. absurd (none-some (n, x) (sym (empty-unused g holds empty) ∙ used));
    }

module _ (g : Geometry) (c : Setting g) (enough : 4 ≤ g.blocks) (Good : List ℕ → Type 0) (Fresh : Type 0) where
  pub at-rest-agrees : (holds : Shelf) → AtRest g c Good Fresh holds → AgreeOn (listed holds (table_blocks g))
  at-rest-agrees holds (inl e) = empty-agrees g holds e.0
  at-rest-agrees holds (inr j) = newest-agrees g c.is_good Good holds j

  good-ones : (holds : Shelf) → AtRest g c Good Fresh holds → (b : ℕ) → c.is_good b ≡ false → holds b ≡ None
  good-ones holds (inl e) b h = e.0 b
  good-ones holds (inr j) b h = on (holds b) refl
    where
      on : (o : Option Held) → holds b ≡ o → holds b ≡ None
      on None e = e
      on (Some k) e = absurd (false≢true (sym h ∙ (j.beneath b k e).inside.1))

  -- what a quiet chip shows is what its shelf holds
  pub held-now : {W : Type 0} (holds : Shelf) (fresh : Option ℕ) (s : ChipState W) → Holding g c Good Fresh holds fresh s → ((b : ℕ) → c.is_good b ≡ false → holds b ≡ None) → is_quiet g s.pages ≡ true
      → copies_held s.geometry (candidates_now s) ≡ listed holds (table_blocks g)
  held-now holds fresh s h good quiet =
      subst (λ k. copies_held k (candidates k (map (λ b. (s.pages (first_page k b)).cells) (table_blocks k))) ≡ listed holds (table_blocks g)) (sym h.geometry)
      (listed-seen g c.is_good holds good (table_blocks g) (map (λ b. (s.pages (first_page g b)).cells) (table_blocks g)) seen)
    where
      seen-at : (b : ℕ) → IsIn (table_blocks g) b → SeenPage g c.is_good holds b (s.pages (first_page g b)).cells
      seen-at b i =
          record {
            marker = (h.stands.tables b i).marker [] (quiet_marker g s.pages quiet b (table-in-numbers g enough b i));
            copy = λ e. (h.stands.tables b i).copies e [] (quiet_table g s.pages quiet b c.tables i);
          }

      seen : SeenPages g c.is_good holds (table_blocks g) (map (λ b. (s.pages (first_page g b)).cells) (table_blocks g))
      seen = (seen-at _ (inl refl), (seen-at _ (inr (inl refl)), (seen-at _ (inr (inr (inl refl))), (seen-at _ (inr (inr (inr (inl refl)))), tt))))

  -- the copies of a chip that may rest and is quiet agree
  pub copies-agree : {W : Type 0} (s : ChipState W) → Alive g c Good Fresh None s → is_quiet g s.pages ≡ true → CopiesAgree s
  copies-agree s a quiet = record { two = all.two; covers = all.covers; disowned = all.disowned; own = all.own }
    where
      all : AgreeOn (copies_held s.geometry (candidates_now s))
      all = subst AgreeOn (sym (held-now a.holds None s a.holding (good-ones a.holds a.rests) quiet)) (at-rest-agrees a.holds a.rests)

  -- a quiet chip of which an attach would use a copy holds something
  pub not-empty : {W : Type 0} (holds : Shelf) (fresh : Option ℕ) (s : ChipState W) → Holding g c Good Fresh holds fresh s → is_quiet g s.pages ≡ true → IsSome (copy_in_use s) → IsEmpty holds → ⊥
  not-empty holds fresh s h quiet used empty = false≢true (subst IsSome none used)
    where
      none : copy_in_use s ≡ None
      none = ap used_among (held-now holds fresh s h (λ b e. empty b) quiet) ∙ empty-unused g holds empty

  -- the copy in use, and a copy that is found in a block other than the one that the next event
  -- changes
  pub record Found {W : Type 0} (next : Option PageEvent) (s : ChipState W) : Type 0 where
    pub block : ℕ
    pub copy : Copy
    pub other : block_changed g next ≢ Some block
    pub is_found : IsFoundNow s block copy
    pub newest : ℕ × Copy
    pub used : copy_in_use s ≡ Some newest

  pub found-now : {W : Type 0} (next : Option PageEvent) (s : ChipState W) → Alive g c Good Fresh next s → (Fresh → ⊥) → is_quiet g s.pages ≡ true → Found next s
  found-now next s a awake quiet = on a.rests
    where
      are : copies_held s.geometry (candidates_now s) ≡ listed a.holds (table_blocks g)
      are = held-now a.holds None s a.holding (good-ones a.holds a.rests) quiet

      found-is : (block : ℕ) (copy : Held) → found_among (listed a.holds (table_blocks g)) copy.which ≡ Some (block, copy_as copy) → IsFoundNow s block (copy_as copy)
      found-is block copy e = ap (λ held. found_among held copy.which) are ∙ e

      on : AtRest g c Good Fresh a.holds → Found next s
      on (inl e) = absurd (awake e.1)
      on (inr j) = by (block_changed g next) refl
        where
          u : (x : ℕ × Copy) × (used_among (listed a.holds (table_blocks g)) ≡ Some x)
          u = used-some g c.is_good Good a.holds j

          by : (o : Option ℕ) → block_changed g next ≡ o → Found next s
          by None e =
              record {
                block = j.place;
                copy = copy_as j.copy;
                other = λ f. none-some j.place (sym e ∙ f);
                is_found = found-is j.place j.copy (found-newest g c.is_good Good a.holds j);
                newest = u.0;
                used = ap used_among are ∙ u.1;
              }
          by (Some b) e =
              let f = found-beside g c.is_good Good a.holds j b (a.aside b e) in
              record {
                block = f.block;
                copy = copy_as f.copy;
                other = λ i. f.other (sym (same_Some b f.block (sym e ∙ i)));
                is_found = found-is f.block f.copy f.is_found;
                newest = u.0;
                used = ap used_among are ∙ u.1;
              }

  -- the copy in use calls bad what every table must show
  pub used-shows : {W : Type 0} (s : ChipState W) → Alive g c Good Fresh None s → (Fresh → ⊥) → is_quiet g s.pages ≡ true → (b : ℕ) → ((table : List ℕ) → Good table → calls_bad table b ≡ true)
      → (x : ℕ × Copy) → copy_in_use s ≡ Some x → calls_bad x.1.states b ≡ true
  used-shows s a awake quiet b shown x used = on a.rests
    where
      on : AtRest g c Good Fresh a.holds → calls_bad x.1.states b ≡ true
      on (inl e) = absurd (awake e.1)
      on (inr j) = (is-used g c.is_good Good a.holds j x (sym (ap used_among (held-now a.holds None s a.holding (good-ones a.holds a.rests) quiet)) ∙ used)).0 b ∙ shown j.copy.table j.shows

-- two copies that agree are close in versions, and of one version they have one table
pub versions-close : (held : List (ℕ × Copy)) → AgreeOn held → VersionsAreClose held
versions-close held h p m primary mirror fp fm = on (h.two p m primary mirror fp fm)
  where
    on : IsLater primary mirror ⊎ IsLater mirror primary → (steps : ℕ) × (steps ≤ 3) × (IsBefore steps primary mirror ⊎ IsBefore steps mirror primary)
    on (inl l) = (l.steps, l.few, inl l.version)
    on (inr l) = (l.steps, l.few, inr l.version)

pub equal-tables : (held : List (ℕ × Copy)) → AgreeOn held → EqualVersionsEqualTables held
equal-tables held h p m primary mirror fp fm same = on (h.two p m primary mirror fp fm)
  where
    none : (v steps : ℕ) → steps ≤ 3 → v ≡ (v + steps) % 256 → steps ≡ 0
    none v steps few e = omega (arith, few, e)

    on : IsLater primary mirror ⊎ IsLater mirror primary → primary.states ≡ mirror.states
    on (inl l) = l.same (none mirror.version l.steps l.few (l.version ∙ ap (λ v. (v + l.steps) % 256) same))
    on (inr l) = sym (l.same (none primary.version l.steps l.few (l.version ∙ ap (λ v. (v + l.steps) % 256) (sym same))))
