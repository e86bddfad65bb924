-- A writing keeps its invariant, whatever becomes of its next event.
use Rattle.std.proofs.Common.{◌≡◌, ◌≢◌, ◌⊎◌, ℕ, zero, suc, ◌+◌, ◌%◌, ◌<◌, Bool, true, false, ◌==◌, List, [], ◌∷◌, refl, ap, sym, ◌∙◌, arith, inl, inr, subst, Option, Some, None, true≢false}
use Rattle.std.proofs.lemmas.Bool.Decides.{eqb_tells}
use Rattle.chip_paths.specs.Writing.{Places, place_of, marked, next_version, Writing, WholeCopies, other_of, is_whole, with_place, with_whole, next_place, moved, after_good, with_retired}
use Rattle.nand_model.specs.declared.geometry.Geometry.{Geometry}
use Rattle.nand_model.specs.declared.words.Which.{Which}
use Rattle.nand_model.specs.declared.words.Which.TheVariants.{Primary, Mirror}
use Rattle.nand_model.specs.Table.{calls_bad}
use Rattle.relocation_laws.specs.Shelves.{Held, Shelf, with_held, IsOlder, IsCovered, TableLaws, IsBeneath, Newest, Rests, image_of, IsWithin, PlacesFit, Writable, Pending, Ended, Keeps}

same_number : (b : ℕ) → (b == b) ≡ true
same_number b = first (eqb_tells b b)
  where
    first : ((b == b) ≡ true) × (b ≡ b) ⊎ (((b == b) ≡ false) × (b ≢ b)) → (b == b) ≡ true
    first (inl h) = h.0
    first (inr h) = absurd (h.1 refl)

other_number : (a b : ℕ) → a ≢ b → (a == b) ≡ false
other_number a b n = first (eqb_tells a b)
  where
    first : ((a == b) ≡ true) × (a ≡ b) ⊎ (((a == b) ≡ false) × (a ≢ b)) → (a == b) ≡ false
    first (inl h) = absurd (n h.1)
    first (inr h) = h.0

pub held-own : (h : Shelf) (x : ℕ) (k : Option Held) → with_held h x k x ≡ k
held-own h x k = rw (same_number x) refl

pub held-else : (h : Shelf) (x : ℕ) (k : Option Held) (b : ℕ) → b ≢ x → with_held h x k b ≡ h b
held-else h x k b n = rw (other_number b x n) refl

-- what a block holds after a change of one block
pub held-cases : (h : Shelf) (x : ℕ) (k : Option Held) (b : ℕ) (c : Held) → with_held h x k b ≡ Some c
    → ((b ≡ x) × (k ≡ Some c)) ⊎ ((b ≢ x) × (h b ≡ Some c))
held-cases h x k b c e = on (eqb_tells b x)
  where
    on : ((b == x) ≡ true) × (b ≡ x) ⊎ (((b == x) ≡ false) × (b ≢ x)) → ((b ≡ x) × (k ≡ Some c)) ⊎ ((b ≢ x) × (h b ≡ Some c))
    on (inl t) = inl (t.1, rw t.0 at e)
    on (inr t) = inr (t.1, rw t.0 at e)

pub some-same : (a b : Held) → Some a ≡ Some b → a ≡ b
some-same a b e = cc

pub other-other : (k : Which) → other_of (other_of k) ≡ k
other-other Primary = refl
other-other Mirror = refl

pub other-apart : (k : Which) (p : Places) → place_of p k ≢ place_of p (other_of k) → place_of p (other_of k) ≢ place_of p k
other-apart k p n e = n (sym e)

pub each-kind : (P : Which → Type 0) (k : Which) → P k → P (other_of k) → (j : Which) → P j
each-kind P Primary a b Primary = a
each-kind P Primary a b Mirror = b
each-kind P Mirror a b Primary = b
each-kind P Mirror a b Mirror = a

pub whole-own : (whole : WholeCopies) (k : Which) (b : Bool) → is_whole (with_whole whole k b) k ≡ b
whole-own whole Primary b = refl
whole-own whole Mirror b = refl

pub whole-else : (whole : WholeCopies) (k : Which) (b : Bool) → is_whole (with_whole whole k b) (other_of k) ≡ is_whole whole (other_of k)
whole-else whole Primary b = refl
whole-else whole Mirror b = refl

pub placed-own : (p : Places) (k : Which) (b : ℕ) → place_of (with_place p k b) k ≡ b
placed-own p Primary b = refl
placed-own p Mirror b = refl

pub placed-else : (p : Places) (k : Which) (b : ℕ) → place_of (with_place p k b) (other_of k) ≡ place_of p (other_of k)
placed-else p Primary b = refl
placed-else p Mirror b = refl

pub same-byte : (v : ℕ) → v < 256 → v ≡ (v + 0) % 256
same-byte v h = omega arith

pub next-byte : (v : ℕ) → next_version v < 256
next-byte v = omega arith

pub next-steps : (v s : ℕ) → next_version ((v + s) % 256) ≡ (v + suc s) % 256
next-steps v s = omega arith

module _ (TB : ℕ → Type 0) (Form Good : List ℕ → Type 0) (Fresh : Type 0) where
  pub beneath-self : (table : List ℕ) (b : ℕ) (c : Held) → TB b → c.version < 256 → Form c.table → c.table ≡ table → IsBeneath TB Form Good table b c
  beneath-self table b c inside version form same =
      record { inside = inside; version = version; form = form; covered = λ x h. subst (λ t. calls_bad t x ≡ true) same h }

  pub beneath-more : (less more : List ℕ) (b : ℕ) (c : Held) → IsCovered less more → IsBeneath TB Form Good less b c → IsBeneath TB Form Good more b c
  beneath-more less more b c covered h =
      record { inside = h.inside; version = h.version; form = h.form; covered = λ x e. covered x (h.covered x e) }

  -- what stands beside the newest copy
  abbrev pub IsBeside : Held → ℕ → ℕ → Held → Type 0
  IsBeside img q b c =
      IsBeneath TB Form Good img.table b c
      × ((calls_bad img.table b ≡ true) ⊎ ((b ≡ q) × (c.which ≡ other_of img.which) × IsOlder 3 c img × Good c.table))

  pub newest-of : (h : Shelf) (x q : ℕ) (img : Held) → h x ≡ Some img → TB x → Writable TB Form Good Fresh img.table img.version → calls_bad img.table x ≡ false
      → TB q → q ≢ x → calls_bad img.table q ≡ false
      → ((b : ℕ) (c : Held) → h b ≡ Some c → b ≢ x → IsBeside img q b c) → Newest TB Form Good h
  newest-of h x q img at inside writable own inside_q apart free_q beside =
      record {
        place = x;
        copy = img;
        at = at;
        own = own;
        shows = writable.shows;
        second = q;
        spare = q;
        spare_inside = inside_q;
        spare_apart = apart;
        spare_free = free_q;
        beneath = beneath;
        others = λ b c e n. (beside b c e n).1;
      }
    where
      beneath : (b : ℕ) (c : Held) → h b ≡ Some c → IsBeneath TB Form Good img.table b c
      beneath b c e = on (eqb_tells b x)
        where
          on : ((b == x) ≡ true) × (b ≡ x) ⊎ (((b == x) ≡ false) × (b ≢ x)) → IsBeneath TB Form Good img.table b c
          on (inl t) =
              let same : img ≡ c = some-same img c (sym at ∙ ap h (sym t.1) ∙ e) in
              subst (λ d. IsBeneath TB Form Good img.table b d) same
              (subst (λ y. IsBeneath TB Form Good img.table y img) (sym t.1) (beneath-self img.table x img inside writable.byte writable.form refl))
          on (inr t) = (beside b c e t.1).0

  module _ (w : Writing) (which : Which) (more : List Which) (holds : Shelf) (p : Pending TB Form Good Fresh w which more holds) where
    abbrev here : ℕ
    here = place_of w.places which

    abbrev there : ℕ
    there = place_of w.places (other_of which)

    abbrev img : Held
    img = image_of TB Form Good Fresh w which

    pub beside-pending : (b : ℕ) (c : Held) → holds b ≡ Some c → b ≢ here → IsBeside img there b c
    beside-pending b c e n = (p.beneath b c e, on (p.others b c e n))
      where
        on : (calls_bad w.table b ≡ true) ⊎ ((b ≡ there) × (c.which ≡ other_of which) × IsWithin TB Form Good Fresh w c img × Good c.table)
            → (calls_bad w.table b ≡ true) ⊎ ((b ≡ there) × (c.which ≡ other_of which) × IsOlder 3 c img × Good c.table)
        on (inl h) = inl h
        on (inr h) = inr (h.0, h.1, record { steps = h.2.0; few = omega (arith, h.2.1); version = h.2.2; same = h.2.3 }, h.3)

    -- the copy that is being written has become the newest, wherever the other one stands
    pub image-newest : (h : Shelf) → h here ≡ Some img → ((b : ℕ) (c : Held) → h b ≡ Some c → b ≢ here → holds b ≡ Some c) → Newest TB Form Good h
    image-newest h at else_ =
        newest-of h here there img at (p.places.inside which) p.writable (p.places.free which) (p.places.inside (other_of which))
        (other-apart which w.places (p.places.apart which)) (p.places.free (other_of which))
        (λ b c e n. beside-pending b c (else_ b c e n) n)

    abbrev blanked : Shelf
    blanked = with_held holds here None

    abbrev written : Shelf
    written = with_held holds here (Some img)

    pub else-held : (k : Option Held) (b : ℕ) (c : Held) → with_held holds here k b ≡ Some c → b ≢ here → holds b ≡ Some c
    else-held k b c e n = sym (held-else holds here k b n) ∙ e

    blanked-held : (b : ℕ) (c : Held) → blanked b ≡ Some c → holds b ≡ Some c
    blanked-held b c e = on (held-cases holds here None b c e)
      where
        on : ((b ≡ here) × (None ≡ Some c)) ⊎ ((b ≢ here) × (holds b ≡ Some c)) → holds b ≡ Some c
        on (inl h) = absurd (cc)
        on (inr h) = h.1

    pub rests-written : Rests TB Form Good Fresh written
    rests-written = inr (image-newest written (held-own holds here (Some img)) (else-held (Some img)))

    back : (b : ℕ) → with_held blanked here None b ≡ blanked b
    back b = at (eqb_tells b here)
      where
        at : ((b == here) ≡ true) × (b ≡ here) ⊎ (((b == here) ≡ false) × (b ≢ here)) → with_held blanked here None b ≡ blanked b
        at (inl t) = rw t.0 refl
        at (inr t) = held-else blanked here None b t.1

    rests-blanked-twice : Rests TB Form Good Fresh (with_held blanked here None)
    rests-blanked-twice = on p.clear
      where
        on : Rests TB Form Good Fresh blanked → Rests TB Form Good Fresh (with_held blanked here None)
        on (inl e) = inl (λ b. back b ∙ e.0 b, e.1)
        on (inr n) =
            inr (record {
              place = n.place;
              copy = n.copy;
              at = back n.place ∙ n.at;
              own = n.own;
              shows = n.shows;
              second = n.second;
              spare = n.spare;
              spare_inside = n.spare_inside;
              spare_apart = n.spare_apart;
              spare_free = n.spare_free;
              beneath = λ b c e. n.beneath b c (sym (back b) ∙ e);
              others = λ b c e m. n.others b c (sym (back b) ∙ e) m;
            })

    -- the block was erased
    pub erased-well : Pending TB Form Good Fresh (after_good w which more false) which more blanked
    erased-well =
        record {
          writable = p.writable;
          places = p.places;
          few = p.few;
          resting = p.clear;
          clear = rests-blanked-twice;
          beneath = λ b c e. p.beneath b c (blanked-held b c e);
          others = λ b c e n. p.others b c (blanked-held b c e) n;
          goes_on = on p.goes_on;
          going = p.going;
          blank = λ e. held-own holds here None;
          kept = λ none b. sym (back b) ∙ none b;
          aside = inl (held-own holds here None);
        }
      where
        on : (more ≡ other_of which ∷ []) ⊎ ((more ≡ []) × (holds there ≡ Some (image_of TB Form Good Fresh w (other_of which))) × (is_whole w.whole (other_of which) ≡ true))
            → (more ≡ other_of which ∷ []) ⊎ ((more ≡ []) × (blanked there ≡ Some (image_of TB Form Good Fresh w (other_of which))) × (is_whole (with_whole w.whole which false) (other_of which) ≡ true))
        on (inl e) = inl e
        on (inr e) = inr (e.0, held-else holds here None there (other-apart which w.places (p.places.apart which)) ∙ e.1, whole-else w.whole which false ∙ e.2)

    -- the page was programmed: the copy is whole
    pub programmed-well : w.erased ≡ true → Keeps TB Form Good Fresh (after_good w which more true) more written
    programmed-well erased = on p.goes_on
      where
        beneath : (b : ℕ) (c : Held) → written b ≡ Some c → IsBeneath TB Form Good w.table b c
        beneath b c e = on (held-cases holds here (Some img) b c e)
          where
            on : ((b ≡ here) × (Some img ≡ Some c)) ⊎ ((b ≢ here) × (holds b ≡ Some c)) → IsBeneath TB Form Good w.table b c
            on (inl h) =
                subst (λ d. IsBeneath TB Form Good w.table b d) (some-same img c h.1)
                (beneath-self w.table b img (subst TB (sym h.0) (p.places.inside which)) p.writable.byte p.writable.form refl)
            on (inr h) = p.beneath b c h.1

        beside : (b : ℕ) (c : Held) → written b ≡ Some c → b ≢ there
            → (calls_bad w.table b ≡ true) ⊎ ((b ≡ here) × (img ≡ c))
        beside b c e n = on (held-cases holds here (Some img) b c e)
          where
            apart : (calls_bad w.table b ≡ true) ⊎ ((b ≡ there) × (c.which ≡ other_of which) × IsWithin TB Form Good Fresh w c img × Good c.table) → (calls_bad w.table b ≡ true) ⊎ ((b ≡ here) × (img ≡ c))
            apart (inl h) = inl h
            apart (inr h) = absurd (n h.0)

            on : ((b ≡ here) × (Some img ≡ Some c)) ⊎ ((b ≢ here) × (holds b ≡ Some c)) → (calls_bad w.table b ≡ true) ⊎ ((b ≡ here) × (img ≡ c))
            on (inl h) = inr (h.0, some-same img c h.1)
            on (inr h) = apart (p.others b c h.1 h.0)

        next : Writing
        next = after_good w which (other_of which ∷ []) true

        others : (b : ℕ) (c : Held) → written b ≡ Some c → b ≢ there
            → (calls_bad w.table b ≡ true)
            ⊎ ((b ≡ place_of w.places (other_of (other_of which))) × (c.which ≡ other_of (other_of which)) × IsWithin TB Form Good Fresh next c (image_of TB Form Good Fresh next (other_of which)) × Good c.table)
        others b c e n = on (beside b c e n)
          where
            on : (calls_bad w.table b ≡ true) ⊎ ((b ≡ here) × (img ≡ c))
                → (calls_bad w.table b ≡ true)
                ⊎ ((b ≡ place_of w.places (other_of (other_of which))) × (c.which ≡ other_of (other_of which)) × IsWithin TB Form Good Fresh next c (image_of TB Form Good Fresh next (other_of which)) × Good c.table)
            on (inl h) = inl h
            on (inr h) =
                inr (
                  h.0 ∙ ap (place_of w.places) (sym (other-other which)),
                  ap (λ (d : Held). d.which) (sym h.1) ∙ sym (other-other which),
                  (0, omega (arith, p.few), subst (λ (d : Held). w.version ≡ (d.version + 0) % 256) h.1 (same-byte w.version p.writable.byte), λ z. ap (λ (d : Held). d.table) (sym h.1)),
                  subst (λ (d : Held). Good d.table) h.1 p.writable.shows,
                )

        other-written : written (place_of w.places (other_of (other_of which))) ≡ Some (image_of TB Form Good Fresh w (other_of (other_of which)))
        other-written = subst (λ k. written (place_of w.places k) ≡ Some (image_of TB Form Good Fresh w k)) (sym (other-other which)) (held-own holds here (Some img))

        cleared : (b : ℕ) (c : Held) → with_held written there None b ≡ Some c → b ≢ here → holds b ≡ Some c
        cleared b c e n = on (held-cases written there None b c e)
          where
            on : ((b ≡ there) × (None ≡ Some c)) ⊎ ((b ≢ there) × (written b ≡ Some c)) → holds b ≡ Some c
            on (inl h) = absurd (cc)
            on (inr h) = else-held (Some img) b c h.1 n

        more-left : Pending TB Form Good Fresh next (other_of which) [] written
        more-left =
            record {
              writable = p.writable;
              places = p.places;
              few = p.few;
              resting = rests-written;
              clear = inr (image-newest (with_held written there None) (held-else written there None here (p.places.apart which) ∙ held-own holds here (Some img)) cleared);
              beneath = beneath;
              others = others;
              goes_on = inr (refl, other-written, subst (λ k. is_whole (with_whole w.whole which true) k ≡ true) (sym (other-other which)) (whole-own w.whole which true));
              going = p.going;
              blank = λ e. absurd (true≢false (sym e));
              kept = λ none. absurd (cc (none here, held-else written there None here (p.places.apart which) ∙ held-own holds here (Some img)));
              aside = inr (image_of TB Form Good Fresh next (other_of (other_of which)), other-written);
            }

        over : holds there ≡ Some (image_of TB Form Good Fresh w (other_of which)) → is_whole w.whole (other_of which) ≡ true → Ended TB Form Good Fresh (after_good w which [] true) None written
        over at whole = (
          record {
            writable = p.writable;
            fit = p.places;
            at = each-kind (λ k. written (place_of w.places k) ≡ Some (image_of TB Form Good Fresh w k)) which (held-own holds here (Some img)) (held-else holds here (Some img) there (other-apart which w.places (p.places.apart which)) ∙ at);
            beneath = beneath;
            others = outside;
          },
          each-kind (λ k. is_whole (with_whole w.whole which true) k ≡ true) which (whole-own w.whole which true) (whole-else w.whole which true ∙ whole),
        )
          where
            outside : (b : ℕ) (c : Held) → written b ≡ Some c → b ≢ w.places.primary → b ≢ w.places.mirror → calls_bad w.table b ≡ true
            outside b c e n m = on (beside b c e (far (other_of which)))
              where
                far : (k : Which) → b ≢ place_of w.places k
                far Primary = n
                far Mirror = m

                on : (calls_bad w.table b ≡ true) ⊎ ((b ≡ here) × (img ≡ c)) → calls_bad w.table b ≡ true
                on (inl h) = h
                on (inr h) = absurd (far which h.0)

        on : (more ≡ other_of which ∷ []) ⊎ ((more ≡ []) × (holds there ≡ Some (image_of TB Form Good Fresh w (other_of which))) × (is_whole w.whole (other_of which) ≡ true))
            → Keeps TB Form Good Fresh (after_good w which more true) more written
        on (inl e) = subst (λ m. Keeps TB Form Good Fresh (after_good w which m true) m written) (sym e) more-left
        on (inr e) =
            subst (λ m. Keeps TB Form Good Fresh (after_good w which m true) m written) (sym e.0)
            (subst (λ f. Ended TB Form Good Fresh (after_good w which [] true) f written) (sym p.going) (over e.1 e.2))

    module _ (g : Geometry) (Failed : ℕ → Type 0) (laws : TableLaws g TB Failed Form Good) (bad : Failed here) (y : Shelf) (rests : Rests TB Form Good Fresh y)
        (still : (b : ℕ) (c : Held) → y b ≡ Some c → b ≢ here → holds b ≡ Some c) (left_here : (c : Held) → y here ≡ Some c → IsBeneath TB Form Good w.table here c) where
      abbrev table_then : List ℕ
      table_then = marked w.table here

      abbrev then : Writing
      then = record w { table = table_then; whole = with_whole w.whole which false; erased = false }

      shows-then : Good table_then
      shows-then = laws.good w.table here (p.places.inside which) p.writable.form bad p.writable.shows

      covers : IsCovered w.table table_then
      covers b h = laws.grows w.table here b h

      beneath-then : (b : ℕ) (c : Held) → y b ≡ Some c → IsBeneath TB Form Good table_then b c
      beneath-then b c e = beneath-more w.table table_then b c covers (on (eqb_tells b here))
        where
          on : ((b == here) ≡ true) × (b ≡ here) ⊎ (((b == here) ≡ false) × (b ≢ here)) → IsBeneath TB Form Good w.table b c
          on (inl t) = subst (λ x. IsBeneath TB Form Good w.table x c) (sym t.1) (left_here c (ap y (sym t.1) ∙ e))
          on (inr t) = p.beneath b c (still b c e t.1)

      -- another block takes its place
      module _ (block chances : ℕ) (found : next_place g table_then there ≡ Some block) (some_left : w.chances ≡ suc chances) where
        abbrev next : Writing
        next = moved then which (Some block) (suc chances)

        place_law : TB block × (calls_bad table_then block ≡ false) × (block ≢ there)
        place_law = laws.place table_then there block shows-then found

        block-here : block ≢ here
        block-here e = true≢false (sym (laws.hit w.table here (p.places.inside which) p.writable.form) ∙ ap (calls_bad table_then) (sym e) ∙ place_law.1)

        was_free : calls_bad w.table block ≡ false
        was_free = sym (laws.stays w.table here block block-here) ∙ place_law.1

        there-free : calls_bad table_then there ≡ false
        there-free = laws.stays w.table here there (other-apart which w.places (p.places.apart which)) ∙ p.places.free (other_of which)

        -- nothing stands in the new place
        nothing-there : (c : Held) → y block ≡ Some c → ⊥
        nothing-there c e = on (p.others block c (still block c e block-here) block-here)
          where
            on : (calls_bad w.table block ≡ true) ⊎ ((block ≡ there) × (c.which ≡ other_of which) × IsWithin TB Form Good Fresh w c img × Good c.table) → ⊥
            on (inl h) = true≢false (sym h ∙ was_free)
            on (inr h) = place_law.2 h.0

        empty : (o : Option Held) → y block ≡ o → y block ≡ None
        empty None e = e
        empty (Some c) e = absurd (nothing-there c e)

        same-shelf : (b : ℕ) → with_held y block None b ≡ y b
        same-shelf b = at (eqb_tells b block)
          where
            at : ((b == block) ≡ true) × (b ≡ block) ⊎ (((b == block) ≡ false) × (b ≢ block)) → with_held y block None b ≡ y b
            at (inl t) = rw t.0 (sym (ap y t.1 ∙ empty (y block) refl))
            at (inr t) = held-else y block None b t.1

        clear-then : Rests TB Form Good Fresh y → Rests TB Form Good Fresh (with_held y block None)
        clear-then (inl e) = inl (λ b. same-shelf b ∙ e.0 b, e.1)
        clear-then (inr n) =
            inr (record {
              place = n.place;
              copy = n.copy;
              at = same-shelf n.place ∙ n.at;
              own = n.own;
              shows = n.shows;
              second = n.second;
              spare = n.spare;
              spare_inside = n.spare_inside;
              spare_apart = n.spare_apart;
              spare_free = n.spare_free;
              beneath = λ b c e. n.beneath b c (sym (same-shelf b) ∙ e);
              others = λ b c e m. n.others b c (sym (same-shelf b) ∙ e) m;
            })

        fit : PlacesFit TB Form Good Fresh table_then (with_place w.places which block)
        fit =
            record {
              inside = each-kind (λ k. TB (place_of (with_place w.places which block) k)) which
                  (subst TB (sym (placed-own w.places which block)) place_law.0) (subst TB (sym (placed-else w.places which block)) (p.places.inside (other_of which)));
              free = each-kind (λ k. calls_bad table_then (place_of (with_place w.places which block) k) ≡ false) which
                  (ap (calls_bad table_then) (placed-own w.places which block) ∙ place_law.1) (ap (calls_bad table_then) (placed-else w.places which block) ∙ there-free);
              apart = each-kind (λ k. place_of (with_place w.places which block) k ≢ place_of (with_place w.places which block) (other_of k)) which
                  (λ e. place_law.2 (sym (placed-own w.places which block) ∙ e ∙ placed-else w.places which block))
                  (λ e. place_law.2 (sym (placed-own w.places which block) ∙ ap (place_of (with_place w.places which block)) (sym (other-other which)) ∙ sym e ∙ placed-else w.places which block));
            }

        within : (c : Held) → IsWithin TB Form Good Fresh w c img → IsWithin TB Form Good Fresh next c (image_of TB Form Good Fresh next which)
        within c h = (
          suc h.0,
          omega (arith, h.1, some_left),
          ap next_version h.2 ∙ next-steps c.version h.0,
          λ z. absurd (omega (arith, z)),
        )

        others-then : (b : ℕ) (c : Held) → y b ≡ Some c
            → (calls_bad table_then b ≡ true)
            ⊎ ((b ≡ there) × (c.which ≡ other_of which) × IsWithin TB Form Good Fresh next c (image_of TB Form Good Fresh next which) × Good c.table)
        others-then b c e = on (eqb_tells b here)
          where
            Goal : Type 0
            Goal = (calls_bad table_then b ≡ true) ⊎ ((b ≡ there) × (c.which ≡ other_of which) × IsWithin TB Form Good Fresh next c (image_of TB Form Good Fresh next which) × Good c.table)

            before : (calls_bad w.table b ≡ true) ⊎ ((b ≡ there) × (c.which ≡ other_of which) × IsWithin TB Form Good Fresh w c img × Good c.table) → Goal
            before (inl h) = inl (covers b h)
            before (inr h) = inr (h.0, h.1, within c h.2, h.3)

            on : ((b == here) ≡ true) × (b ≡ here) ⊎ (((b == here) ≡ false) × (b ≢ here)) → Goal
            on (inl t) = inl (ap (calls_bad table_then) t.1 ∙ laws.hit w.table here (p.places.inside which) p.writable.form)
            on (inr t) = before (p.others b c (still b c e t.1) t.1)

        pub goes-elsewhere : Pending TB Form Good Fresh next which (other_of which ∷ []) y
        goes-elsewhere =
            record {
              writable = record {
                byte = next-byte w.version;
                form = laws.form w.table here (p.places.inside which) p.writable.form;
                shows = shows-then;
              };
              places = fit;
              few = omega (arith, p.few, some_left);
              resting = rests;
              clear = subst (λ x. Rests TB Form Good Fresh (with_held y x None)) (sym (placed-own w.places which block)) (clear-then rests);
              beneath = beneath-then;
              others = λ b c e n. subst (λ x. (calls_bad table_then b ≡ true)
                  ⊎ ((b ≡ x) × (c.which ≡ other_of which) × IsWithin TB Form Good Fresh next c (image_of TB Form Good Fresh next which) × Good c.table)) (sym (placed-else w.places which block)) (others-then b c e);
              goes_on = inl refl;
              going = p.going;
              blank = λ e. absurd (true≢false (sym e));
              kept = λ none b. sym (same-shelf b) ∙ subst (λ x. with_held y x None b ≡ None) (placed-own w.places which block) (none b);
              aside = inl (subst (λ x. y x ≡ None) (sym (placed-own w.places which block)) (sym (same-shelf block) ∙ held-own y block None));
            }

      -- the writing after the failure, with what has become of the page
      pub failed-then : (o : Option ℕ) (n : ℕ) → next_place g table_then there ≡ o → w.chances ≡ n
          → Keeps TB Form Good Fresh (moved then which o n) (moved then which o n).left y
      failed-then None n e m = (rests, whole-own w.whole which false, shows-then, laws.form w.table here (p.places.inside which) p.writable.form)
      failed-then (Some block) zero e m = (rests, whole-own w.whole which false, shows-then, laws.form w.table here (p.places.inside which) p.writable.form)
      failed-then (Some block) (suc chances) e m = goes-elsewhere block chances e m

      pub failed-well : Keeps TB Form Good Fresh (with_retired g w which) (with_retired g w which).left y
      failed-well = failed-then (next_place g table_then there) w.chances refl refl
