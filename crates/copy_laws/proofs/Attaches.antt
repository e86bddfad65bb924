-- An attach ends with two whole copies, or its writing has failed for one of them. Its places are
-- two of the last four blocks.
use Rattle.std.proofs.Common.{◌≡◌, ◌≢◌, ◌⊎◌, inl, inr, ◌≤◌, ◌<◌, ◌-◌, ◌&&◌, ◌==◌, not, ℕ, Bool, true, false, List, [], ◌∷◌, ◌++◌, filter, find, map, zip, unwrap_or, Option, Some, None, refl, ap, sym, ◌∙◌, subst, arith}
use Rattle.std.specs.Prelude.{⊤}
use Rattle.std.proofs.lemmas.Bool.{and_parts}
use Rattle.std.proofs.lemmas.Bool.Decides.{eqb_tells}
use Rattle.std.proofs.lemmas.Option.{none-some, same_Some}
use Rattle.nand_model.specs.Page.{marker_byte}
use Rattle.nand_model.specs.Sizes.{numbers_from}
use Rattle.nand_model.specs.Table.{Copy, copy_in, has_tables, same_which, table_blocks}
use Rattle.nand_model.specs.Path.{Path, Over, cells_of}
use Rattle.nand_model.proofs.Bounds.{bounds}
use Rattle.nand_model.specs.declared.geometry.Geometry.{Geometry}
use Rattle.nand_model.specs.declared.words.Choice.{Choice}
use Rattle.nand_model.specs.declared.words.Choice.TheVariants.{Primary as UsePrimary, Mirror as UseMirror, Neither}
use Rattle.nand_model.specs.declared.words.Which.{Which}
use Rattle.nand_model.specs.declared.words.Which.TheVariants.{Primary, Mirror}
use Rattle.chip_paths.specs.Attach.{Attaching, attach_by, attach_path, attaching_of, marker_table, read_first_pages, rewrite_copies, use_copy, use_found, whole_at_first, with_reserved}
use Rattle.chip_paths.specs.ChipRun.{known_at_first}
use Rattle.chip_paths.specs.Copies.{block_found, candidates, choice_of, copies_held, first_free, first_other, found, found_calls_bad, is_disowned, is_other, is_valid, place_beside, places_of, rewritten, used_copy, version_found, with_copy}
use Rattle.chip_paths.specs.Operation.{Known}
use Rattle.chip_paths.specs.Writing.{Places, Writing, is_whole, place_of, writing_of}
use Rattle.page_laws.specs.Keeping.{IsIn}
use Rattle.relocation_laws.proofs.Attaching.{find-some}
use Rattle.relocation_laws.proofs.Tables.{find-in}
use Rattle.copy_laws.proofs.Sound.{AreAmong, Failing, Sound}
use Rattle.copy_laws.proofs.Writings.{FailedFor, IsLeft, Underway, apart_if, failed_more, if_apart, underway_over, underway_start, writing_sound}

-- what is known of an attached chip: its places are two of the last four blocks, and two copies are
-- whole or a writing has failed for one of them
pub record Told (g : Geometry) (known : Known) (failing : Failing) : Type 0 where
  pub inside : (q : Which) → IsIn (table_blocks g) (place_of known.places q)
  pub apart : known.places.primary ≢ known.places.mirror
  pub copies : (known.copies ≡ 2) ⊎ FailedFor g known.table known.places failing

pub told_more : (g : Geometry) (known : Known) (x y : Failing) → AreAmong x y → Told g known x → Told g known y
told_more g known x y among t = record { inside = t.inside; apart = t.apart; copies = on t.copies }
  where
    on : (known.copies ≡ 2) ⊎ FailedFor g known.table known.places x → (known.copies ≡ 2) ⊎ FailedFor g known.table known.places y
    on (inl two) = inl two
    on (inr failed) = inr (failed_more g known.table known.places x y among failed)

-- ---- the places
-- blocks of these, each below the one before it
abbrev Falls : {X : Type 0} → List ℕ → ℕ → List (ℕ × X) → Type 0
Falls blocks n [] = ⊤
Falls blocks n ((b, x) ∷ xs) = (b < n) × IsIn blocks b × Falls blocks b xs

falls_lower : {X : Type 0} (blocks : List ℕ) (m n : ℕ) (xs : List (ℕ × X)) → m ≤ n → Falls blocks m xs → Falls blocks n xs
falls_lower blocks m n [] less h = tt
falls_lower blocks m n ((b, x) ∷ xs) less h = (let low = h.0 in omega (arith, less, low), h.1, h.2)

falls_filtered : {X : Type 0} (blocks : List ℕ) (test : (ℕ × X) → Bool) (n : ℕ) (xs : List (ℕ × X)) → Falls blocks n xs → Falls blocks n (filter test xs)
falls_filtered blocks test n [] h = tt
falls_filtered blocks test n ((b, x) ∷ xs) h = on (test (b, x)) refl (falls_filtered blocks test b xs h.2)
  where
    on : (t : Bool) → test (b, x) ≡ t → Falls blocks b (filter test xs) → Falls blocks n (filter test ((b, x) ∷ xs))
    on true e later = rw e (h.0, h.1, later)
    on false e later =
        let low : b < n = h.0 in
        let less : b ≤ n = omega (arith, low) in
        rw e (falls_lower blocks b n (filter test xs) less later)

abbrev FallsAlone : List ℕ → ℕ → List ℕ → Type 0
FallsAlone blocks n [] = ⊤
FallsAlone blocks n (b ∷ bs) = (b < n) × IsIn blocks b × FallsAlone blocks b bs

falls_zipped : {X : Type 0} (blocks : List ℕ) (n : ℕ) (bs : List ℕ) (xs : List X) → FallsAlone blocks n bs → Falls blocks n (zip bs xs)
falls_zipped blocks n [] xs h = tt
falls_zipped blocks n (b ∷ bs) [] h = tt
falls_zipped blocks n (b ∷ bs) (x ∷ xs) h = (h.0, h.1, falls_zipped blocks b bs xs h.2)

-- a copy stands in this block
abbrev Has : List (ℕ × Copy) → ℕ → Copy → Type 0
Has [] b c = ⊥
Has ((x, d) ∷ xs) b c = ((x ≡ b) × (d ≡ c)) ⊎ Has xs b c

find_has : (test : (ℕ × Copy) → Bool) (xs : List (ℕ × Copy)) (b : ℕ) (c : Copy) → find test xs ≡ Some (b, c) → Has xs b c × (test (b, c) ≡ true)
find_has test [] b c e = absurd (none-some (b, c) e)
find_has test ((x, d) ∷ xs) b c e = on (test (x, d)) refl (find_has test xs b c)
  where
    on : (t : Bool) → test (x, d) ≡ t → (find test xs ≡ Some (b, c) → Has xs b c × (test (b, c) ≡ true)) → Has ((x, d) ∷ xs) b c × (test (b, c) ≡ true)
    on true h later =
        let same : (x, d) ≡ (b, c) = same_Some (x, d) (b, c) (rw h at e) in
        (inl (ap (λ (p : ℕ × Copy). p.0) same, ap (λ (p : ℕ × Copy). p.1) same), ap test (sym same) ∙ h)
    on false h later = let r = later (rw h at e) in (inr r.0, r.1)

has_below : (blocks : List ℕ) (n : ℕ) (xs : List (ℕ × Copy)) (b : ℕ) (c : Copy) → Falls blocks n xs → Has xs b c → (b < n) × IsIn blocks b
has_below blocks n [] b c h i = absurd i
has_below blocks n ((x, d) ∷ xs) b c h (inl (e, f)) = (subst (λ z. z < n) e h.0, subst (IsIn blocks) e h.1)
has_below blocks n ((x, d) ∷ xs) b c h (inr i) =
    let r = has_below blocks x xs b c h.2 i in
    let low : x < n = h.0 in
    let lower : b < x = r.0 in
    (omega (arith, low, lower), r.1)

-- a block has one copy
one_copy : (blocks : List ℕ) (n : ℕ) (xs : List (ℕ × Copy)) (b : ℕ) (c d : Copy) → Falls blocks n xs → Has xs b c → Has xs b d → c ≡ d
one_copy blocks n [] b c d h i j = absurd i
one_copy blocks n ((x, y) ∷ xs) b c d h (inl (e, f)) (inl (e1, f1)) = sym f ∙ f1
one_copy blocks n ((x, y) ∷ xs) b c d h (inl (e, f)) (inr j) =
    let lower : b < x = (has_below blocks x xs b d h.2 j).0 in
    absurd (omega (arith, lower, e))
one_copy blocks n ((x, y) ∷ xs) b c d h (inr i) (inl (e, f)) =
    let lower : b < x = (has_below blocks x xs b c h.2 i).0 in
    absurd (omega (arith, lower, e))
one_copy blocks n ((x, y) ∷ xs) b c d h (inr i) (inr j) = one_copy blocks x xs b c d h.2 i j

same_kind : (a b : Which) → same_which a b ≡ true → a ≡ b
same_kind Primary Primary h = refl
same_kind Primary Mirror h = absurd (cc)
same_kind Mirror Primary h = absurd (cc)
same_kind Mirror Mirror h = refl

-- not the other copy's place
abbrev IsApart : Option ℕ → ℕ → Type 0
IsApart None b = ⊤
IsApart (Some other) b = other ≢ b

other_apart : (other : Option ℕ) (b : ℕ) → is_other other b ≡ true → IsApart other b
other_apart None b h = tt
other_apart (Some other) b h = apart_if other b h

found_at : (o : Option (ℕ × Copy)) (b : ℕ) → block_found o ≡ Some b → (c : Copy) × (o ≡ Some (b, c))
found_at None b e = absurd (none-some b e)
found_at (Some (x, c)) b e = (c, ap (λ y. Some (y, c)) (same_Some x b e))

module _ (g : Geometry) where
  abbrev four : List ℕ
  four = table_blocks g

  enough : 8 ≤ g.blocks
  enough = (bounds g).blocks_low

  four_fall : FallsAlone (table_blocks g) g.blocks (table_blocks g)
  four_fall =
      let low = enough in (
        omega (arith, low),
        inl refl,
        (omega (arith, low), inr (inl refl), (omega (arith, low), inr (inr (inl refl)), (omega (arith, low), inr (inr (inr (inl refl))), tt))),
      )

  held_fall : (n : ℕ) (cs : List (ℕ × List ℕ)) → Falls (table_blocks g) n cs → Falls (table_blocks g) n (copies_held g cs)
  held_fall n [] h = tt
  held_fall n ((b, cells) ∷ later) h = on (copy_in g cells) (held_fall b later h.2)
    where
      on : (o : Option Copy) → Falls (table_blocks g) b (copies_held g later) → Falls (table_blocks g) n (with_copy b o (copies_held g later))
      on None rest =
          let low : b < n = h.0 in
          let less : b ≤ n = omega (arith, low) in
          falls_lower (table_blocks g) b n (copies_held g later) less rest
      on (Some copy) rest = (h.0, h.1, rest)

  blocks_in : (n : ℕ) (cs : List (ℕ × List ℕ)) (b : ℕ) → Falls (table_blocks g) n cs → IsIn (map (λ (c : ℕ × List ℕ). c.0) cs) b → IsIn (table_blocks g) b
  blocks_in n [] b h i = absurd i
  blocks_in n ((x, cells) ∷ cs) b h (inl e) = subst (IsIn (table_blocks g)) (sym e) h.1
  blocks_in n ((x, cells) ∷ cs) b h (inr i) = blocks_in x cs b h.2 i

  -- one of the last four blocks is not the other's place
  some_other : (other : Option ℕ) → (x : ℕ) × (first_other other (table_blocks g) ≡ Some x) × IsIn (table_blocks g) x × (is_other other x ≡ true)
  some_other None = find-some (is_other None) (table_blocks g) (g.blocks - 1) (inl refl) refl
  some_other (Some other) = on (eqb_tells other (g.blocks - 1))
    where
      on : ((other == g.blocks - 1) ≡ true) × (other ≡ g.blocks - 1) ⊎ (((other == g.blocks - 1) ≡ false) × (other ≢ g.blocks - 1))
          → (x : ℕ) × (first_other (Some other) (table_blocks g) ≡ Some x) × IsIn (table_blocks g) x × (is_other (Some other) x ≡ true)
      on (inl t) =
          let low = enough in
          let same = t.1 in
          let apart : other ≢ g.blocks - 2 = (λ e. absurd (omega (arith, low, same, e))) in
          find-some (is_other (Some other)) (table_blocks g) (g.blocks - 2) (inr (inl refl)) (if_apart other (g.blocks - 2) apart)
      on (inr t) = find-some (is_other (Some other)) (table_blocks g) (g.blocks - 1) (inl refl) (if_apart other (g.blocks - 1) t.1)

  module _ (cs : List (ℕ × List ℕ)) (falls : Falls (table_blocks g) g.blocks cs) where
    abbrev held : List (ℕ × Copy)
    held = copies_held g cs

    abbrev primary : Option (ℕ × Copy)
    primary = found g Primary cs

    abbrev mirror : Option (ℕ × Copy)
    mirror = found g Mirror cs

    abbrev blocks : List ℕ
    blocks = map (λ (c : ℕ × List ℕ). c.0) cs

    is_there : (k : Which) (b : ℕ) (c : Copy) → found g k cs ≡ Some (b, c) → Has held b c × (c.which ≡ k)
    is_there k b c e =
        let r = find_has (is_valid held k) held b c e in
        (r.0, same_kind c.which k (and_parts (same_which c.which k) (not (is_disowned held b)) r.1).0)

    inside_found : (k : Which) (b : ℕ) → block_found (found g k cs) ≡ Some b → IsIn (table_blocks g) b
    inside_found k b e =
        let at = found_at (found g k cs) b e in
        (has_below (table_blocks g) g.blocks held b at.0 (held_fall g.blocks cs falls) (is_there k b at.0 at.1).0).1

    apart_found : (p m : ℕ) → block_found primary ≡ Some p → block_found mirror ≡ Some m → p ≢ m
    apart_found p m e f same =
        let a = found_at primary p e in
        let b = found_at mirror m f in
        let i = is_there Primary p a.0 a.1 in
        let j = is_there Mirror m b.0 b.1 in
        let copy : a.0 ≡ b.0 = one_copy (table_blocks g) g.blocks held p a.0 b.0 (held_fall g.blocks cs falls) i.0 (subst (λ x. Has held x b.0) (sym same) j.0) in
        let kinds : Primary ≡ Mirror = sym i.1 ∙ ap (λ (c : Copy). c.which) copy ∙ j.1 in
        absurd (cc kinds)

    beside : (own other : Option ℕ) → ((b : ℕ) → own ≡ Some b → IsIn (table_blocks g) b × IsApart other b)
        → IsIn (table_blocks g) (place_beside g blocks primary mirror own other) × IsApart other (place_beside g blocks primary mirror own other)
    beside (Some b) other h = h b refl
    beside None other h = on (first_free primary mirror other blocks) refl
      where
        last : (x : ℕ) × (first_other other (table_blocks g) ≡ Some x) × IsIn (table_blocks g) x × (is_other other x ≡ true)
        last = some_other other

        on : (o : Option ℕ) → first_free primary mirror other blocks ≡ o
            → IsIn (table_blocks g) (unwrap_or o (unwrap_or (first_other other (table_blocks g)) 0)) × IsApart other (unwrap_or o (unwrap_or (first_other other (table_blocks g)) 0))
        on (Some b) e =
            let r = find-in (λ block. is_other other block && not (found_calls_bad primary block) && not (found_calls_bad mirror block)) blocks b e in
            let two = and_parts (is_other other b && not (found_calls_bad primary b)) (not (found_calls_bad mirror b)) r.1 in
            let one = and_parts (is_other other b) (not (found_calls_bad primary b)) two.0 in
            (blocks_in g.blocks cs b falls r.0, other_apart other b one.0)
        on None e =
            subst (λ (o : Option ℕ). IsIn (table_blocks g) (unwrap_or o 0) × IsApart other (unwrap_or o 0)) (sym last.1) (last.2, other_apart other last.0 last.3)

    abbrev first : ℕ
    first = place_beside g blocks primary mirror (block_found primary) (block_found mirror)

    first_fits : IsIn (table_blocks g) first × IsApart (block_found mirror) first
    first_fits = beside (block_found primary) (block_found mirror) (λ b e. (inside_found Primary b e, on b e (block_found mirror) refl))
      where
        on : (b : ℕ) → block_found primary ≡ Some b → (o : Option ℕ) → block_found mirror ≡ o → IsApart o b
        on b e None f = tt
        on b e (Some m) f = λ same. apart_found b m e f (sym same)

    second_fits : IsIn (table_blocks g) (place_beside g blocks primary mirror (block_found mirror) (Some first)) × IsApart (Some first) (place_beside g blocks primary mirror (block_found mirror) (Some first))
    second_fits = beside (block_found mirror) (Some first) (λ b e. (inside_found Mirror b e, λ same. subst (λ o. IsApart o first) e first_fits.1 (sym same)))

    pub places_inside : (q : Which) → IsIn (table_blocks g) (place_of (places_of g cs) q)
    places_inside Primary = first_fits.0
    places_inside Mirror = second_fits.0

    pub places_apart : (places_of g cs).primary ≢ (places_of g cs).mirror
    places_apart = second_fits.1

  -- the candidates are some of the last four blocks, from the last downwards
  candidates_fall : (pages : List (List ℕ)) → Falls (table_blocks g) g.blocks (candidates g pages)
  candidates_fall pages =
      falls_filtered (table_blocks g) (λ (c : ℕ × List ℕ). marker_byte g c.1 == 0xff) g.blocks (zip (table_blocks g) pages)
      (falls_zipped (table_blocks g) g.blocks (table_blocks g) pages four_fall)

  -- ---- the path
  abbrev pub AttachEnds : Attaching → Failing → Type 0
  AttachEnds a failing = Told g (known_at_first a) failing

  going_at_first : (choice : Choice) (q : Which) → (is_whole (whole_at_first choice) q ≡ true) ⊎ IsLeft (rewritten choice) q
  going_at_first (UsePrimary true) Primary = inl refl
  going_at_first (UsePrimary true) Mirror = inr (inl refl)
  going_at_first (UsePrimary false) Primary = inl refl
  going_at_first (UsePrimary false) Mirror = inl refl
  going_at_first (UseMirror true) Primary = inr (inl refl)
  going_at_first (UseMirror true) Mirror = inl refl
  going_at_first (UseMirror false) Primary = inl refl
  going_at_first (UseMirror false) Mirror = inl refl
  going_at_first Neither Primary = inr (inl refl)
  going_at_first Neither Mirror = inr (inr (inl refl))

  reads_sound : (blocks : List ℕ) (pages : List (List ℕ)) (go_on : List (List ℕ) → Path Attaching) → ((all : List (List ℕ)) (failing : Failing) → Sound g AttachEnds (go_on all) failing)
      → (failing : Failing) → Sound g AttachEnds (read_first_pages g blocks pages go_on) failing
  reads_sound [] pages go_on h failing = h pages failing
  reads_sound (b ∷ blocks) pages go_on h failing = λ answer now among told. reads_sound blocks (pages ++ cells_of answer ∷ []) go_on h now

  module _ (places : Places) (inside : (q : Which) → IsIn (table_blocks g) (place_of places q)) (apart : places.primary ≢ places.mirror) (choice : Choice) where
    over_sound : (w : Writing) (failing : Failing) → Underway g w failing → w.left ≡ [] → Sound g AttachEnds (Over (attaching_of choice w)) failing
    over_sound w failing u over = record { inside = u.inside; apart = u.apart; copies = underway_over g w failing u over }

    rewrite_sound : (version : ℕ) (states : List ℕ) (failing : Failing) → Sound g AttachEnds (rewrite_copies g places choice version states) failing
    rewrite_sound version states failing =
        writing_sound g AttachEnds (λ w. Over (attaching_of choice w)) over_sound (writing_of (with_reserved g states) version places (whole_at_first choice) (rewritten choice)) failing
        (underway_start g (with_reserved g states) version places (whole_at_first choice) (rewritten choice) failing inside apart (going_at_first choice))

    use_sound : (used : Option (ℕ × Copy)) (failing : Failing) → Sound g AttachEnds (use_copy g places choice used) failing
    use_sound None failing =
        reads_sound (numbers_from 0 g.blocks) [] (λ pages. rewrite_copies g places choice 1 (marker_table g pages)) (λ all now. rewrite_sound 1 (marker_table g all) now) failing
    use_sound (Some (block, copy)) failing = rewrite_sound copy.version copy.states failing

  found_sound : (pages : List (List ℕ)) (failing : Failing)
      → Sound g AttachEnds (use_found g (places_of g (candidates g pages)) (found g Primary (candidates g pages)) (found g Mirror (candidates g pages))) failing
  found_sound pages failing =
      use_sound (places_of g (candidates g pages)) (places_inside (candidates g pages) (candidates_fall pages)) (places_apart (candidates g pages) (candidates_fall pages))
      (choice_of (version_found (found g Primary (candidates g pages))) (version_found (found g Mirror (candidates g pages))))
      (used_copy (choice_of (version_found (found g Primary (candidates g pages))) (version_found (found g Mirror (candidates g pages)))) (found g Primary (candidates g pages)) (found g Mirror (candidates g pages))) failing

  -- an attach of a chip with tables
  pub attach_sound : has_tables g ≡ true → (failing : Failing) → Sound g AttachEnds (attach_path g) failing
  attach_sound tables failing =
      subst (λ t. Sound g AttachEnds (attach_by t g) failing) (sym tables)
      (reads_sound (table_blocks g) []
      (λ pages. use_found g (places_of g (candidates g pages)) (found g Primary (candidates g pages)) (found g Mirror (candidates g pages))) found_sound failing)
