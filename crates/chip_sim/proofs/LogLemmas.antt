-- Flips that lead to the flip before them in their page.
use Rattle.std.proofs.Common.{◌≡◌, ◌⊎◌, ℕ, zero, suc, ◌+◌, ◌<◌, arith, refl, ap, sym, ◌∙◌, subst, inl, inr, true, false, List, [], ◌∷◌, ◌++◌, length, map, fold, min, slice_set, slice_index_or, Option, Some, None, replicate, if◌then◌else◌}
use Rattle.std.specs.Prelude.{◌==◌, ◌&&◌, nat_le, nat_lt, option_map, slice_get, unwrap_or, IfSome}
use Rattle.std.proofs.lemmas.Bool.Decides.{eqb_tells}
use Rattle.std.proofs.lemmas.List.{get_or_default, get_or-set_same, get_or-set_other, length-append}
use Rattle.std.proofs.lemmas.List.Sums.{fold_push, sum_by-append}
use Rattle.std.proofs.lemmas.Option.{IfSome_then, slice_get-get_or}
use Rattle.nand_model.specs.Flips.{flips_between}
use Rattle.chip_sim.specs.FlipLog.{AreLinked, LeadBack, bits_at, bits_up_to, flips_of}
use Rattle.chip_sim.specs.declared.flip_log.FlippedBit.{FlippedBit}

-- lists with an item at the end

at_end : {A : Type 0} (xs : List A) (x d : A) → slice_index_or (xs ++ x ∷ []) (length xs) d ≡ x
at_end [] x d = refl
at_end (y ∷ ys) x d = at_end ys x d

before_end : {A : Type 0} (xs : List A) (x d : A) (k : ℕ) → k < length xs → slice_index_or (xs ++ x ∷ []) k d ≡ slice_index_or xs k d
before_end [] x d k there = absurd (omega arith)
before_end (y ∷ ys) x d zero there = refl
before_end (y ∷ ys) x d (suc k) there = before_end ys x d k (omega arith)

got_before_end : {A : Type 0} (xs : List A) (x y : A) (k : ℕ) → slice_get (xs ++ x ∷ []) k ≡ Some y → (slice_get xs k ≡ Some y) ⊎ ((k ≡ length xs) × (x ≡ y))
got_before_end [] x y zero got = let same : x ≡ y = cc in inr (refl, same)
got_before_end [] x y (suc k) got = absurd cc
got_before_end (z ∷ zs) x y zero got = inl got
got_before_end (z ∷ zs) x y (suc k) got =
    elim (got_before_end zs x y k got) [
      | inl there ↦ inl there
      | inr last ↦ inr (ap suc last.0, last.1)
    ]

mapped : {A B : Type 0} (f : A → B) (xs : List A) (k : ℕ) (d : A) → slice_index_or (map f xs) k (f d) ≡ f (slice_index_or xs k d)
mapped f [] k d = refl
mapped f (x ∷ xs) zero d = refl
mapped f (x ∷ xs) (suc k) d = mapped f xs k d

-- one more item of the list of bits
abbrev more : List (List ℕ) → FlippedBit → List (List ℕ)
more all flip = all ++ (bits_at all flip.before ++ flip.bit ∷ []) ∷ []

length-more : (all : List (List ℕ)) (flip : FlippedBit) → length (more all flip) ≡ length all + 1
length-more all flip = let made = length-append all ((bits_at all flip.before ++ flip.bit ∷ []) ∷ []) in omega (arith, made)

length-fold : (all : List (List ℕ)) (flips : List FlippedBit) → length (fold more all flips) ≡ length all + length flips
length-fold all [] = omega arith
length-fold all (flip ∷ flips) =
    let here = length-more all flip in
    let rest = length-fold (more all flip) flips in
    omega (arith, here, rest)

many : (flips : List FlippedBit) → length (bits_up_to flips) ≡ length flips
many flips = let all = length-fold [] flips in omega (arith, all)

-- what stands in the list stays
stays : (all : List (List ℕ)) (flips : List FlippedBit) (k : ℕ) → k < length all → slice_index_or (fold more all flips) k [] ≡ slice_index_or all k []
stays all [] k there = refl
stays all (flip ∷ flips) k there =
    let longer = length-more all flip in
    stays (more all flip) flips k (omega (arith, longer)) ∙ before_end all (bits_at all flip.before ++ flip.bit ∷ []) [] k there

stays_at : (all : List (List ℕ)) (flips : List FlippedBit) (place : Option ℕ) → IfSome place (λ k. k < length all)
    → bits_at (fold more all flips) place ≡ bits_at all place
stays_at all flips None there = refl
stays_at all flips (Some k) there = stays all flips k there

-- the bits up to a flip, where the list begins with those up to earlier ones
read_from : (all : List (List ℕ)) (flips : List FlippedBit) (n : ℕ) (flip : FlippedBit) → slice_get flips n ≡ Some flip
    → IfSome flip.before (λ k. k < length all + n)
    → slice_index_or (fold more all flips) (length all + n) [] ≡ bits_at (fold more all flips) flip.before ++ flip.bit ∷ []
read_from all [] n flip got there = absurd cc
read_from all (first ∷ flips) zero flip got there =
    let same : first ≡ flip = cc in
    let longer = length-more all flip in
    let here : length all + zero ≡ length all = omega arith in
    let kept : IfSome flip.before (λ k. k < length all) = subst (λ m. IfSome flip.before (λ k. k < m)) here there in
    let bits : List ℕ = bits_at all flip.before ++ flip.bit ∷ [] in
    let lower : slice_index_or (fold more (more all flip) flips) (length all) [] ≡ bits_at all flip.before ++ flip.bit ∷ [] =
    stays (more all flip) flips (length all) (omega (arith, longer)) ∙ at_end all (bits_at all flip.before ++ flip.bit ∷ []) [] in
    let upper : bits_at (fold more all (flip ∷ flips)) flip.before ≡ bits_at all flip.before = stays_at all (flip ∷ flips) flip.before kept in
    subst (λ m. slice_index_or (fold more all (first ∷ flips)) m [] ≡ bits_at (fold more all (first ∷ flips)) flip.before ++ flip.bit ∷ []) (sym here)
    (subst (λ f. slice_index_or (fold more all (f ∷ flips)) (length all) [] ≡ bits_at (fold more all (f ∷ flips)) flip.before ++ flip.bit ∷ []) (sym same)
    (lower ∙ ap (λ bs. bs ++ flip.bit ∷ []) (sym upper)))
read_from all (first ∷ flips) (suc n) flip got there =
    let longer = length-more all first in
    let place : length (more all first) + n ≡ length all + suc n = omega (arith, longer) in
    subst (λ m. slice_index_or (fold more (more all first) flips) m [] ≡ bits_at (fold more (more all first) flips) flip.before ++ flip.bit ∷ []) place
    (read_from (more all first) flips n flip got (subst (λ m. IfSome flip.before (λ k. k < m)) (sym place) there))

-- the bits up to a flip are those up to the one before it, and its own
pub bits_at-read : (flips : List FlippedBit) (place : ℕ) (flip : FlippedBit) → LeadBack flips → slice_get flips place ≡ Some flip
    → bits_at (bits_up_to flips) (Some place) ≡ bits_at (bits_up_to flips) flip.before ++ flip.bit ∷ []
bits_at-read flips place flip back got =
    let here : length {A = List ℕ} [] + place ≡ place = omega arith in
    subst (λ m. slice_index_or (bits_up_to flips) m [] ≡ bits_at (bits_up_to flips) flip.before ++ flip.bit ∷ []) here
    (read_from [] flips place flip got (subst (λ m. IfSome flip.before (λ k. k < m)) (sym here) (back place flip got)))

-- flips are counted from the last one back
pub counted : (flips : List FlippedBit) (place from to : ℕ) (flip : FlippedBit) → LeadBack flips → slice_get flips place ≡ Some flip
    → flips_between (bits_at (bits_up_to flips) (Some place)) from to
    ≡ flips_between (bits_at (bits_up_to flips) flip.before) from to + (if nat_le from flip.bit && nat_lt flip.bit to then 1 else 0)
counted flips place from to flip back got =
    let one : (if nat_le from flip.bit && nat_lt flip.bit to then 1 else 0) ≡ flips_between (flip.bit ∷ []) from to = omega arith in
    ap (λ bits. flips_between bits from to) (bits_at-read flips place flip back got)
    ∙ sum_by-append (λ bit. if nat_le from bit && nat_lt bit to then 1 else 0) (bits_at (bits_up_to flips) flip.before) (flip.bit ∷ [])
    ∙ ap (λ n. flips_between (bits_at (bits_up_to flips) flip.before) from to + n) (sym one)

-- a page after a flip was put
module _ (flips : List FlippedBit) (last : List (Option ℕ)) (linked : AreLinked flips last) (page bit : ℕ) (there : page < length last) where
  -- the flip that is put
  abbrev put : FlippedBit
  put = record { bit = bit; before = slice_index_or last page None }

  pub linked-put : AreLinked (flips ++ put ∷ []) (slice_set last page (Some (length flips)))
  linked-put =
      let longer = length-append flips (put ∷ []) in
      let within : (place : Option ℕ) → IfSome place (λ k. k < length flips) → IfSome place (λ k. k < length (flips ++ put ∷ [])) =
      λ place. elim place as (λ o. IfSome o (λ k. k < length flips) → IfSome o (λ k. k < length (flips ++ put ∷ []))) [
        | None ↦ λ h. tt
        | Some k ↦ λ h. omega (arith, longer)
      ] in
      record {
        back = λ place flip got. elim (got_before_end flips put flip place got) [
          | inl before ↦ linked.back place flip before
          | inr end ↦ subst (λ f. IfSome f.before (λ k. k < place)) end.1
              (subst (λ n. IfSome (slice_index_or last page None) (λ k. k < n)) (sym end.0) (linked.there page))
        ];
        there = λ p. elim (eqb_tells p page) [
          | inl same ↦
              subst (λ o. IfSome o (λ k. k < length (flips ++ put ∷ [])))
              (sym (ap (λ q. slice_index_or (slice_set last page (Some (length flips))) q None) same.1 ∙ get_or-set_same last page (Some (length flips)) None there))
              (omega (arith, longer))
          | inr other ↦
              subst (λ o. IfSome o (λ k. k < length (flips ++ put ∷ [])))
              (sym (get_or-set_other last page p (Some (length flips)) None other.1)) (within (slice_index_or last p None) (linked.there p))
        ];
      }

  pub flips_of-put : (p : ℕ)
      → flips_of (map (bits_at (bits_up_to (flips ++ put ∷ []))) (slice_set last page (Some (length flips)))) p
      ≡ (if p == page then flips_of (map (bits_at (bits_up_to flips)) last) p ++ bit ∷ [] else flips_of (map (bits_at (bits_up_to flips)) last) p)
  flips_of-put p =
      let same_many = many flips in
      let pushed : bits_up_to (flips ++ put ∷ []) ≡ more (bits_up_to flips) put = fold_push more [] flips put in
      let old : (q : ℕ) → flips_of (map (bits_at (bits_up_to flips)) last) q ≡ bits_at (bits_up_to flips) (slice_index_or last q None) =
      λ q. mapped (bits_at (bits_up_to flips)) last q None in
      let new : flips_of (map (bits_at (bits_up_to (flips ++ put ∷ []))) (slice_set last page (Some (length flips)))) p
      ≡ bits_at (more (bits_up_to flips) put) (slice_index_or (slice_set last page (Some (length flips))) p None) =
      mapped (bits_at (bits_up_to (flips ++ put ∷ []))) (slice_set last page (Some (length flips))) p None
      ∙ ap (λ all. bits_at all (slice_index_or (slice_set last page (Some (length flips))) p None)) pushed in
      elim (eqb_tells p page) [
        | inl same ↦
            let here : slice_index_or (slice_set last page (Some (length flips))) p None ≡ Some (length flips) =
            ap (λ q. slice_index_or (slice_set last page (Some (length flips))) q None) same.1 ∙ get_or-set_same last page (Some (length flips)) None there in
            let end : slice_index_or (more (bits_up_to flips) put) (length flips) [] ≡ bits_at (bits_up_to flips) (slice_index_or last page None) ++ bit ∷ [] =
            ap (λ n. slice_index_or (more (bits_up_to flips) put) n []) (sym same_many)
            ∙ at_end (bits_up_to flips) (bits_at (bits_up_to flips) (slice_index_or last page None) ++ bit ∷ []) [] in
            rw same.0 (new ∙ ap (bits_at (more (bits_up_to flips) put)) here ∙ end
            ∙ ap (λ q. bits_at (bits_up_to flips) (slice_index_or last q None) ++ bit ∷ []) (sym same.1) ∙ ap (λ bs. bs ++ bit ∷ []) (sym (old p)))
        | inr other ↦
            let kept : IfSome (slice_index_or last p None) (λ k. k < length (bits_up_to flips)) =
            subst (λ n. IfSome (slice_index_or last p None) (λ k. k < n)) (sym same_many) (linked.there p) in
            rw other.0 (new ∙ ap (bits_at (more (bits_up_to flips) put)) (get_or-set_other last page p (Some (length flips)) None other.1)
            ∙ stays_at (bits_up_to flips) (put ∷ []) (slice_index_or last p None) kept ∙ sym (old p))
      ]

-- pages whose flips are forgotten
module _ (flips : List FlippedBit) (old new : List (Option ℕ)) (first end : ℕ)
    (cleared : (p : ℕ) → slice_index_or new p None ≡ (if nat_le first p && nat_lt p end then None else slice_index_or old p None)) where
  pub linked-cleared : AreLinked flips old → AreLinked flips new
  linked-cleared linked = record {
    back = linked.back;
    there = λ p. subst (λ o. IfSome o (λ k. k < length flips)) (sym (cleared p))
        (elim (nat_le first p && nat_lt p end) as (λ b. IfSome (if b then None else slice_index_or old p None) (λ k. k < length flips)) [
          | true ↦ tt
          | false ↦ linked.there p
        ]);
  }

  pub flips_of-cleared : (p : ℕ) → flips_of (map (bits_at (bits_up_to flips)) new) p
      ≡ (if nat_le first p && nat_lt p end then [] else flips_of (map (bits_at (bits_up_to flips)) old) p)
  flips_of-cleared p =
      mapped (bits_at (bits_up_to flips)) new p None ∙ ap (bits_at (bits_up_to flips)) (cleared p)
      ∙ (elim (nat_le first p && nat_lt p end) as (λ b. bits_at (bits_up_to flips) (if b then None else slice_index_or old p None)
      ≡ (if b then [] else flips_of (map (bits_at (bits_up_to flips)) old) p)) [
        | true ↦ refl
        | false ↦ sym (mapped (bits_at (bits_up_to flips)) old p None)
      ])

-- the bits of a page
pub flips_of-last : (flips : List FlippedBit) (last : List (Option ℕ)) (page : ℕ)
    → flips_of (map (bits_at (bits_up_to flips)) last) page ≡ bits_at (bits_up_to flips) (slice_index_or last page None)
flips_of-last flips last page = mapped (bits_at (bits_up_to flips)) last page None

no_place : (pages page : ℕ) → ◌≡◌ {A = Option ℕ} (slice_index_or (replicate pages None) page None) None
no_place zero page = refl
no_place (suc pages) zero = refl
no_place (suc pages) (suc page) = no_place pages page

-- a log of pages without flips
pub flips_of-none : (flips : List FlippedBit) (last : List (Option ℕ)) (pages page : ℕ) → last ≡ replicate pages None
    → flips_of (map (bits_at (bits_up_to flips)) last) page ≡ []
flips_of-none flips last pages page is =
    flips_of-last flips last page ∙ ap (bits_at (bits_up_to flips)) (ap (λ (ps : List (Option ℕ)). slice_index_or ps page None) is ∙ no_place pages page)

-- a count of the flips before the next one
pub record Counts (flips : List FlippedBit) (last next : Option ℕ) (from to count : ℕ) : Type 0 where
  pub seen : ℕ
  pub is : count ≡ min seen 4294967295
  pub all : seen + flips_between (bits_at (bits_up_to flips) next) from to ≡ flips_between (bits_at (bits_up_to flips) last) from to
  pub there : IfSome next (λ place. place < length flips)

-- one flip more
pub counts_step : (flips : List FlippedBit) (last next : Option ℕ) (from to count now place : ℕ) (flip : FlippedBit) → LeadBack flips
    → Counts flips last next from to count → next ≡ Some place → flip ≡ slice_index_or flips place flip
    → now ≡ min (count + (if nat_le from flip.bit && nat_lt flip.bit to then 1 else 0)) 4294967295 → Counts flips last flip.before from to now
counts_step flips last next from to count now place flip back counts at read is =
    let there : place < length flips = subst (λ o. IfSome o (λ k. k < length flips)) at counts.there in
    let got : slice_get flips place ≡ Some flip = slice_get-get_or flips place flip there ∙ ap Some (sym read) in
    let one : ℕ = if nat_le from flip.bit && nat_lt flip.bit to then 1 else 0 in
    let here : flips_between (bits_at (bits_up_to flips) next) from to ≡ flips_between (bits_at (bits_up_to flips) flip.before) from to + one =
    ap (λ o. flips_between (bits_at (bits_up_to flips) o) from to) at ∙ counted flips place from to flip back got in
    record {
      seen = counts.seen + one;
      is = omega (arith, is, counts.is);
      all = omega (arith, here, counts.all);
      there = IfSome_then flip.before (back place flip got) (λ k less. omega (arith, there, less));
    }

-- the count at the end
pub counts_end : (flips : List FlippedBit) (last next : Option ℕ) (from to count : ℕ) → Counts flips last next from to count → next ≡ None
    → count ≡ min (flips_between (bits_at (bits_up_to flips) last) from to) 4294967295
counts_end flips last next from to count counts none =
    let nothing : flips_between (bits_at (bits_up_to flips) next) from to ≡ 0 = ap (λ o. flips_between (bits_at (bits_up_to flips) o) from to) none in
    counts.is ∙ ap (λ n. min n 4294967295) (omega (arith, nothing, counts.all))

-- the next flip comes nearer to the first
pub comes_nearer : (place : ℕ) (next before : Option ℕ) → next ≡ Some place → IfSome before (λ k. k < place)
    → unwrap_or (option_map (λ p. p + 1) before) 0 < unwrap_or (option_map (λ p. p + 1) next) 0
comes_nearer place next before at less =
    subst (λ o. unwrap_or (option_map (λ p. p + 1) before) 0 < unwrap_or (option_map (λ p. p + 1) o) 0) (sym at) (nearer before less)
  where
    nearer : (before : Option ℕ) → IfSome before (λ k. k < place) → unwrap_or (option_map (λ p. p + 1) before) 0 < place + 1
    nearer None less = omega arith
    nearer (Some k) less = omega arith

-- the flip before one leads back
pub leads_back : (flips : List FlippedBit) (place : ℕ) (flip : FlippedBit) (next : Option ℕ) → LeadBack flips → IfSome next (λ k. k < length flips)
    → next ≡ Some place → flip ≡ slice_index_or flips place flip → IfSome flip.before (λ k. k < place)
leads_back flips place flip next back all at read =
    let there : place < length flips = subst (λ o. IfSome o (λ k. k < length flips)) at all in
    back place flip (slice_get-get_or flips place flip there ∙ ap Some (sym read))

-- an item that is read at one default stands there at any other
pub read_there : (flips : List FlippedBit) (next : Option ℕ) (place : ℕ) (d : FlippedBit) → next ≡ Some place → IfSome next (λ k. k < length flips)
    → slice_index_or flips place d ≡ slice_index_or flips place (slice_index_or flips place d)
read_there flips next place d at all =
    let there : place < length flips = subst (λ o. IfSome o (λ k. k < length flips)) at all in
    get_or_default flips place d (slice_index_or flips place d) there
