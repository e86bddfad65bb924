-- Passes dealt out, and taken in.
use Rattle.std.proofs.Common.{◌≡◌, ℕ, zero, suc, ◌+◌, ◌-◌, ◌<◌, List, [], ◌∷◌, ◌++◌, length, length-append, map, Some, None, sym, ◌∙◌, ap, refl, subst, arith}
use Rattle.std.specs.Prelude.{slice_get, slice_index_or, All}
use Rattle.turnstile.specs.declared.view.Seen.{Seen}
use Rattle.turnstile.specs.History.{HasSeen}
use Rattle.turnstile.specs.Turns.{AllHaveSeen, idle_view, new_pass, new_passes}
use Rattle.turnstile.specs.Plays.{first_only, but_first}
use Rattle.turnstile.specs.Seats.{Keeps, with_pass}
use Rattle.turnstile.specs.Passes.{Lock, Standing, IsPassOf, AreOf, AreAllPasses, AllSaw, new_standing, new_standings, IsSeatOf, own}
use Rattle.atomic_table.specs.Table.{Me}
use Rattle.turnstile.specs.declared.view.View.{View}

module _ (E : Type 0) where
  pub first_of_new : (from many : ℕ) → 0 < many → first_only (new_passes {E = E} from many) ≡ new_pass from ∷ []
  first_of_new from zero h = absurd (omega arith)
  first_of_new from (suc many) h = refl

  pub rest_of_new : (from many : ℕ) → 0 < many → but_first (new_passes {E = E} from many) ≡ new_passes (from + 1)
      (many - 1)
  rest_of_new from zero h = absurd (omega arith)
  rest_of_new from (suc many) h =
      let a : suc from ≡ from + 1 = omega arith in let b : many ≡ suc many - 1 = omega arith in
      (λ i. new_passes (a i) (b i))

module _ {G E : Type 0} (lock : Lock G) where
  pub new_snoc : (from many : ℕ) → new_standings {E = E} lock from many ++ new_standing lock
      (from + many) ∷ [] ≡ new_standings lock from (many + 1)
  new_snoc from zero =
      let a : from + 0 ≡ from = omega arith in let b : 1 ≡ 0 + 1 = refl in
      ap (λ (k : ℕ). new_standing {E = E} lock k ∷ []) a ∙ ap (λ (k : ℕ). new_standings {E = E} lock from k) b
  new_snoc from (suc many) =
      let a : from + suc many ≡ suc from + many = omega arith in
      let b : suc (many + 1) ≡ suc many + 1 = omega arith in
      ap (λ (k : ℕ). new_standing {E = E} lock from ∷
      (new_standings lock (suc from) many ++ new_standing lock k ∷ [])) a
      ∙ ap (λ (l : List (Standing G E)). new_standing lock from ∷ l) (new_snoc (suc from) many)
      ∙ ap (λ (k : ℕ). new_standings {E = E} lock from k) b

  pub of_head : (p : Standing G E) (ps : List (Standing G E)) → AreOf lock (p ∷ ps) → IsPassOf lock p
  of_head p ps h = h zero p refl

  pub of_tail : (p : Standing G E) (ps : List (Standing G E)) → AreOf lock (p ∷ ps) → AreOf lock ps
  of_tail p ps h k q e = h (suc k) q e

  pub all_are_of : (ps : List (Standing G E)) → AreAllPasses lock ps → AreOf lock ps
  all_are_of ps h k q e = (h.each k q e).0

  -- a seat that keeps these passes
  keeps_of : {T : Type 0} (m : Me T (View G E)) (ps : List (Seen E)) → 0 < length ps
      → m ≡ (idle_view lock.tag ps, []) → Keeps lock.tag m × (m.0.passes ≡ ps)
  keeps_of {T} m ps some_pass me =
      let e : m.0.passes ≡ ps = ap (λ (n : Me T (View G E)). n.0.passes) me in (
        record {
          some = subst (λ (qs : List (Seen E)). 0 < length qs) (sym e) some_pass;
          me = me
              ∙ ap (λ (qs : List (Seen E)). (idle_view lock.tag qs, [])) (sym e);
        },
        e,
      )

  pub begins : {T : Type 0} (p : Standing G E) (m : Me T (View G E)) → IsPassOf lock p → IsSeatOf p m
      → Keeps lock.tag m × (m.0.passes ≡ own p ∷ [])
  begins p m of seat =
      let tag : seat.tag ≡ lock.tag = let z : Some seat.tag ≡ Some lock.tag = sym seat.tag_is ∙ of.tag in cc in
      keeps_of m (own p ∷ []) (omega arith) (seat.me ∙ ap (λ (g : G). (idle_view g (own p ∷ []), [])) tag)

  pub goes_on : {T : Type 0} (p : Standing G E) (m m' : Me T (View G E)) → Keeps lock.tag m
      → m' ≡ (with_pass m.0 (own p), []) → Keeps lock.tag m' × (m'.0.passes ≡ m.0.passes ++ own p ∷ [])
  goes_on {T} p m m' keeps now =
      let same : m.0 ≡ idle_view lock.tag m.0.passes = ap (λ (n : Me T (View G E)). n.0) keeps.me in
      let more = length-append m.0.passes (own p ∷ []) in
      let some_pass = keeps.some in
      keeps_of m' (m.0.passes ++ own p ∷ []) (omega arith)
      (now ∙ ap (λ (v : View G E). (record v { passes = m.0.passes ++ own p ∷ [] }, [])) same)

  -- what the passes of one seat have seen
  pub all_saw : (names : G → E → ℕ) (history : List E) (ps : List (Standing G E))
      → AllHaveSeen (names lock.tag) history (map own ps) → AllSaw names lock history ps
  all_saw names history [] h k q e = absurd (let z : None ≡ Some q = e in cc)
  all_saw names history (p ∷ ps) h zero q e =
      let same : p ≡ q = cc in subst (λ (r : Standing G E). HasSeen (names lock.tag) history r.number r.seen) same h.0
  all_saw names history (p ∷ ps) h (suc k) q e = all_saw names history ps h.1 k q e

pub length_own : {G E : Type 0} (ps : List (Standing G E)) → length (map own ps) ≡ length ps
length_own [] = refl
length_own (p ∷ ps) = ap suc (length_own ps)

at_new : {G E : Type 0} (lock : Lock G) (from many k : ℕ) (d : Standing G E) → k < many
    → slice_index_or (new_standings lock from many) k d ≡ new_standing lock (from + k)
at_new lock from zero k d less = absurd (omega arith)
at_new lock from (suc many) zero d less = ap (new_standing lock) (let e : from ≡ from + 0 = omega arith in e)
at_new lock from (suc many) (suc k) d less = at_new lock (suc from) many k d (omega arith) ∙ ap (new_standing lock)
    (let e : suc from + k ≡ from + suc k = omega arith in e)

length_new : {G : Type 0} (E : Type 0) (lock : Lock G) (from many : ℕ)
    → length (new_standings {E = E} lock from many) ≡ many
length_new E lock from zero = refl
length_new E lock from (suc many) = ap suc (length_new E lock (suc from) many)

index_of_get : {A : Type 0} (xs : List A) (k : ℕ) (x : A) → slice_get xs k ≡ Some x → (k < length xs)
    × (slice_index_or xs k x ≡ x)
index_of_get [] k x e = absurd (let z : None ≡ Some x = e in cc)
index_of_get (y ∷ ys) zero x e = (omega arith, (let z : y ≡ x = cc in z))
index_of_get (y ∷ ys) (suc k) x e = let h = index_of_get ys k x e in (omega arith, h.1)

-- new passes are passes of their turnstile
pub new_are_of : {G E : Type 0} (lock : Lock G) (many : ℕ) (js : List (Standing G E))
    → js ≡ new_standings lock 0 many → All (IsPassOf lock) js
new_are_of {G} {E} lock many js e k d less =
    let less' : k < many = let z : length js ≡ many = ap length e ∙ length_new E lock 0 many in omega arith in
    subst (λ (p : Standing G E). IsPassOf lock p) (sym (ap (λ (l : List (Standing G E)). slice_index_or l k d) e
    ∙ at_new lock 0 many k d less')) (record { table = refl; tag = refl })

-- the passes that came back are all passes
pub came_back : {G E : Type 0} (lock : Lock G) (js rs : List (Standing G E)) → js ≡ new_standings lock 0 lock.passes
    → length rs ≡ length js
    → ((i : ℕ) (d : Standing G E) → i < length js → IsPassOf lock (slice_index_or rs i d))
    → ((i : ℕ) (d : Standing G E) → i < length js → (slice_index_or rs i d).number ≡ (slice_index_or js i d).number)
    → AreAllPasses lock rs
came_back {G} {E} lock js rs e len of number =
    let many : length js ≡ lock.passes = ap length e ∙ length_new E lock 0 lock.passes in
    record {
      all = len ∙ many;
      each = λ k p at.
          let h = index_of_get rs k p at in
          let less : k < length js = let z = h.0 in omega arith in
          let less' : k < lock.passes = omega arith in (
            subst (λ (q : Standing G E). IsPassOf lock q) h.1 (of k p less),
            ap (λ (q : Standing G E). q.number) (sym h.1) ∙ number k p less
                ∙ ap (λ (l : List (Standing G E)). (slice_index_or l k p).number) e
                ∙ ap (λ (q : Standing G E). q.number) (at_new lock 0 lock.passes k p less')
                ∙ (let z : 0 + k ≡ k = omega arith in z),
          );
    }
