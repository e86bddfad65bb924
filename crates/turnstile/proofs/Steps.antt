-- Each step keeps the rule, and tells what it says.
use Rattle.std.proofs.Common.{◌≡◌, ◌≢◌, ◌⊎◌, inl, inr, ℕ, zero, suc, ◌+◌, ◌*◌, ◌/◌, ◌%◌, ◌^◌, ◌<◌, ◌≤◌, List, [], ◌∷◌, ◌++◌, length, length-append, Option, Some, None, set, sym, ◌∙◌, ap, refl, subst, ⊎_elim, lt_of_not-le, arith}
use Rattle.std.specs.Prelude.{slice_index, slice_set}
use Rattle.std.proofs.Math.Nat.{add-mul-mod_self_left, mod-add-div}
use mathlib.Core.Option.{Option as Maybe, some, none, some-injective, some-ne-none}
use mathlib.Core.Logic.{dite}
use native.Mathlib.Decide.{dec_le, ℕ_discrete}
use lib.ListN.{get_elem?}
use Rattle.atomic_table.specs.Table.{State, Me, step, Allows, Splits, Joins, opening, Final, Seen, keeps, takes, gives, stepped, put_back, rest}
use Rattle.atomic_table.proofs.Lists.{at_set, at_snoc, set_else, set_again, one_turn}
use Rattle.turnstile.specs.declared.view.View.{View}
use Rattle.turnstile.specs.declared.view.Seen.{Seen as Known}
use Rattle.turnstile.specs.History.{Appends}
use Rattle.turnstile.specs.Totals.{total, one_if_some, one_if_at, one_if_same}
use Rattle.turnstile.specs.Turns.{pass_count, drawn, drawn_at, turning, named, times, AllHaveSeen, Fits, AreTickets, IsHome, IsOut, StandsAt, Stands, first_view}
use Rattle.turnstile.specs.Plays.{drew, looked, Served, marked, passed, with_front, with_seen, without_ticket, kept_by, given_to, joined, spent}
use Rattle.turnstile.proofs.Totals.{hit, miss, total_set, total_ge, total_two, total_le, total_lt, total_snoc, total_zero}
use Rattle.turnstile.proofs.Seeing.{seen_all, all_see_act, all_seen_append, all_seen_kept, all_seen_given, new_seen, times_append, times_cut, length_cut, new_length, new_once}

mod_step : (n m : ℕ) → (n % m + 1) % m ≡ (n + 1) % m
mod_step n m =
    let p = mod-add-div n m in let q : ℕ = m * (n / m) in let p' : n % m + q ≡ n = p in
    let e : (n % m + 1) + q ≡ n + 1 = omega arith in
    sym (add-mul-mod_self_left (n % m + 1) m (n / m)) ∙ ap (λ (k : ℕ). k % m) e

-- three words, of which one was read or written
word0 : (ws : List ℕ) (a b c : ℕ) → ws ≡ a ∷ b ∷ c ∷ [] → slice_index ws 0 ≡ a
word0 ws a b c e = ap (λ (l : List ℕ). slice_index l 0) e

word1 : (ws : List ℕ) (a b c : ℕ) → ws ≡ a ∷ b ∷ c ∷ [] → slice_index ws 1 ≡ b
word1 ws a b c e = ap (λ (l : List ℕ). slice_index l 1) e

set0 : (ws : List ℕ) (a b c n : ℕ) → ws ≡ a ∷ b ∷ c ∷ [] → slice_set ws 0 n ≡ n ∷ b ∷ c ∷ []
set0 ws a b c n e = ap (λ (l : List ℕ). slice_set l 0 n) e

set1 : (ws : List ℕ) (a b c n : ℕ) → ws ≡ a ∷ b ∷ c ∷ [] → slice_set ws 1 n ≡ a ∷ n ∷ c ∷ []
set1 ws a b c n e = ap (λ (l : List ℕ). slice_set l 1 n) e

set2 : (ws : List ℕ) (a b c n : ℕ) → ws ≡ a ∷ b ∷ c ∷ [] → slice_set ws 2 n ≡ a ∷ b ∷ n ∷ []
set2 ws a b c n e = ap (λ (l : List ℕ). slice_set l 2 n) e

module _ {T G E : Type 0} (tag_of : T → G) (history_of : T → List E) (names : G → E → ℕ) (tag : G) (many : ℕ) where
  -- what holds of the others and of the changed one holds of all
  fits_set : (history : List E) (served : ℕ) (views : List (View G E)) (id : ℕ) (w : View G E)
      → ((j : ℕ) (u : View G E) → j ≢ id → get_elem? views j ≡ some u → Fits tag (names tag) history served u)
      → Fits tag (names tag) history served w
      → (j : ℕ) (u : View G E) → get_elem? (set views id w) j ≡ some u → Fits tag (names tag) history served u
  fits_set history served views id w others mine j u e =
      ⊎_elim (λ (t : (j ≡ id) × (w ≡ u)). subst (λ (z : View G E). Fits tag (names tag) history served z) t.1 mine)
      (λ (t : (j ≢ id) × (get_elem? views j ≡ some u)). others j u t.0 t.1)
      (at_set views id j w u e)

  -- the value, where it is where it was and as many seats have the turn
  same_value : (history : List E) (s s' : State T (View G E)) → s'.homes ≡ s.homes
      → total turning s'.views ≡ total turning s.views
      → IsHome tag_of history_of tag history s ⊎ IsOut s → IsHome tag_of history_of tag history s' ⊎ IsOut s'
  same_value history s s' homes turns value =
      ⊎_elim
      (λ (t : IsHome tag_of history_of tag history s). inl (record {
        value = t.value;
        home = homes ∙ t.home;
        tagged = t.tagged;
        has = t.has;
        still = turns ∙ t.still;
      }))
      (λ (t : IsOut s). inr (record { out = homes ∙ t.out; one = turns ∙ t.one })) value

  -- the tickets, where one more was drawn
  one_more : (served : ℕ) (views : List (View G E)) (id : ℕ) (v w : View G E) → get_elem? views id ≡ some v
      → v.ticket ≡ None → w.ticket ≡ Some (served + total drawn views)
      → AreTickets served views → AreTickets served (set views id w)
  one_more served views id v w at none_yet now are =
      let out = total_set drawn views id v w at in
      let v0 : drawn v ≡ 0 = ap one_if_some none_yet in
      let w1 : drawn w ≡ 1 = ap one_if_some now in
      let next : ℕ = served + total drawn views in
      let at_t : (t : ℕ) → total (drawn_at t) (set views id w) ≡ total (drawn_at t) views + one_if_same next t =
      λ t. (let c = total_set (drawn_at t) views id v w at in let a : drawn_at t v ≡ 0 = ap (one_if_at t) none_yet in
      let b : drawn_at t w ≡ one_if_same next t = ap (one_if_at t) now in omega arith) in
      record {
        within = λ t low high.
            dite (ℕ_discrete next t)
            (λ (e : next ≡ t). let h = hit next t e in let z = are.above t (omega arith) in let c = at_t t in
            omega arith)
            (λ (ne : next ≢ t). let h = miss next t ne in let less : t < next = omega arith in
            let z = are.within t low less in let c = at_t t in omega arith);
        below = λ t low. let h = miss next t (λ (e : next ≡ t). omega arith) in let z = are.below t low in
            let c = at_t t in omega arith;
        above = λ t high. let h = miss next t (λ (e : next ≡ t). omega arith) in let z = are.above t (omega arith) in
            let c = at_t t in omega arith;
      }

  pub draws : (slots id : ℕ) (m : Me T (View G E)) → m.0.ticket ≡ None → m.0.turn ≡ None → 0 < pass_count m.0
      → Allows (Stands tag_of history_of names tag many) slots id m 0 (λ n. (n + 1) % 2 ^ 64)
      (drew (step slots 0 1 0 none) m)
  draws slots id m none_yet waits some_pass s h len at small =
      let history : List E = h.0 in
      let served : ℕ = h.1 in
      let r = h.2 in
      let v : View G E = m.0 in
      let next : ℕ = served + total drawn s.views in
      let w : View G E = record v { ticket = Some next } in
      let out = total_set drawn s.views id v w at in
      let v0 : drawn v ≡ 0 = ap one_if_some none_yet in
      let out' : total drawn (set s.views id w) ≡ total drawn s.views + 1 = omega arith in
      let turns = total_set turning s.views id v w at in
      let word : (slice_index s.words 0 + 1) % 2 ^ 64 ≡ (served + total drawn (set s.views id w)) % 2 ^ 64 =
      ap (λ (k : ℕ). (k + 1) % 2 ^ 64) (word0 s.words _ _ _ r.words) ∙ mod_step next (2 ^ 64)
      ∙ ap (λ (k : ℕ). k % 2 ^ 64) (let e : next + 1 ≡ served + total drawn (set s.views id w) = omega arith in
      e) in
      let fit = r.views id v at in (
        w,
        keeps,
        tt,
        (
          history,
          served,
          record {
            words = set0 s.words _ _ _ _ r.words ∙ ap (λ (k : ℕ). k ∷ (served % 2 ^ 64) ∷ length history ∷ []) word;
            value = same_value history s _ refl (omega arith) r.value;
            tickets = one_more served s.views id v w at none_yet refl r.tickets;
            all_passes = let c = total_set pass_count s.views id v w at in let d = r.all_passes in omega arith;
            few = r.few;
            apart = λ n. let c = total_set (named n) s.views id v w at in let d = r.apart n in omega arith;
            views = fits_set history served s.views id w (λ j u ne there. r.views j u there)
                (record {
                  tagged = fit.tagged;
                  backed = omega arith;
                  served_at = λ hs e.
                      absurd (let z : None ≡ Some hs = sym waits ∙ e in cc);
                  seen = fit.seen;
                });
          },
        ),
        (next, word0 s.words _ _ _ r.words, refl),
      )

  -- the tickets, where the changed view has the one that it had
  same_tickets : (served : ℕ) (views : List (View G E)) (id : ℕ) (v w : View G E) → get_elem? views id ≡ some v
      → w.ticket ≡ v.ticket → AreTickets served views
      → AreTickets served (set views id w)
  same_tickets served views id v w at same are =
      let out = total_set drawn views id v w at in
      let d : drawn w ≡ drawn v = ap one_if_some same in
      let at_t : (t : ℕ) → total (drawn_at t) (set views id w) ≡ total (drawn_at t) views =
      λ t. (let c = total_set (drawn_at t) views id v w at in let a : drawn_at t w ≡ drawn_at t v = ap
      (one_if_at t) same in omega arith) in
      record {
        within = λ t low high. at_t t ∙ are.within t low (omega arith);
        below = λ t low. at_t t ∙ are.below t low;
        above = λ t high. at_t t ∙ are.above t (omega arith);
      }

  -- the tickets, where the one served was given up
  one_less : (served : ℕ) (views : List (View G E)) (id : ℕ) (v w : View G E) → get_elem? views id ≡ some v
      → v.ticket ≡ Some served → w.ticket ≡ None → AreTickets served views
      → AreTickets (served + 1) (set views id w)
  one_less served views id v w at had gone are =
      let out = total_set drawn views id v w at in
      let v1 : drawn v ≡ 1 = ap one_if_some had in
      let w0 : drawn w ≡ 0 = ap one_if_some gone in
      let at_t : (t : ℕ) → total (drawn_at t) (set views id w) + one_if_same served t ≡ total (drawn_at t) views =
      λ t. (let c = total_set (drawn_at t) views id v w at in let a : drawn_at t v ≡ one_if_same served t = ap
      (one_if_at t) had in let b : drawn_at t w ≡ 0 = ap (one_if_at t) gone in omega arith) in
      record {
        within = λ t low high. let h = miss served t (λ (e : served ≡ t). omega arith) in
            let z = are.within t (omega arith) (omega arith) in let c = at_t t in omega arith;
        below = λ t low.
            dite (ℕ_discrete served t)
            (λ (e : served ≡ t). let h = hit served t e in let g = total_ge drawn views id v at in
            let z = are.within t (omega arith) (omega arith) in let c = at_t t in omega arith)
            (λ (ne : served ≢ t). let h = miss served t ne in let less : t < served = omega arith in
            let z = are.below t less in let c = at_t t in omega arith);
        above = λ t high. let g = total_ge drawn views id v at in
            let h = miss served t (λ (e : served ≡ t). omega arith) in let z = are.above t (omega arith) in
            let c = at_t t in omega arith;
      }

  some_or_none : {A : Type 0} (o : Option A) (k : ℕ) → ((a : A) → o ≡ Some a → k ≡ 1) → one_if_some o ≤ k
  some_or_none None k h = omega arith
  some_or_none (Some a) k h = let e = h a refl in omega arith

  at_most_drawn : (t : ℕ) (o : Option ℕ) → one_if_at t o ≤ one_if_some o
  at_most_drawn t None = omega arith
  at_most_drawn t (Some u) = dite (ℕ_discrete u t) (λ (e : u ≡ t). let h = hit u t e in omega arith)
      (λ (ne : u ≢ t). let h = miss u t ne in omega arith)

  -- a view that has the turn has the ticket that is served
  turning_le : (history : List E) (served : ℕ) (u : View G E) → Fits tag (names tag) history served u
      → turning u ≤ drawn_at served u
  turning_le history served u fit =
      some_or_none u.turn (drawn_at served u) (λ h e. ap (one_if_at served) (fit.served_at h e).0
      ∙ hit served served refl)

  -- a view that has not the turn, beside one that has it
  not_turning : (history : List E) (served : ℕ) (s : State T (View G E)) (id j : ℕ) (v u : View G E)
      → IsHome tag_of history_of tag history s ⊎ IsOut s → get_elem? s.views id ≡ some v → turning v ≡ 1
      → get_elem? s.views j ≡ some u → j ≢ id → (h : List E) → u.turn ≡ Some h → ⊥
  not_turning history served s id j v u value at one there ne h e =
      let two = total_two turning s.views id j v u at there ne in
      let u1 : turning u ≡ 1 = ap one_if_some e in
      ⊎_elim
      (λ (t : IsHome tag_of history_of tag history s). let z = t.still in absurd (omega arith))
      (λ (t : IsOut s). let z = t.one in absurd (omega arith)) value

  -- where a view has the turn, the value is out
  is_out : (history : List E) (s : State T (View G E)) (id : ℕ) (v : View G E)
      → IsHome tag_of history_of tag history s ⊎ IsOut s → get_elem? s.views id ≡ some v → turning v ≡ 1
      → IsOut s
  is_out history s id v value at one =
      let g = total_ge turning s.views id v at in
      ⊎_elim
      (λ (t : IsHome tag_of history_of tag history s). let z = t.still in absurd (omega arith))
      (λ (t : IsOut s). t) value

  Rule : State T (View G E) → Type 0
  Rule s = Stands tag_of history_of names tag many s

  -- where no seat has the turn, the ticket served takes it
  takes_turn : (slots id : ℕ) (m : Me T (View G E)) (t : ℕ) → m.0.ticket ≡ Some t → m.0.turn ≡ None → m.1 ≡ []
      → (s : State T (View G E)) (history : List E) (served : ℕ)
      → StandsAt tag_of history_of names tag many history served s → get_elem? s.views id ≡ some m.0 → t ≡ served
      → (x : T) → s.homes ≡ some x ∷ [] → tag_of x ≡ tag → history_of x ≡ history → total turning s.views ≡ 0
      → StandsAt tag_of history_of names tag many history served (stepped s 1 (slice_index s.words 1) id m.1
      (record m.0 { turn = Some (history_of x) }) (takes 0 x))
      × Served tag_of history_of names m (record m.0 { turn = Some (history_of x) }, (0, x) ∷ m.1)
  takes_turn slots id m t drawn_t waits empty s history served r at same x home tagged has still =
      let v : View G E = m.0 in
      let w : View G E = record v { turn = Some (history_of x) } in
      let fit = r.views id v at in
      let v1 : drawn v ≡ 1 = ap one_if_some drawn_t in
      let v0 : turning v ≡ 0 = ap one_if_some waits in
      let out = total_set drawn s.views id v w at in
      let turns = total_set turning s.views id v w at in
      let tagged' : v.tag ≡ Some tag = fit.tagged (omega arith) in (
        record {
          words = set1 s.words _ _ _ _ r.words
              ∙ (λ i. ((served + (let e : total drawn s.views ≡ total drawn (set s.views id w) = omega arith in
              e) i) % 2 ^ 64) ∷ word1 s.words _ _ _ r.words i ∷ length history ∷ []);
          value = inr (record { out = ap (λ (hs : List (Maybe T)). slice_set hs 0 none) home; one = omega arith });
          tickets = same_tickets served s.views id v w at refl r.tickets;
          all_passes = let c = total_set pass_count s.views id v w at in let d = r.all_passes in omega arith;
          few = r.few;
          apart = λ n. let c = total_set (named n) s.views id v w at in let d = r.apart n in omega arith;
          views = fits_set history served s.views id w (λ j u ne there. r.views j u there)
              (record {
                tagged = fit.tagged;
                backed = fit.backed;
                served_at = λ h e. (drawn_t ∙ ap (λ (k : ℕ). Some k) same, (let z : h ≡ history_of x = cc in z ∙ has));
                seen = fit.seen;
              });
        },
        record {
          value = x;
          tagged = tagged' ∙ ap (λ (g : G). Some g) (sym tagged);
          seen = subst (λ (g : G). AllHaveSeen (names g) (history_of x) v.passes) (sym tagged)
              (subst (λ (l : List E). AllHaveSeen (names tag) l v.passes) (sym has) fit.seen);
          apart = λ n. let c = total_ge (named n) s.views id v at in let d = r.apart n in omega arith;
          now = ap (λ (c : List (ℕ × T)). (w, (0, x) ∷ c)) empty;
        },
      )

  -- a ticket that is out and equal to the number served, in the words, is the one served
  is_served : (history : List E) (served : ℕ) (s : State T (View G E)) (id : ℕ) (v : View G E) (t : ℕ)
      → StandsAt tag_of history_of names tag many history served s → get_elem? s.views id ≡ some v
      → v.ticket ≡ Some t → served % 2 ^ 64 ≡ t % 2 ^ 64 → t ≡ served
  is_served history served s id v t r at drawn_t found =
      let g = total_ge (drawn_at t) s.views id v at in
      let one : drawn_at t v ≡ 1 = ap (one_if_at t) drawn_t ∙ hit t t refl in
      let low = r.tickets.below t in
      let high = r.tickets.above t in
      let backed = total_le drawn pass_count s.views (λ j u e. (r.views j u e).backed) in
      let few = r.few in
      let all = r.all_passes in
      let least : served ≤ t = dite (dec_le served t) (λ (e : served ≤ t). e) (λ (n : ¬ (served ≤ t)).
      let z = low (lt_of_not-le n) in absurd (omega arith)) in
      let most : t < served + total drawn s.views =
      dite (dec_le (served + total drawn s.views) t) (λ (e : served + total drawn s.views ≤ t). let z = high e in
      absurd (omega arith)) (λ (n : ¬ (served + total drawn s.views ≤ t)). lt_of_not-le n) in
      sym (one_turn served t (2 ^ 64) least (omega arith) found)

  pub looks : (slots id : ℕ) (m : Me T (View G E)) (t : ℕ) → m.0.ticket ≡ Some t → m.0.turn ≡ None → m.1 ≡ []
      → Allows (Stands tag_of history_of names tag many) slots id m 1 (λ n. n) (looked tag_of history_of names
      (step slots 1 0 0 none) m)
  looks slots id m t drawn_t waits empty s h len at small =
      let history : List E = h.0 in
      let served : ℕ = h.1 in
      let r = h.2 in
      let v : View G E = m.0 in
      let found_is : slice_index s.words 1 ≡ served % 2 ^ 64 = word1 s.words _ _ _ r.words in
      dite (ℕ_discrete (slice_index s.words 1) (t % 2 ^ 64))
      (λ (hit_it : slice_index s.words 1 ≡ t % 2 ^ 64).
      let same : t ≡ served = is_served history served s id v t r at drawn_t (sym found_is ∙ hit_it) in
      ⊎_elim
      (λ (a : IsHome tag_of history_of tag history s).
      let x : T = a.value in
      let p = takes_turn slots id m t drawn_t waits empty s history served r at same x a.home a.tagged a.has a.still
      in (
        record v { turn = Some (history_of x) },
        takes 0 x,
        ap (λ (hs : List (Maybe T)). get_elem? hs 0) a.home,
        (history, served, p.0),
        (t, drawn_t, (λ e. p.1), (λ ne. absurd (ne hit_it))),
      ))
      (λ (a : IsOut s).
      let v0 : turning v ≡ 0 = ap one_if_some waits in
      let v1 : drawn_at served v ≡ 1 = ap (one_if_at served) drawn_t ∙ hit t served same in
      let less = total_lt turning (drawn_at served) s.views id v (λ j u e. turning_le history served u
      (r.views j u e)) at (omega arith) in
      let g = total_ge drawn s.views id v at in
      let d : drawn v ≡ 1 = ap one_if_some drawn_t in
      let w1 = r.tickets.within served (omega arith) (omega arith) in
      let one = a.one in
      absurd (omega arith)) r.value)
      (λ (no : slice_index s.words 1 ≢ t % 2 ^ 64). (
        v,
        keeps,
        tt,
        subst (Stands tag_of history_of names tag many)
            (λ i. record {
              words = sym (set1 s.words _ _ _ _ r.words
                  ∙ (λ k. ((served + total drawn s.views) % 2 ^ 64) ∷ found_is k ∷ length history ∷ [])
                  ∙ sym r.words) i;
              homes = s.homes;
              views = sym (set_again s.views id v at) i;
            }) h,
        (t, drawn_t, (λ e. absurd (no e)), (λ ne. refl)),
      ))

  -- the front of the history is stored: the seat's own pass has seen all of it
  pub marks : (slots id : ℕ) (m : Me T (View G E)) (front : ℕ) (x : T) (before : List E) (p : Known E)
      → m.1 ≡ (0, x) ∷ [] → m.0.tag ≡ Some (tag_of x) → m.0.turn ≡ Some before → m.0.passes ≡ p ∷ []
      → Appends (names (tag_of x)) p.number before (history_of x) → front ≡ length (history_of x)
      → Allows (Stands tag_of history_of names tag many) slots id m 2 (λ _. front)
      (λ _. marked history_of (step slots 2 front 0 none) m front)
  marks slots id m front x before p holds_x tagged_x turn_is one appended front_is s h len at small =
      let history : List E = h.0 in
      let served : ℕ = h.1 in
      let r = h.2 in
      let v : View G E = m.0 in
      let w : View G E = with_front (history_of x) v in
      let fit = r.views id v at in
      let own = fit.served_at before turn_is in
      let v1 : turning v ≡ 1 = ap one_if_some turn_is in
      let w1 : turning w ≡ 1 = refl in
      let out = total_set drawn s.views id v w at in
      let turns = total_set turning s.views id v w at in
      let one_pass : pass_count v ≡ 1 = ap (λ (ps : List (Known E)). length ps) one in
      let one_pass' : pass_count w ≡ 1 = ap (λ (ps : List (Known E)). length (with_seen (history_of x) ps)) one in
      let tag_is : tag_of x ≡ tag = let z : Some (tag_of x) ≡ Some tag = sym tagged_x ∙ fit.tagged (omega arith) in
      cc in
      let appended' : Appends (names tag) p.number history (history_of x) =
      subst (λ (l : List E). Appends (names tag) p.number l (history_of x)) own.1
      (subst (λ (g : G). Appends (names g) p.number before (history_of x)) tag_is appended) in
      let is = is_out history s id v r.value at v1 in (
        w,
        keeps,
        tt,
        (
          history_of x,
          served,
          record {
            words = set2 s.words _ _ _ _ r.words
                ∙ (λ i. ((served + (let e : total drawn s.views ≡ total drawn (set s.views id w) = omega arith in
                e) i) % 2 ^ 64) ∷ (served % 2 ^ 64) ∷ front_is i ∷ []);
            value = inr (record { out = is.out; one = (let z = is.one in omega arith) });
            tickets = same_tickets served s.views id v w at refl r.tickets;
            all_passes = let c = total_set pass_count s.views id v w at in let d = r.all_passes in omega arith;
            few = r.few;
            apart = λ n.
                let c = total_set (named n) s.views id v w at in
                let d = r.apart n in
                let a : named n v ≡ one_if_same p.number n + 0 = ap (λ (ps : List (Known E)). times n ps) one in
                let b : named n w ≡ one_if_same p.number n + 0 =
                ap (λ (ps : List (Known E)). times n (with_seen (history_of x) ps)) one in
                omega arith;
            views = fits_set (history_of x) served s.views id w
                (λ j u ne there.
                let f = r.views j u there in
                let two = total_two (named p.number) s.views id j v u at there ne in
                let a : named p.number v ≡ one_if_same p.number p.number + 0 =
                ap (λ (ps : List (Known E)). times p.number ps) one in
                let b = hit p.number p.number refl in
                let d = r.apart p.number in
                record {
                  tagged = f.tagged;
                  backed = f.backed;
                  served_at = λ hs e. absurd (not_turning history served s id j v u r.value at v1 there ne hs e);
                  seen = all_see_act (names tag) p.number history (history_of x) u.passes appended' f.seen
                      (omega arith);
                })
                (record {
                  tagged = λ some_pass. fit.tagged (omega arith);
                  backed = let b = fit.backed in omega arith;
                  served_at = λ hs e. (own.0, (let z : hs ≡ history_of x = cc in z));
                  seen = subst (λ (ps : List (Known E)). AllHaveSeen (names tag) (history_of x)
                      (with_seen (history_of x) ps)) (sym one) (seen_all (names tag) p.number (history_of x), tt);
                });
          },
        ),
        (x, holds_x, refl),
      )

  -- the next ticket is served: the value goes home
  pub serves : (slots id : ℕ) (m : Me T (View G E)) (x : T) → m.1 ≡ (0, x) ∷ [] → m.0.tag ≡ Some (tag_of x)
      → m.0.turn ≡ Some (history_of x) → 0 < pass_count m.0
      → Allows (Stands tag_of history_of names tag many) slots id m 1 (λ n. (n + 1) % 2 ^ 64)
      (passed (step slots 1 1 0 none) m)
  serves slots id m x holds_x tagged_x turn_is some_pass s h len at small =
      let history : List E = h.0 in
      let served : ℕ = h.1 in
      let r = h.2 in
      let v : View G E = m.0 in
      let w : View G E = without_ticket v in
      let fit = r.views id v at in
      let own = fit.served_at (history_of x) turn_is in
      let v1 : turning v ≡ 1 = ap one_if_some turn_is in
      let d1 : drawn v ≡ 1 = ap one_if_some own.0 in
      let out = total_set drawn s.views id v w at in
      let turns = total_set turning s.views id v w at in
      let tag_is : tag_of x ≡ tag = let z : Some (tag_of x) ≡ Some tag = sym tagged_x ∙ fit.tagged some_pass in cc in
      let is = is_out history s id v r.value at v1 in
      let word : (slice_index s.words 1 + 1) % 2 ^ 64 ≡ (served + 1) % 2 ^ 64 = ap (λ (k : ℕ). (k + 1) % 2 ^ 64)
      (word1 s.words _ _ _ r.words) ∙ mod_step served (2 ^ 64) in (
        w,
        gives,
        tt,
        (
          history,
          served + 1,
          record {
            words = set1 s.words _ _ _ _ r.words
                ∙ (λ i. ((let e : served + total drawn s.views ≡ (served + 1) + total drawn
                (set s.views id w) = omega arith in e) i % 2 ^ 64) ∷ word i ∷ length history ∷ []);
            value = inl (record {
              value = x;
              home = λ i. put_back (is.out i) (holds_x i);
              tagged = tag_is;
              has = own.1;
              still = (let z = is.one in omega arith);
            });
            tickets = one_less served s.views id v w at own.0 refl r.tickets;
            all_passes = let c = total_set pass_count s.views id v w at in let d = r.all_passes in omega arith;
            few = r.few;
            apart = λ n. let c = total_set (named n) s.views id v w at in let d = r.apart n in omega arith;
            views = fits_set history (served + 1) s.views id w
                (λ j u ne there.
                let f = r.views j u there in
                record {
                  tagged = f.tagged;
                  backed = f.backed;
                  served_at = λ hs e.
                      absurd (not_turning history served s id j v u r.value at v1 there ne hs e);
                  seen = f.seen;
                })
                (record {
                  tagged = fit.tagged;
                  backed = omega arith;
                  served_at = λ hs e.
                      absurd (let z : None ≡ Some hs = e in cc);
                  seen = fit.seen;
                });
          },
        ),
        ap (λ (c : List (ℕ × T)). (w, rest c)) holds_x,
      )

  -- the first pass of a seat goes to a new one
  pub splits : (id : ℕ) (v : View G E) → v.ticket ≡ None → v.turn ≡ None
      → Splits (Stands tag_of history_of names tag many) id v (kept_by v) (given_to v)
  splits id v no_ticket no_turn s h at =
      let history : List E = h.0 in
      let served : ℕ = h.1 in
      let r = h.2 in
      let l : View G E = kept_by v in
      let n : View G E = given_to v in
      let fit = r.views id v at in
      let cut = length_cut v.passes in
      let v0 : drawn v ≡ 0 = ap one_if_some no_ticket in
      let all : (f : View G E → ℕ) → total f (set s.views id l ++ n ∷ []) + f v ≡ total f s.views + (f l + f n) =
      λ f. (let a = total_snoc f (set s.views id l) n in let b = total_set f s.views id v l at in omega arith) in
      let out = all drawn in
      let turns = all turning in
      let same = same_tickets served s.views id v l at refl r.tickets in
      let at_t : (t : ℕ) → total (drawn_at t) (set s.views id l ++ n ∷ []) ≡ total (drawn_at t) s.views = λ t.
      (let a = all (drawn_at t) in omega arith) in (
        history,
        served,
        record {
          words = r.words ∙ (λ i.
              ((served + (let e : total drawn s.views ≡ total drawn (set s.views id l ++ n ∷ []) = omega arith in
              e) i) % 2 ^ 64) ∷ (served % 2 ^ 64) ∷ length history ∷ []);
          value = same_value history s _ refl (omega arith) r.value;
          tickets = record {
            within = λ t low high. at_t t ∙ r.tickets.within t low (omega arith);
            below = λ t low. at_t t ∙ r.tickets.below t low;
            above = λ t high. at_t t ∙ r.tickets.above t (omega arith);
          };
          all_passes = let a = all pass_count in let d = r.all_passes in omega arith;
          few = r.few;
          apart = λ k. let a = all (named k) in let c = times_cut k v.passes in let d = r.apart k in omega arith;
          views = λ j u e.
              ⊎_elim
              (λ (there : get_elem? (set s.views id l) j ≡ some u).
              fits_set history served s.views id l (λ j u ne there. r.views j u there)
              (record {
                tagged = λ some'. fit.tagged (omega arith);
                backed = omega arith;
                served_at = fit.served_at;
                seen = all_seen_kept (names tag) history v.passes fit.seen;
              }) j u there)
              (λ (same : n ≡ u).
              subst (λ (z : View G E). Fits tag (names tag) history served z) same
              (record {
                tagged = λ some'. fit.tagged (omega arith);
                backed = omega arith;
                served_at = λ hs e. absurd (let z : None ≡ Some hs = e in cc);
                seen = all_seen_given (names tag) history v.passes fit.seen;
              }))
              (at_snoc (set s.views id l) n u j e);
        },
      )

  -- the passes of a seat with no ticket go to another
  pub joins : (id : ℕ) (v : View G E) (other : ℕ) (w : View G E) → 0 < pass_count v → w.ticket ≡ None → w.turn ≡ None
      → Joins (Stands tag_of history_of names tag many) id v other w (joined v w) spent
  joins id v other w some_pass no_ticket no_turn s h at apart there =
      let history : List E = h.0 in
      let served : ℕ = h.1 in
      let r = h.2 in
      let b : View G E = joined v w in
      let there' : get_elem? s.views other ≡ some w = sym (set_else s.views id other b (λ e. apart e)) ∙ there in
      let fit = r.views id v at in
      let fit' = r.views other w there' in
      let all : (f : View G E → ℕ) → total f (set (set s.views id b) other spent) + (f w + f v) ≡ total f s.views +
      (f b + f spent) =
      λ f. (let a = total_set f (set s.views id b) other w spent there in let c = total_set f s.views id v b at in
      omega arith) in
      let w0 : drawn w ≡ 0 = ap one_if_some no_ticket in
      let t0 : turning w ≡ 0 = ap one_if_some no_turn in
      let out = all drawn in
      let turns = all turning in
      let at_t : (t : ℕ) → total (drawn_at t) (set (set s.views id b) other spent) ≡ total (drawn_at t) s.views =
      λ t. (let a = all (drawn_at t) in let z : drawn_at t w ≡ 0 = ap (one_if_at t) no_ticket in omega arith) in
      let more = length-append v.passes w.passes in (
        history,
        served,
        record {
          words = r.words ∙ (λ i.
              ((served + (let e : total drawn s.views ≡ total drawn
              (set (set s.views id b) other spent) = omega arith in e) i) % 2 ^ 64) ∷
              (served % 2 ^ 64) ∷ length history ∷ []);
          value = same_value history s _ refl (omega arith) r.value;
          tickets = record {
            within = λ t low high. at_t t ∙ r.tickets.within t low (omega arith);
            below = λ t low. at_t t ∙ r.tickets.below t low;
            above = λ t high. at_t t ∙ r.tickets.above t (omega arith);
          };
          all_passes = let a = all pass_count in let d = r.all_passes in omega arith;
          few = r.few;
          apart = λ k. let a = all (named k) in let c = times_append k v.passes w.passes in let d = r.apart k in
              omega arith;
          views = fits_set history served (set s.views id b) other spent
              (λ j u ne e.
              fits_set history served s.views id b (λ j u ne there. r.views j u there)
              (record {
                tagged = λ some'. fit.tagged some_pass;
                backed = let z = fit.backed in omega arith;
                served_at = fit.served_at;
                seen = all_seen_append (names tag) history v.passes w.passes fit.seen fit'.seen;
              }) j u e)
              (record {
                tagged = λ some'. absurd (omega arith);
                backed = omega arith;
                served_at = λ hs e. absurd (let z : None ≡ Some hs = e in cc);
                seen = tt;
              });
        },
      )

  -- a seat that has all passes, no turn: the value is at home
  pub closes : (s : State T (View G E)) (id : ℕ) (v : View G E) → Stands tag_of history_of names tag many s
      → get_elem? s.views id ≡ some v → pass_count v ≡ many → v.turn ≡ None
      → (x : T) × (s.homes ≡ some x ∷ []) × (tag_of x ≡ tag) × AllHaveSeen (names tag) (history_of x) v.passes
  closes s id v h at all no_turn =
      let history : List E = h.0 in
      let served : ℕ = h.1 in
      let r = h.2 in
      let v0 : turning v ≡ 0 = ap one_if_some no_turn in
      let none_turns : total turning s.views ≡ 0 =
      total_zero turning s.views (λ j u e.
      dite (ℕ_discrete j id)
      (λ (same : j ≡ id). let there : some u ≡ some v = sym e ∙ ap (λ (k : ℕ). get_elem? s.views k) same ∙ at in
      let z : u ≡ v = cc in ap turning z ∙ v0)
      (λ (ne : j ≢ id).
      let two = total_two pass_count s.views id j v u at e ne in
      let d = r.all_passes in
      let b = (r.views j u e).backed in
      let l = turning_le history served u (r.views j u e) in
      let c = at_most_drawn served u.ticket in
      omega arith)) in
      ⊎_elim
      (λ (t : IsHome tag_of history_of tag history s).
      let seen = subst (λ (l : List E). AllHaveSeen (names tag) l v.passes) (sym t.has) (r.views id v at).seen in
      (t.value, t.home, t.tagged, seen))
      (λ (t : IsOut s). let z = t.one in absurd (omega arith)) r.value

  -- the value that comes back from a table that is closed
  pub gives_back : (id : ℕ) (v : View G E) (ws : List ℕ) (xs : List T) (y : T)
      → Final (Seen (Stands tag_of history_of names tag many) id v) ws xs → get_elem? xs 0 ≡ some y
      → pass_count v ≡ many → v.turn ≡ None → (tag_of y ≡ tag) × AllHaveSeen (names tag) (history_of y) v.passes
  gives_back id v ws xs y f at all no_turn =
      let c = closes f.0 id v f.1.0 f.1.1 all no_turn in
      let same : c.0 ≡ y = some-injective c.0 y (sym (f.4 0 c.0 (ap (λ (hs : List (Maybe T)). get_elem? hs 0) c.1))
      ∙ at) in
      (sym (ap tag_of same) ∙ c.2, subst (λ (x : T). AllHaveSeen (names tag) (history_of x) v.passes) same c.3)

  fits_first : (j : ℕ) (u : View G E) → get_elem? (first_view {G = G} {E = E} tag many ∷ []) j ≡ some u
      → Fits tag (names tag) [] 0 u
  fits_first zero u e =
      subst (λ (z : View G E). Fits tag (names tag) [] 0 z) (some-injective (first_view tag many) u e)
      (record {
        tagged = λ some'. refl;
        backed = omega arith;
        served_at = λ hs e.
            absurd (let z : None ≡ Some hs = e in cc);
        seen = new_seen (names tag) 0 many;
      })
  fits_first (suc j) u e = absurd (some-ne-none u (sym e))

  -- the rule at the start
  pub opens : (x : T) → tag_of x ≡ tag → history_of x ≡ [] → many < 2 ^ 32 → Stands tag_of history_of names tag many
      (opening (0 ∷ 0 ∷ 0 ∷ []) (x ∷ []) (first_view tag many))
  opens x tagged fresh few = (
    [],
    0,
    record {
      words = refl;
      value = inl (record { value = x; home = refl; tagged = tagged; has = fresh; still = refl });
      tickets = record {
        within = λ t low high. absurd (omega arith);
        below = λ t low.
            absurd (omega arith);
        above = λ t high. refl;
      };
      all_passes = let a = new_length E 0 many in omega arith;
      few = few;
      apart = λ n. let a = new_once E n 0 many in omega arith;
      views = λ j u e.
          fits_first j u e;
    },
  )
