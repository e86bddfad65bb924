-- The seat of a pass through a turn.
use Rattle.std.proofs.Common.{◌≡◌, ℕ, List, [], ◌∷◌, length, Some, get_or, sym, ◌∙◌, ap, subst, arith}
use Rattle.atomic_table.specs.Table.{Me}
use Rattle.turnstile.specs.declared.view.View.{View}
use Rattle.turnstile.specs.declared.view.Seen.{Seen}
use Rattle.turnstile.specs.History.{Appends, HasSeen}
use Rattle.turnstile.specs.Turns.{AllHaveSeen, pass_count, idle_view}
use Rattle.turnstile.specs.Plays.{with_front, without_ticket, Served}
use Rattle.turnstile.specs.Seats.{HasDrawn, HasTicket, IsAtWork, HasMarked, IsMarked, pass_of, seen_in, RestsAs, HasWorked, HasTurned}

module _ {T G E A : Type 0} (tag_of : T → G) (history_of : T → List E) (names : G → E → ℕ) (does : A → T → A → T
    → Type 0) where
  first_value : (x y : T) → ◌≡◌ {A = List (ℕ × T)} ((0, x) ∷ []) ((0, y) ∷ []) → x ≡ y
  first_value x y e = ap (λ (l : List (ℕ × T)). (get_or l 0 (0, x)).1) e

  pub has_ticket : (number seen found : ℕ) (m0 m1 : Me T (View G E)) → RestsAs number seen m0 → HasDrawn found m0 m1
      → HasTicket found m1
  has_ticket number seen found m0 m1 rests drawn =
      let me : m1 ≡ (
        record
            (idle_view rests.tag (pass_of number rests.entries ∷ [])) { ticket = Some drawn.ticket },
        [],
      ) =
      drawn.now ∙ ap (λ (m : Me T (View G E)). (record m.0 { ticket = Some drawn.ticket }, m.1)) rests.me in
      record {
        ticket = drawn.ticket;
        number_is = drawn.number;
        drawn_is = ap (λ (m : Me T (View G E)). m.0.ticket) me;
        waits = ap (λ (m : Me T (View G E)). m.0.turn) me;
        backed = let e : pass_count m1.0 ≡ 1 = ap (λ (m : Me T (View G E)). pass_count m.0) me in omega arith;
        empty = ap (λ (m : Me T (View G E)). m.1) me;
      }

  -- the view of a seat at work
  working : G → ℕ → List E → ℕ → List E → View G E
  working tag number entries ticket turn =
      record { tag = Some tag; passes = pass_of number entries ∷ []; ticket = Some ticket; turn = Some turn }

  -- what a turn has come to, before the front is stored
  pub record AtWork (number : ℕ) (act act' : A) (front : ℕ) (m0 m : Me T (View G E)) : Type 0 where
    pub tag : G
    pub entries : List E
    pub ticket : ℕ
    pub found : T
    pub left : T
    pub rested : m0 ≡ (idle_view tag (pass_of number entries ∷ []), [])
    pub found_tag : tag ≡ tag_of found
    pub left_tag : tag ≡ tag_of left
    pub saw : HasSeen (names (tag_of found)) (history_of found) number entries
    pub appended : Appends (names (tag_of found)) number (history_of found) (history_of left)
    pub worked : does act found act' left
    pub front_is : front ≡ length (history_of left)
    pub me : m ≡ (
      record {
        tag = Some tag;
        passes = pass_of number entries ∷ [];
        ticket = Some ticket;
        turn = Some
            (history_of found);
      },
      (0, left) ∷ [],
    )

  pub works : (number seen found front : ℕ) (act act' : A) (m0 m1 m2 m3 : Me T (View G E)) → RestsAs number seen m0
      → HasDrawn found m0 m1 → Served tag_of history_of names m1 m2
      → HasWorked tag_of history_of names does number act act' front m2 m3 → AtWork number act act' front m0 m3
  works number seen found front act act' m0 m1 m2 m3 rests drawn served worked =
      let g : G = rests.tag in
      let x : T = served.value in
      let p : Seen E = pass_of number rests.entries in
      let me1 : m1 ≡ (record (idle_view g (p ∷ [])) { ticket = Some drawn.ticket }, []) =
      drawn.now ∙ ap (λ (m : Me T (View G E)). (record m.0 { ticket = Some drawn.ticket }, m.1)) rests.me in
      let me2 : m2 ≡ (
        record {
          tag = Some g;
          passes = p ∷ [];
          ticket = Some drawn.ticket;
          turn = Some
              (history_of x);
        },
        (0, x) ∷ [],
      ) =
      served.now ∙ ap (λ (m : Me T (View G E)). (record m.0 { turn = Some (history_of x) }, (0, x) ∷ [])) me1 in
      let same : x ≡ worked.found = first_value x worked.found (sym (ap (λ (m : Me T (View G E)). m.1) me2)
      ∙ worked.before) in
      let me3 : m3 ≡ (
        record {
          tag = Some g;
          passes = p ∷ [];
          ticket = Some drawn.ticket;
          turn = Some
              (history_of worked.found);
        },
        (0, worked.left) ∷ [],
      ) =
      worked.after ∙ ap (λ (m : Me T (View G E)). (m.0, (0, worked.left) ∷ [])) me2
      ∙ ap (λ (y : T). (
        record {
          tag = Some g;
          passes = p ∷ [];
          ticket = Some drawn.ticket;
          turn = Some
              (history_of y);
        },
        (0, worked.left) ∷ [],
      )) same in
      let tag_x : g ≡ tag_of x = let e : Some g ≡ Some (tag_of x) = sym (ap (λ (m : Me T (View G E)). m.0.tag) me1)
      ∙ served.tagged in cc in
      let saw : HasSeen (names (tag_of x)) (history_of x) number rests.entries =
      (let all : AllHaveSeen (names (tag_of x)) (history_of x) (p ∷ []) =
      subst (λ (ps : List (Seen E)). AllHaveSeen (names (tag_of x)) (history_of x) ps)
      (ap (λ (m : Me T (View G E)). m.0.passes) me1) served.seen in all.0) in
      record {
        tag = g;
        entries = rests.entries;
        ticket = drawn.ticket;
        found = worked.found;
        left = worked.left;
        rested = rests.me;
        found_tag = tag_x ∙ ap tag_of same;
        left_tag = tag_x ∙ ap tag_of same ∙ sym worked.tagged;
        saw = subst (λ (y : T). HasSeen (names (tag_of y)) (history_of y) number rests.entries) same saw;
        appended = worked.appended;
        worked = worked.worked;
        front_is = worked.front_is;
        me = me3;
      }

  module _ (number front : ℕ) (act act' : A) (m0 m3 : Me T (View G E)) (at : AtWork number act act' front m0 m3) where
    pub is_at_work : IsAtWork tag_of history_of names front m3
    is_at_work = record {
      value = at.left;
      before = history_of at.found;
      pass = pass_of number at.entries;
      holds = ap (λ (m : Me T (View G E)). m.1) at.me;
      tagged = ap (λ (m : Me T (View G E)). m.0.tag) at.me ∙ ap (λ (g : G). Some g) at.left_tag;
      turn = ap (λ (m : Me T (View G E)). m.0.turn) at.me;
      one = ap (λ (m : Me T (View G E)). m.0.passes) at.me;
      appended = subst (λ (g : G). Appends (names g) number (history_of at.found) (history_of at.left))
          (sym at.found_tag ∙ at.left_tag) at.appended;
      front_is = at.front_is;
    }

    module _ (m4 : Me T (View G E)) (marked : HasMarked history_of m3 m4) where
      me4 : m4 ≡ (
        record {
          tag = Some at.tag;
          passes = pass_of number
              (history_of at.left) ∷ [];
          ticket = Some at.ticket;
          turn = Some (history_of at.left);
        },
        (0, at.left) ∷ [],
      )
      me4 =
          let same : marked.value ≡ at.left = first_value marked.value at.left (sym marked.holds
          ∙ ap (λ (m : Me T (View G E)). m.1) at.me) in
          marked.now ∙ ap (λ (m : Me T (View G E)). (
            with_front (history_of marked.value) m.0,
            (0, marked.value) ∷ [],
          )) at.me
          ∙ ap (λ (y : T). (
            record {
              tag = Some at.tag;
              passes = pass_of number
                  (history_of y) ∷ [];
              ticket = Some at.ticket;
              turn = Some (history_of y);
            },
            (0, y) ∷ [],
          )) same

      pub is_marked : IsMarked tag_of history_of m4
      is_marked = record {
        value = at.left;
        holds = ap (λ (m : Me T (View G E)). m.1) me4;
        tagged = ap (λ (m : Me T (View G E)). m.0.tag) me4 ∙ ap (λ (g : G). Some g) at.left_tag;
        turn = ap (λ (m : Me T (View G E)). m.0.turn) me4;
        backed = let e : pass_count m4.0 ≡ 1 = ap (λ (m : Me T (View G E)). pass_count m.0) me4 in omega arith;
      }

      pub has_turned : (m5 : Me T (View G E)) → m5 ≡ (without_ticket m4.0, [])
          → HasTurned tag_of history_of names does number act act' front m0 m5
      has_turned m5 passed = record {
        found = at.found;
        left = at.left;
        tagged = ap (λ (m : Me T (View G E)). m.0.tag) at.rested ∙ ap (λ (g : G). Some g) at.found_tag;
        kept = sym at.left_tag ∙ at.found_tag;
        saw = subst (λ (l : List E). HasSeen (names (tag_of at.found)) (history_of at.found) number l)
            (sym (ap (λ (m : Me T (View G E)). seen_in m.0.passes) at.rested)) at.saw;
        appended = at.appended;
        worked = at.worked;
        front_is = at.front_is;
        rests = passed ∙ ap (λ (m : Me T (View G E)). (without_ticket m.0, [])) me4
            ∙ ap (λ (g : G). (idle_view g (pass_of number (history_of at.left) ∷ []), [])) at.found_tag;
      }
