-- The seat of a pass between the steps of a turn.
use Rattle.std.specs.Prelude.{◌≡◌, ◌^◌, ◌%◌, ◌<◌, ℕ, List, [], ◌∷◌, ◌++◌, length, Some, None}
use Rattle.atomic_table.specs.Table.{Me}
use Rattle.turnstile.specs.declared.view.View.{View}
use Rattle.turnstile.specs.declared.view.Seen.{Seen}
use Rattle.turnstile.specs.History.{Appends, HasSeen}
use Rattle.turnstile.specs.Turns.{idle_view, pass_count}
use Rattle.turnstile.specs.Plays.{with_front}

module _ {E : Type 0} where
  -- a pass by its number and what it has seen
  abbrev pub pass_of : ℕ → List E → Seen E
  pass_of number seen = record { number = number; entries = seen }

  -- what the only pass of a seat has seen
  abbrev pub seen_in : List (Seen E) → List E
  seen_in [] = []
  seen_in (p ∷ ps) = p.entries

module _ {G E : Type 0} where
  -- the seat has this pass alone, no ticket and no turn, and holds no slot
  pub record RestsAs {T : Type 0} (number seen : ℕ) (m : Me T (View G E)) : Type 0 where
    pub tag : G
    pub entries : List E
    pub count : seen ≡ length entries
    pub me : m ≡ (idle_view tag (pass_of number entries ∷ []), [])

  -- a ticket was drawn, and the number found is its number
  pub record HasDrawn {T : Type 0} (found : ℕ) (m m' : Me T (View G E)) : Type 0 where
    pub ticket : ℕ
    pub number : found ≡ ticket % 2 ^ 64
    pub now : m' ≡ (record m.0 { ticket = Some ticket }, m.1)

  -- the seat has a ticket of this number, and waits
  pub record HasTicket {T : Type 0} (number : ℕ) (m : Me T (View G E)) : Type 0 where
    pub ticket : ℕ
    pub number_is : number ≡ ticket % 2 ^ 64
    pub drawn_is : m.0.ticket ≡ Some ticket
    pub waits : m.0.turn ≡ None
    pub backed : 0 < pass_count m.0
    pub empty : m.1 ≡ []

  module _ {T : Type 0} (tag_of : T → G) (history_of : T → List E) (names : G → E → ℕ) where
    -- an act worked once on the value that the seat holds
    pub record HasWorked {A : Type 0} (does : A → T → A → T → Type 0) (number : ℕ) (act act' : A) (front : ℕ)
        (m m' : Me T (View G E)) : Type 0 where
      pub found : T
      pub left : T
      pub before : m.1 ≡ (0, found) ∷ []
      pub after : m' ≡ (m.0, (0, left) ∷ [])
      pub tagged : tag_of left ≡ tag_of found
      pub appended : Appends (names (tag_of found)) number (history_of found) (history_of left)
      pub worked : does act found act' left
      pub front_is : front ≡ length (history_of left)

    -- the seat, which has one pass, has the turn and the value, and an act has worked on it
    pub record IsAtWork (front : ℕ) (m : Me T (View G E)) : Type 0 where
      pub value : T
      pub before : List E
      pub pass : Seen E
      pub holds : m.1 ≡ (0, value) ∷ []
      pub tagged : m.0.tag ≡ Some (tag_of value)
      pub turn : m.0.turn ≡ Some before
      pub one : m.0.passes ≡ pass ∷ []
      pub appended : Appends (names (tag_of value)) pass.number before (history_of value)
      pub front_is : front ≡ length (history_of value)

    -- a seat with one pass rested, an act worked once on the value, and the seat rests again
    pub record HasTurned {A : Type 0} (does : A → T → A → T → Type 0) (number : ℕ) (act act' : A) (front : ℕ)
        (m m' : Me T (View G E)) : Type 0 where
      pub found : T
      pub left : T
      pub tagged : m.0.tag ≡ Some (tag_of found)
      pub kept : tag_of left ≡ tag_of found
      pub saw : HasSeen (names (tag_of found)) (history_of found) number (seen_in m.0.passes)
      pub appended : Appends (names (tag_of found)) number (history_of found) (history_of left)
      pub worked : does act found act' left
      pub front_is : front ≡ length (history_of left)
      pub rests : m' ≡ (idle_view (tag_of found) (pass_of number (history_of left) ∷ []), [])

  -- the front was stored
  pub record HasMarked {T : Type 0} (history_of : T → List E) (m m' : Me T (View G E)) : Type 0 where
    pub value : T
    pub holds : m.1 ≡ (0, value) ∷ []
    pub now : m' ≡ (with_front (history_of value) m.0, (0, value) ∷ [])

  -- the seat has the turn and the value, whose history its view keeps
  pub record IsMarked {T : Type 0} (tag_of : T → G) (history_of : T → List E) (m : Me T (View G E)) : Type 0 where
    pub value : T
    pub holds : m.1 ≡ (0, value) ∷ []
    pub tagged : m.0.tag ≡ Some (tag_of value)
    pub turn : m.0.turn ≡ Some (history_of value)
    pub backed : 0 < pass_count m.0

  -- a view with one more pass
  abbrev pub with_pass : View G E → Seen E → View G E
  with_pass v p = record v { passes = v.passes ++ p ∷ [] }

  -- a seat that keeps passes, and has no ticket and no turn
  pub record Keeps {T : Type 0} (tag : G) (m : Me T (View G E)) : Type 0 where
    pub some : 0 < length m.0.passes
    pub me : m ≡ (idle_view tag m.0.passes, [])
