-- The rule of a turnstile's table.
-- Word 0 is the next ticket, word 1 the ticket that is served, and word 2 the front, the length of
-- the history. The slot has the value.
use Rattle.std.specs.Prelude.{◌≡◌, ◌⊎◌, ℕ, zero, suc, ◌+◌, ◌^◌, ◌%◌, ◌<◌, ◌≤◌, List, [], ◌∷◌, length, Some, None}
use mathlib.Core.Option.{none, some}
use lib.ListN.{get_elem?}
use Rattle.atomic_table.specs.Table.{State}
use Rattle.turnstile.specs.declared.view.View.{View}
use Rattle.turnstile.specs.declared.view.Seen.{Seen}
use Rattle.turnstile.specs.History.{HasSeen}
use Rattle.turnstile.specs.Totals.{total, one_if_some, one_if_same, one_if_at}

module _ {E : Type 0} where
  -- a pass that has seen nothing
  abbrev pub new_pass : ℕ → Seen E
  new_pass number = record { number = number; entries = [] }

  -- so many passes that have seen nothing, from this number on
  abbrev pub new_passes : ℕ → ℕ → List (Seen E)
  new_passes from zero = []
  new_passes from (suc many) = new_pass from ∷ new_passes (suc from) many

  -- how many of these passes have this number
  abbrev pub times : ℕ → List (Seen E) → ℕ
  times n [] = 0
  times n (p ∷ ps) = one_if_same p.number n + times n ps

  -- each of these passes has seen a beginning of the history, which names it nowhere after that
  abbrev pub AllHaveSeen : (E → ℕ) → List E → List (Seen E) → Type 0
  AllHaveSeen name history [] = Unit {0}
  AllHaveSeen name history (p ∷ ps) = HasSeen name history p.number p.entries × AllHaveSeen name history ps

module _ {G E : Type 0} where
  -- a seat that has these passes, no ticket and no turn
  abbrev pub idle_view : G → List (Seen E) → View G E
  idle_view tag passes = record { tag = Some tag; passes = passes; ticket = None; turn = None }

  -- the first seat has all passes
  abbrev pub first_view : G → ℕ → View G E
  first_view tag many = idle_view tag (new_passes 0 many)

  -- how many passes a view has or keeps
  abbrev pub pass_count : View G E → ℕ
  pass_count v = length v.passes

  -- how many of them have this number
  abbrev pub named : ℕ → View G E → ℕ
  named n v = times n v.passes

  -- 1 where the view has a ticket
  abbrev pub drawn : View G E → ℕ
  drawn v = one_if_some v.ticket

  -- 1 where the view has this ticket
  abbrev pub drawn_at : ℕ → View G E → ℕ
  drawn_at t v = one_if_at t v.ticket

  -- 1 where the view has the turn
  abbrev pub turning : View G E → ℕ
  turning v = one_if_some v.turn

  -- what a view says of the table is so
  pub record Fits (tag : G) (name : E → ℕ) (history : List E) (served : ℕ) (v : View G E) : Type 0 where
    -- a view with a pass carries the tag
    pub tagged : 0 < pass_count v → v.tag ≡ Some tag
    -- a view with a ticket has a pass for it
    pub backed : drawn v ≤ pass_count v
    -- a view that has the turn has the ticket that is served, and keeps the history
    pub served_at : (h : List E) → v.turn ≡ Some h → (v.ticket ≡ Some served) × (h ≡ history)
    -- each of its passes has seen a beginning of the history, which names that pass nowhere after
    -- it
    pub seen : AllHaveSeen name history v.passes

  -- the tickets in views are the numbers from the one served up to but not including the next one,
  -- each once
  pub record AreTickets (served : ℕ) (views : List (View G E)) : Type 0 where
    pub within : (t : ℕ) → served ≤ t → t < served + total drawn views → total (drawn_at t) views ≡ 1
    pub below : (t : ℕ) → t < served → total (drawn_at t) views ≡ 0
    pub above : (t : ℕ) → served + total drawn views ≤ t → total (drawn_at t) views ≡ 0

  -- the value is out, and one seat has the turn
  pub record IsOut {T : Type 0} (s : State T (View G E)) : Type 0 where
    pub out : s.homes ≡ none ∷ []
    pub one : total turning s.views ≡ 1

  module _ {T : Type 0} (tag_of : T → G) (history_of : T → List E) where
    -- a value with the tag and this history is at home, and no seat has the turn
    pub record IsHome (tag : G) (history : List E) (s : State T (View G E)) : Type 0 where
      pub value : T
      pub home : s.homes ≡ some value ∷ []
      pub tagged : tag_of value ≡ tag
      pub has : history_of value ≡ history
      pub still : total turning s.views ≡ 0

    -- the rule, at a history and an unbounded number that is served
    pub record StandsAt (names : G → E → ℕ) (tag : G) (many : ℕ) (history : List E) (served : ℕ)
        (s : State T (View G E)) : Type 0 where
      -- the words are the next ticket and the ticket served, both modulo 2^64, and the history's
      -- length
      pub words : s.words ≡ ((served + total drawn s.views) % 2 ^ 64) ∷ (served % 2 ^ 64) ∷ length history ∷ []
      -- the value is at home, or it is out with the one seat that has the turn
      pub value : IsHome tag history s ⊎ IsOut s
      -- the tickets lie between the one served and the next one
      pub tickets : AreTickets served s.views
      -- each pass is in one view: together they have as many as were made
      pub all_passes : total pass_count s.views ≡ many
      -- so fewer than 2^32 tickets are out, and two of them that are equal modulo 2^64 are equal
      pub few : many < 2 ^ 32
      -- no two passes have one number
      pub apart : (n : ℕ) → total (named n) s.views ≤ 1
      -- what each view says is so
      pub views : (id : ℕ) (v : View G E) → get_elem? s.views id ≡ some v → Fits tag (names tag) history served v

    -- the rule
    abbrev pub Stands : (names : G → E → ℕ) → G → ℕ → State T (View G E) → Type 0
    Stands names tag many s = (history : List E) × (served : ℕ) × StandsAt names tag many history served s
