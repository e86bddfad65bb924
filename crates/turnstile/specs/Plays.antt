-- What each step at a turnstile's table tells the seat that takes it, and how passes go from seat
-- to seat.
use Rattle.std.specs.Prelude.{◌≡◌, ◌≢◌, ℕ, ◌^◌, ◌%◌, ◌≤◌, List, [], ◌∷◌, ◌++◌, Some, None}
use Rattle.atomic_table.specs.Table.{Me, Step}
use Rattle.turnstile.specs.declared.view.View.{View}
use Rattle.turnstile.specs.declared.view.Seen.{Seen}
use Rattle.turnstile.specs.Turns.{AllHaveSeen, times}

module _ {E : Type 0} where
  -- the first pass has seen this history
  abbrev pub with_seen : List E → List (Seen E) → List (Seen E)
  with_seen history [] = []
  with_seen history (p ∷ ps) = record { number = p.number; entries = history } ∷ ps

  -- all passes but the first
  abbrev pub but_first : List (Seen E) → List (Seen E)
  but_first [] = []
  but_first (p ∷ ps) = ps

  -- the first pass alone
  abbrev pub first_only : List (Seen E) → List (Seen E)
  first_only [] = []
  first_only (p ∷ ps) = p ∷ []

module _ {G E : Type 0} where
  -- draw: the word found is the number of the seat's ticket
  abbrev pub drew : {T : Type 0} → Step T → Me T (View G E) → ℕ → Me T (View G E) → Type 0
  drew st m found m' = (t : ℕ) × (found ≡ t % 2 ^ 64) × (m' ≡ (record m.0 { ticket = Some t }, m.1))

  module _ {T : Type 0} (tag_of : T → G) (history_of : T → List E) where
    -- the seat has the turn, the value and its history, of which its passes have seen beginnings
    pub record Served (names : G → E → ℕ) (m m' : Me T (View G E)) : Type 0 where
      pub value : T
      pub tagged : m.0.tag ≡ Some (tag_of value)
      pub seen : AllHaveSeen (names (tag_of value)) (history_of value) m.0.passes
      pub apart : (n : ℕ) → times n m.0.passes ≤ 1
      pub now : m' ≡ (record m.0 { turn = Some (history_of value) }, (0, value) ∷ [])

    -- look: where the number found is the ticket, the seat is served; else nothing changed
    abbrev pub looked : (names : G → E → ℕ) → Step T → Me T (View G E) → ℕ → Me T (View G E) → Type 0
    looked names st m found m' =
        (t : ℕ) × (m.0.ticket ≡ Some t)
        × (found ≡ t % 2 ^ 64 → Served names m m') × (found ≢ t % 2 ^ 64 → m' ≡ m)

  -- the seat's turn keeps this history, and its own pass has seen it
  abbrev pub with_front : List E → View G E → View G E
  with_front history v = record v { turn = Some history; passes = with_seen history v.passes }

  -- front: the view has the history of the value that the seat holds
  abbrev pub marked : {T : Type 0} → (T → List E) → Step T → Me T (View G E) → ℕ → Me T (View G E) → Type 0
  marked {T} history_of st m found m' =
      (x : T) × (m.1 ≡ (0, x) ∷ []) × (m' ≡ (with_front (history_of x) m.0, m.1))

  -- a view without ticket and turn
  abbrev pub without_ticket : View G E → View G E
  without_ticket v = record v { ticket = None; turn = None }

  -- pass: the seat gives up ticket, turn and value
  abbrev pub passed : {T : Type 0} → Step T → Me T (View G E) → ℕ → Me T (View G E) → Type 0
  passed st m found m' = m' ≡ (without_ticket m.0, [])

  -- split: the old seat keeps all passes but the first
  abbrev pub kept_by : View G E → View G E
  kept_by v = record v { passes = but_first v.passes }

  -- split: the new seat has the first pass
  abbrev pub given_to : View G E → View G E
  given_to v = record { tag = v.tag; passes = first_only v.passes; ticket = None; turn = None }

  -- join: a seat takes in another's passes
  abbrev pub joined : View G E → View G E → View G E
  joined v w = record v { passes = v.passes ++ w.passes }

  -- join: the seat that was taken in is spent
  abbrev pub spent : View G E
  spent = record { tag = None; passes = []; ticket = None; turn = None }
