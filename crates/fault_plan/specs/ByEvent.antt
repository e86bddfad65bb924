-- Flips that are found by their events.
use Rattle.std.specs.Prelude.{◌≡◌, ℕ, zero, suc, Bool, false, List, [], ◌∷◌}
use Rattle.std.specs.BTreeSet.{BTreeSet, contains}
use Rattle.std.specs.Ordering.{nat_cmp, ordering_then}
use Rattle.std.specs.declared.cmp.Ordering.{Ordering}
use Rattle.nand_model.specs.declared.words.Flip.{Flip}
use Rattle.nand_model.specs.Flips.{is_due}

-- an event and a place before or after another: by the events, and at one event by the places
abbrev pub cmp_event : ℕ × ℕ → ℕ × ℕ → Ordering
cmp_event a b = ordering_then (nat_cmp a.0 b.0) (nat_cmp a.1 b.1)

-- whether there is a flip at this place of the list, and it is due before this event
abbrev pub is_due_at : List Flip → (event place : ℕ) → Bool
is_due_at [] event place = false
is_due_at (flip ∷ flips) event zero = is_due event flip
is_due_at (flip ∷ flips) event (suc place) = is_due_at flips event place

-- the set has the event of each of these flips beside its place, and nothing else
abbrev pub AreByEvent : List Flip → BTreeSet (ℕ × ℕ) → Type 0
AreByEvent flips set = (event place : ℕ) → contains cmp_event set (event, place) ≡ is_due_at flips event place
