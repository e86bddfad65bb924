-- The notes of one chip among all notes.
use Rattle.std.proofs.Common.{◌≡◌, ◌<◌, subst, ℕ, Bool, true, false, List, [], ◌∷◌, ◌++◌, Some, refl, ap, sym, ◌∙◌, append_assoc}
use Rattle.std.specs.Prelude.{if◌then◌else◌}
use Rattle.std.proofs.lemmas.Bool.{eq-eqb, ne_eqb}
use Rattle.nand_model.specs.declared.words.Note.{Note}
use Rattle.nand_model.specs.Partitions.{Partitions}
use Rattle.nand_model.specs.Chip.{ChipState, PageEvent}
use Rattle.chip_paths.specs.ChipRun.{torn_notes}
use Rattle.run_model.specs.History.{LastChips, last_after, note_chip, is_chip, notes_of_chip_from, IsThere, AreOfChips}
use Rattle.command_model.specs.Session.{exchange_in, exchanges_of}

-- on which chip each session last began, after these notes
abbrev pub lasts : Partitions → LastChips → List Note → LastChips
lasts partitions last [] = last
lasts partitions last (note ∷ notes) = lasts partitions (last_after partitions last note) notes

pub lasts-append : (partitions : Partitions) (last : LastChips) (xs ys : List Note) → lasts partitions last (xs ++ ys) ≡ lasts partitions (lasts partitions last xs) ys
lasts-append partitions last [] ys = refl
lasts-append partitions last (x ∷ xs) ys = lasts-append partitions (last_after partitions last x) xs ys

pub chip_notes-append : (partitions : Partitions) (last : LastChips) (k : ℕ) (xs ys : List Note)
    → notes_of_chip_from partitions last k (xs ++ ys) ≡ notes_of_chip_from partitions last k xs ++ notes_of_chip_from partitions (lasts partitions last xs) k ys
chip_notes-append partitions last k [] ys = refl
chip_notes-append partitions last k (x ∷ xs) ys =
    ap (λ zs. (if is_chip (note_chip partitions last x) k then x ∷ [] else []) ++ zs) (chip_notes-append partitions (last_after partitions last x) k xs ys)
    ∙ sym (append_assoc (if is_chip (note_chip partitions last x) k then x ∷ [] else []) _ _)

pub exchanges-append : (session : ℕ) (xs ys : List Note) → exchanges_of session (xs ++ ys) ≡ exchanges_of session xs ++ exchanges_of session ys
exchanges-append session [] ys = refl
exchanges-append session (x ∷ xs) ys = ap (λ zs. exchange_in session x ++ zs) (exchanges-append session xs ys) ∙ sym (append_assoc (exchange_in session x) _ _)

-- notes of chips that are there, and more of them
pub of_chips-append : (partitions : Partitions) (count : ℕ) (last : LastChips) (xs ys : List Note)
    → AreOfChips partitions count last xs → AreOfChips partitions count (lasts partitions last xs) ys → AreOfChips partitions count last (xs ++ ys)
of_chips-append partitions count last [] ys h g = g
of_chips-append partitions count last (x ∷ xs) ys h g = (h.0, of_chips-append partitions count (last_after partitions last x) xs ys h.1 g)

-- what some notes add: to one chip all of them, to the others nothing
pub record AreOf (partitions : Partitions) (last : LastChips) (k : ℕ) (new : List Note) : Type 0 where
  pub here : notes_of_chip_from partitions last k new ≡ new
  pub elsewhere : (j : ℕ) → (k ≡ j → ⊥) → notes_of_chip_from partitions last j new ≡ []
  pub there : (count : ℕ) → k < count → AreOfChips partitions count last new

pub nothing_is_of : (partitions : Partitions) (last : LastChips) (k : ℕ) → AreOf partitions last k []
nothing_is_of partitions last k = record { here = refl; elsewhere = λ j n. refl; there = λ count h. tt }

-- one note of chip k
pub one_is_of : (partitions : Partitions) (last : LastChips) (k : ℕ) (note : Note) → note_chip partitions last note ≡ Some k → AreOf partitions last k (note ∷ [])
one_is_of partitions last k note e = record {
  here = ap (λ o. (if is_chip o k then note ∷ [] else []) ++ []) e ∙ ap (λ b. (if b then note ∷ [] else []) ++ []) (eq-eqb k k refl);
  elsewhere = λ j n. ap (λ o. (if is_chip o j then note ∷ [] else []) ++ []) e ∙ ap (λ b. (if b then note ∷ [] else []) ++ []) (ne_eqb k j n);
  there = λ count h. (subst (IsThere count) (sym e) h, tt);
}

pub torn_are_of : {W : Type 0} (partitions : Partitions) (last : LastChips) (b : Bool) (k n : ℕ) (cut : Bool) (s : ChipState W) (e : PageEvent) (after : ChipState W)
    → AreOf partitions last k (torn_notes b k n cut s e after)
torn_are_of partitions last true k n cut s e after = one_is_of partitions last k _ refl
torn_are_of partitions last false k n cut s e after = nothing_is_of partitions last k

-- torn notes are of no session
pub torn_last : {W : Type 0} (partitions : Partitions) (last : LastChips) (b : Bool) (k n : ℕ) (cut : Bool) (s : ChipState W) (e : PageEvent) (after : ChipState W)
    → lasts partitions last (torn_notes b k n cut s e after) ≡ last
torn_last partitions last true k n cut s e after = refl
torn_last partitions last false k n cut s e after = refl

pub torn_exchanges : {W : Type 0} (session : ℕ) (b : Bool) (k n : ℕ) (cut : Bool) (s : ChipState W) (e : PageEvent) (after : ChipState W)
    → exchanges_of session (torn_notes b k n cut s e after) ≡ []
torn_exchanges session true k n cut s e after = refl
torn_exchanges session false k n cut s e after = refl

-- a torn note with something of the same chip behind it
pub both_are_of : (partitions : Partitions) (last : LastChips) (k : ℕ) (xs ys : List Note) → AreOf partitions last k xs → lasts partitions last xs ≡ last → AreOf partitions last k ys → AreOf partitions last k (xs ++ ys)
both_are_of partitions last k xs ys f e h = record {
  here = chip_notes-append partitions last k xs ys ∙ ap (λ l. notes_of_chip_from partitions last k xs ++ notes_of_chip_from partitions l k ys) e ∙ cc (f.here, h.here);
  elsewhere = λ j n. chip_notes-append partitions last j xs ys ∙ ap (λ l. notes_of_chip_from partitions last j xs ++ notes_of_chip_from partitions l j ys) e ∙ cc (f.elsewhere j n, h.elsewhere j n);
  there = λ count l. of_chips-append partitions count last xs ys (f.there count l) (subst (λ z. AreOfChips partitions count z ys) (sym e) (h.there count l));
}
