-- Blocks that fail in writings, by the notes.
use Rattle.std.proofs.Common.{◌≡◌, ◌⊎◌, ℕ, Bool, true, false, ◌&&◌, ◌||◌, ◌==◌, List, [], ◌∷◌, ◌++◌, refl, ap₂, sym, ◌∙◌, inl, inr}
use Rattle.std.specs.Prelude.{if◌then◌else◌}
use Rattle.std.specs.List.{list_any}
use Rattle.std.proofs.lemmas.Bool.{false≢true, eq-eqb, and_parts}
use Rattle.std.proofs.lemmas.List.Folds.{list_any-append}
use Rattle.nand_model.specs.Sizes.{first_page}
use Rattle.nand_model.specs.Chip.{ChipState, FaultModel, ChipEvent, Complete, PowerCut, Flipped, PageEvent, ReadEvent, EraseEvent, ProgramEvent, happens}
use Rattle.chip_paths.specs.ChipRun.{torn_notes, name_of}
use Rattle.nand_model.specs.Partitions.{Partitions}
use Rattle.nand_model.specs.Path.{answer_to, is_failure}
use Rattle.nand_model.specs.Quiet.{is_table_block}
use Rattle.nand_model.specs.Table.{table_blocks}
use Rattle.nand_model.specs.declared.geometry.Geometry.{Geometry}
use Rattle.nand_model.specs.declared.words.Note.{Note}
use Rattle.run_model.specs.History.{LastChips, last_after, note_chip, is_chip, notes_of_chip_from, events_in, notes_of_event, notes_of_trace}
use Rattle.run_model.specs.Marking.{is_failure_at, is_failure_note, failed_in_writing}
use Rattle.page_laws.specs.Keeping.{IsIn}
use Rattle.relocation_laws.specs.Life.{FailsIn}
use Rattle.crash_laws.specs.Life.{TableFails}

pub or_left : (a b : Bool) → a ≡ true → (a || b) ≡ true
or_left true b h = refl
or_left false b h = absurd (false≢true h)

pub or_right : (a b : Bool) → b ≡ true → (a || b) ≡ true
or_right true b h = refl
or_right false b h = h

pub or_cases : (a b : Bool) → (a || b) ≡ true → (a ≡ true) ⊎ (b ≡ true)
or_cases true b h = inl refl
or_cases false b h = inr h

both : (a b : Bool) → a ≡ true → b ≡ true → (a && b) ≡ true
both a b e f = ap₂ (λ x y. x && y) e f

is_among : (xs : List ℕ) (b : ℕ) → IsIn xs b → list_any (λ c. c == b) xs ≡ true
is_among [] b i = absurd i
is_among (x ∷ xs) b (inl e) = or_left (x == b) (list_any (λ c. c == b) xs) (eq-eqb x b (sym e))
is_among (x ∷ xs) b (inr i) = or_right (x == b) (list_any (λ c. c == b) xs) (is_among xs b i)

-- what some note of a chip says, some note says
one_more : (test : Note → Bool) (t : Bool) (note : Note) (more notes : List Note) → (list_any test more ≡ true → list_any test notes ≡ true) → list_any test ((if t then note ∷ [] else []) ++ more) ≡ true → (test note || list_any test notes) ≡ true
one_more test true note more notes later h = on (or_cases (test note) (list_any test more) h)
  where
    on : (test note ≡ true) ⊎ (list_any test more ≡ true) → (test note || list_any test notes) ≡ true
    on (inl e) = or_left (test note) (list_any test notes) e
    on (inr e) = or_right (test note) (list_any test notes) (later e)
one_more test false note more notes later h = or_right (test note) (list_any test notes) (later h)

some_note : (test : Note → Bool) (partitions : Partitions) (last : LastChips) (k : ℕ) (notes : List Note) → list_any test (notes_of_chip_from partitions last k notes) ≡ true → list_any test notes ≡ true
some_note test partitions last k [] h = h
some_note test partitions last k (note ∷ notes) h =
    one_more test (is_chip (note_chip partitions last note) k) note (notes_of_chip_from partitions (last_after partitions last note) k notes) notes
    (λ e. some_note test partitions (last_after partitions last note) k notes e) h

module _ (g : Geometry) (k b : ℕ) where
  abbrev noted : List Note → Bool
  noted notes = list_any (is_failure_note g k b) notes

  failed_as : (xs ys : List Note) → (noted xs ≡ true → noted ys ≡ true) → failed_in_writing g k b xs ≡ true → failed_in_writing g k b ys ≡ true
  failed_as xs ys f h = let p = and_parts (is_table_block g b) (noted xs) h in both (is_table_block g b) (noted ys) p.0 (f p.1)

  -- a failure among some of the notes
  pub failed_before : (xs ys : List Note) → failed_in_writing g k b xs ≡ true → failed_in_writing g k b (xs ++ ys) ≡ true
  failed_before xs ys h = failed_as xs (xs ++ ys) (λ e. list_any-append (is_failure_note g k b) xs ys ∙ or_left (noted xs) (noted ys) e) h

  pub failed_after : (xs ys : List Note) → failed_in_writing g k b ys ≡ true → failed_in_writing g k b (xs ++ ys) ≡ true
  failed_after xs ys h = failed_as ys (xs ++ ys) (λ e. list_any-append (is_failure_note g k b) xs ys ∙ or_right (noted xs) (noted ys) e) h

  -- a failure among the notes of a chip is one among all notes
  pub failed_of_chip : (partitions : Partitions) (last : LastChips) (notes : List Note) → failed_in_writing g k b (notes_of_chip_from partitions last k notes) ≡ true → failed_in_writing g k b notes ≡ true
  failed_of_chip partitions last notes h = failed_as (notes_of_chip_from partitions last k notes) notes (λ e. some_note (is_failure_note g k b) partitions last k notes e) h

  module _ {W : Type 0} (model : FaultModel W) where
    one_noted : (t : Bool) (n : ℕ) (s : ChipState W) (e : PageEvent) (after : ChipState W) → t ≡ true → is_failure_at g b (name_of e) ≡ true → noted (torn_notes t k n false s e after) ≡ true
    one_noted true n s e after is at = or_left (k == k && is_failure_at g b (name_of e)) false (both (k == k) (is_failure_at g b (name_of e)) (eq-eqb k k refl) at)
    one_noted false n s e after is at = absurd (false≢true is)

    here : (n : ℕ) (s : ChipState W) (e : PageEvent) (rest : List Note) → is_failure (answer_to model s e) ≡ true → is_failure_at g b (name_of e) ≡ true → noted (notes_of_event model k n s (Complete e) ++ rest) ≡ true
    here n s e rest is at =
        list_any-append (is_failure_note g k b) (notes_of_event model k n s (Complete e)) rest
        ∙ or_left (noted (notes_of_event model k n s (Complete e))) (noted rest) (one_noted (is_failure (answer_to model s e)) n s e (happens model s (Complete e)) is at)

    there : (xs ys : List Note) → noted ys ≡ true → noted (xs ++ ys) ≡ true
    there xs ys h = list_any-append (is_failure_note g k b) xs ys ∙ or_right (noted xs) (noted ys) h

    trace_noted : (s : ChipState W) (trace : List (ℕ × ChipEvent)) → FailsIn model g s (events_in trace) b → noted (notes_of_trace model k s trace) ≡ true
    trace_noted s [] h = absurd h
    trace_noted s ((n, Flipped page bit) ∷ trace) h = trace_noted (happens model s (Flipped page bit)) trace h
    trace_noted s ((n, PowerCut e done) ∷ trace) h =
        there (notes_of_event model k n s (PowerCut e done)) (notes_of_trace model k (happens model s (PowerCut e done)) trace) (trace_noted (happens model s (PowerCut e done)) trace h)
    trace_noted s ((n, Complete (ReadEvent page)) ∷ trace) h =
        there (notes_of_event model k n s (Complete (ReadEvent page))) (notes_of_trace model k (happens model s (Complete (ReadEvent page))) trace) (trace_noted (happens model s (Complete (ReadEvent page))) trace h)
    trace_noted s ((n, Complete (EraseEvent x)) ∷ trace) (inl f) = here n s (EraseEvent x) (notes_of_trace model k (happens model s (Complete (EraseEvent x))) trace) f.0 (eq-eqb x b (sym f.1))
    trace_noted s ((n, Complete (EraseEvent x)) ∷ trace) (inr h) =
        there (notes_of_event model k n s (Complete (EraseEvent x))) (notes_of_trace model k (happens model s (Complete (EraseEvent x))) trace) (trace_noted (happens model s (Complete (EraseEvent x))) trace h)
    trace_noted s ((n, Complete (ProgramEvent page image)) ∷ trace) (inl f) =
        here n s (ProgramEvent page image) (notes_of_trace model k (happens model s (Complete (ProgramEvent page image))) trace) f.0 (eq-eqb page (first_page g b) f.1)
    trace_noted s ((n, Complete (ProgramEvent page image)) ∷ trace) (inr h) =
        there (notes_of_event model k n s (Complete (ProgramEvent page image))) (notes_of_trace model k (happens model s (Complete (ProgramEvent page image))) trace)
        (trace_noted (happens model s (Complete (ProgramEvent page image))) trace h)

    -- a block that failed in a writing stands in the notes of the trace
    pub trace_failed : (s : ChipState W) (trace : List (ℕ × ChipEvent)) → TableFails model g s (events_in trace) b → failed_in_writing g k b (notes_of_trace model k s trace) ≡ true
    trace_failed s trace (tables, (i, f)) =
        both (is_table_block g b) (noted (notes_of_trace model k s trace)) (both _ (list_any (λ c. c == b) (table_blocks g)) tables (is_among (table_blocks g) b i)) (trace_noted s trace f)
