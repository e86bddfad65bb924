-- Paths: which page event comes next depends on the answers to those before.
use Rattle.std.specs.Prelude.{◌≡◌, ℕ, Bool, true, false, List, [], ◌∷◌, ◌++◌, Option, Some, None, ⊤}
use Rattle.nand_model.specs.Chip.{ChipState, FaultModel, ChipEvent, Complete, PowerCut, Flipped, PageEvent, ReadEvent, ProgramEvent, EraseEvent, ProgramCall, EraseCall, DoneBits, failure_of, happens}

-- the answer to an event: the cells that a read saw, or whether a program or an erase was good
pub data Answer : Type 0 where
  Data : (cells : List ℕ) → Answer
  Good : Answer
  Failed : Answer

-- the event has failed
abbrev pub is_failure : Answer → Bool
is_failure Failed = true
is_failure (Data cells) = false
is_failure Good = false

-- the event, a program or an erase, was good
abbrev pub is_good : Answer → Bool
is_good Good = true
is_good (Data cells) = false
is_good Failed = false

-- the cells of a page that was read
abbrev pub cells_of : Answer → List ℕ
cells_of (Data cells) = cells
cells_of Good = []
cells_of Failed = []

-- a path is over with a result, or an event comes, and the rest follows from its answer
pub data Path (A : Type 0) : Type 0 where
  Over : A → Path A
  Then : PageEvent → (Answer → Path A) → Path A

-- the rest of a path after these answers
abbrev pub after_answers : {A : Type 0} → List Answer → Path A → Path A
after_answers [] path = path
after_answers (answer ∷ answers) (Over result) = Over result
after_answers (answer ∷ answers) (Then event rest) = after_answers answers (rest answer)

-- the next event of a path
abbrev pub first_event : {A : Type 0} → Path A → Option PageEvent
first_event (Over result) = None
first_event (Then event rest) = Some event

-- the result of a path that is over
abbrev pub result_of : {A : Type 0} → Path A → Option A
result_of (Over result) = Some result
result_of (Then event rest) = None

-- the next event of a path after these answers
abbrev pub next_event : {A : Type 0} → Path A → List Answer → Option PageEvent
next_event path answers = first_event (after_answers answers path)

-- a path goes on in one of two ways
abbrev pub either : {A : Type 0} → Bool → (Unit {0} → Path A) → (Unit {0} → Path A) → Path A
either true first second = first tt
either false first second = second tt

-- the answer of a program or an erase, by the bits that were done where it failed
abbrev pub good_or_failed : Option DoneBits → Answer
good_or_failed None = Good
good_or_failed (Some done) = Failed

module _ {W : Type 0} (model : FaultModel W) where
  -- how a chip answers an event
  abbrev pub answer_to : ChipState W → PageEvent → Answer
  answer_to s (ReadEvent page) = Data (s.pages page).cells
  answer_to s (ProgramEvent page image) = good_or_failed (failure_of model s (ProgramCall page))
  answer_to s (EraseEvent block) = good_or_failed (failure_of model s (EraseCall block))

  -- the trace goes along the path, with flips between its events, and may end with the next event
  -- torn by a power cut
  abbrev pub GoesAlong : (List Answer → Option PageEvent) → ChipState W → List Answer → List ChipEvent → Type 0
  GoesAlong next s answers [] = ⊤
  GoesAlong next s answers (Flipped page bit ∷ trace) =
      GoesAlong next (happens model s (Flipped page bit)) answers trace
  GoesAlong next s answers (Complete e ∷ trace) =
      (next answers ≡ Some e) × GoesAlong next (happens model s (Complete e)) (answers ++ answer_to s e ∷ []) trace
  GoesAlong next s answers (PowerCut e done ∷ trace) = (next answers ≡ Some e) × (trace ≡ [])

  -- the answers to the events of a trace
  abbrev pub answers_of : ChipState W → List ChipEvent → List Answer
  answers_of s [] = []
  answers_of s (Flipped page bit ∷ trace) = answers_of (happens model s (Flipped page bit)) trace
  answers_of s (Complete e ∷ trace) = answer_to s e ∷ answers_of (happens model s (Complete e)) trace
  answers_of s (PowerCut e done ∷ trace) = []

-- a trace that no power cut ended
abbrev pub is_uncut : List ChipEvent → Bool
is_uncut [] = true
is_uncut (Complete e ∷ trace) = is_uncut trace
is_uncut (Flipped page bit ∷ trace) = is_uncut trace
is_uncut (PowerCut e done ∷ trace) = false
