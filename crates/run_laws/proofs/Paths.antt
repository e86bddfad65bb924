-- A path is over with its result, or has a next event.
use Rattle.std.proofs.Common.{◌≡◌, Some, None, refl, sym}
use Rattle.std.proofs.lemmas.Option.{none-some}
use Rattle.nand_model.specs.Chip.{PageEvent}
use Rattle.nand_model.specs.Path.{Path, Over, Then, first_event, result_of}

pub over_has_no_event : {A : Type 0} (path : Path A) (result : A) → result_of path ≡ Some result → first_event path ≡ None
over_has_no_event (Over a) result h = refl
over_has_no_event (Then event rest) result h = absurd (none-some result h)

pub result_by : {A : Type 0} (path : Path A) → first_event path ≡ None → (result : A) × (result_of path ≡ Some result)
result_by (Over result) h = (result, refl)
result_by (Then event rest) h = absurd (none-some event (sym h))

pub event_by : {A : Type 0} (path : Path A) → result_of path ≡ None → (event : PageEvent) × (first_event path ≡ Some event)
event_by (Over result) h = absurd (none-some result (sym h))
event_by (Then event rest) h = (event, refl)
