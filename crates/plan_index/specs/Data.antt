-- Where data stand, by NAME.
use Rattle.std.specs.Prelude.{◌≡◌, ℕ, ◌+◌, ◌≤◌, if◌then◌else◌, bytes_eq, sum_by, List, [], ◌∷◌, Option, Some, None}
use Rattle.std.specs.Ordering.{nat_cmp}
use Rattle.std.specs.Cmp.Lexicographic.{slice_cmp}
use Rattle.std.specs.BTreeMap.{get_by}
use Rattle.plan_grammar.specs.declared.lines.DataLine.{DataLine}
use Rattle.plan_grammar.specs.Limits.{most_data}
use Rattle.plan_grammar.specs.Devices.{data_length}
use Rattle.plan_index.specs.declared.data.DataPlace.{DataPlace}
use Rattle.plan_index.specs.declared.data.DataIndex.{DataIndex}

-- where data stand, among lines of data of which the first has this place
abbrev pub place_from : ℕ → List DataLine → List ℕ → Option DataPlace
place_from place [] name = None
place_from place (payload ∷ payloads) name =
    if bytes_eq payload.name name then Some (record { place = place; len = data_length payload })
    else place_from (place + 1) payloads name

-- where the data of this NAME stand
abbrev pub place_of : List DataLine → List ℕ → Option DataPlace
place_of payloads name = place_from 0 payloads name

-- what is kept of these lines
pub record AreData (payloads : List DataLine) (index : DataIndex) : Type 0 where
  pub places : (name : List ℕ) → get_by (λ key. slice_cmp nat_cmp name key.items) index.places ≡ place_of payloads name
  pub total : index.total ≡ sum_by data_length payloads
  pub few : index.total ≤ most_data
