-- The weak places of a simulated chip, found by their calls.
use Rattle.std.specs.Prelude.{◌≡◌, ℕ, List, length, Option, true}
use Rattle.std.specs.List.{position_from}
use Rattle.std.specs.BTreeMap.{get}
use Rattle.std.specs.Ordering.{nat_cmp}
use Rattle.nand_model.specs.Chip.{Call, ProgramCall, EraseCall, is_weak_at}
use Rattle.nand_model.specs.declared.words.Weak.{Weak}
use Rattle.fault_plan.specs.WeakPlaces.{are_apart}
use Rattle.chip_sim.specs.declared.place_index.PlaceIndex.{PlaceIndex}

-- the first of these weak places that is weak at a call, where the list starts at this place
abbrev pub first_weak : ℕ → List Weak → Call → Option ℕ
first_weak start list call = position_from (λ weak. is_weak_at weak call) start list

-- what an index has for a call
abbrev pub place_in : PlaceIndex → Call → Option ℕ
place_in index (ProgramCall page) = get nat_cmp index.programs page
place_in index (EraseCall block) = get nat_cmp index.erases block

-- each weak place has its number of calls, no place is there twice, and the index finds them
pub record IsIndexed (list : List Weak) (calls : List ℕ) (index : PlaceIndex) : Type 0 where
  pub same_length : length calls ≡ length list
  pub apart : are_apart list ≡ true
  pub found : (call : Call) → place_in index call ≡ first_weak 0 list call
