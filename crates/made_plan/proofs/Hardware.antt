-- The header, the controllers and the chips are read.
use Rattle.std.proofs.Common.{◌≡◌, ℕ, suc, ◌+◌, ◌<◌, true, leb, ltb, List, [], ◌∷◌, ◌++◌, length, Ok, Some, refl, arith}
use Rattle.std.specs.Prelude.{◌&&◌, ◌||◌, codes, replicate}
use Rattle.nand_model.specs.Sizes.{page_count}
use Rattle.plan_grammar.specs.declared.words.LineKind.TheVariants.{Header, Controller, Chip, Part}
use Rattle.plan_grammar.specs.declared.lines.PlanLines.{PlanLines}
use Rattle.plan_grammar.specs.declared.lines.ChipLines.{ChipLines}
use Rattle.plan_grammar.specs.declared.lines.PartLine.{PartLine}
use Rattle.plan_grammar.specs.Limits.{most_controllers, most_chips, most_pages}
use Rattle.plan_grammar.specs.Rules.{is_empty, last_of}
use Rattle.plan_grammar.specs.Devices.{all_pages}
use Rattle.plan_grammar.specs.Hardware.{has_chip, last_chip, with_chip, with_part}
use Rattle.plan_grammar.specs.Grammar.{no_lines}
use Rattle.plan_grammar.specs.Canonical.{decimals}
use Rattle.plan_laws.proofs.Hardware.{header_again, controller_again, chip_again, part_again, numbers_of_chip, part_texts}
use Rattle.made_plan.specs.Made.{made_geometry, made_chip, made_controllers}
use Rattle.made_plan.proofs.Reached.{IsReached, none_reached, reached}
use Rattle.made_plan.proofs.Plans.{hardware_of}

header_reached : IsReached (hardware_of [])
header_reached =
    reached Header no_lines (hardware_of []) (codes "1" ∷ []) none_reached
    (header_again no_lines (hardware_of []) (record { unbegun = refl; next_is = refl }))

controller_reached : (controllers : List (List ChipLines)) → (is_empty controllers || has_chip (hardware_of controllers)) ≡ true →
    length controllers < most_controllers → IsReached (hardware_of controllers) → IsReached (hardware_of (controllers ++ [] ∷ []))
controller_reached controllers may few h =
    reached Controller (hardware_of controllers) (hardware_of (controllers ++ [] ∷ [])) [] h
    (controller_again (hardware_of controllers) (hardware_of (controllers ++ [] ∷ [])) (record { may = may; few = few; next_is = refl }))

-- a chip's partitions
abbrev low_part : PartLine
low_part = record { start = 0; count = 14 }

abbrev high_part : PartLine
high_part = record { start = 14; count = 14 }

-- a chip with some of its partitions
abbrev chip_with : List PartLine → ChipLines
chip_with parts = record { geometry = made_geometry; details = []; parts = parts }

-- whole controllers, and then one of some whole chips and others
abbrev grown : (controllers chips : ℕ) → List ChipLines → List (List ChipLines)
grown c k last = replicate c (replicate 4 made_chip) ++ (replicate k made_chip ++ last) ∷ []

abbrev stage : (controllers chips : ℕ) → List ChipLines → PlanLines
stage c k last = hardware_of (grown c k last)

-- what one more chip asks for
record HasRoom (c k : ℕ) : Type 0 where
  pub last : last_of (grown c k []) ≡ Some (replicate k made_chip ++ [])
  pub room : (ltb (length (replicate k made_chip ++ [])) most_chips
      && leb (all_pages (stage c k []) + page_count made_geometry) most_pages) ≡ true
  pub bare : with_chip (chip_with []) (stage c k []) ≡ stage c k (chip_with [] ∷ [])
  pub opened : last_chip (stage c k (chip_with [] ∷ [])) ≡ Ok (chip_with [])
  pub half : with_part low_part (stage c k (chip_with [] ∷ [])) ≡ stage c k (chip_with (low_part ∷ []) ∷ [])
  pub begun : last_chip (stage c k (chip_with (low_part ∷ []) ∷ [])) ≡ Ok (chip_with (low_part ∷ []))
  pub full : with_part high_part (stage c k (chip_with (low_part ∷ []) ∷ [])) ≡ stage c (suc k) []

-- a chip and its two partitions
chip_reached : (c k : ℕ) → HasRoom c k → IsReached (stage c k []) → IsReached (stage c (suc k) [])
chip_reached c k room h =
    let one : IsReached (stage c k (chip_with [] ∷ [])) =
    reached Chip (stage c k []) (stage c k (chip_with [] ∷ [])) (decimals (numbers_of_chip made_geometry)) h
    (chip_again (stage c k []) (stage c k (chip_with [] ∷ [])) (record {
      hardware = refl;
      chips = replicate k made_chip ++ [];
      last = room.last;
      g = made_geometry;
      room = room.room;
      next_is = room.bare;
    })) in
    let two : IsReached (stage c k (chip_with (low_part ∷ []) ∷ [])) =
    reached Part (stage c k (chip_with [] ∷ [])) (stage c k (chip_with (low_part ∷ []) ∷ [])) (part_texts low_part) one
    (part_again (stage c k (chip_with [] ∷ [])) (stage c k (chip_with (low_part ∷ []) ∷ [])) (record {
      hardware = refl;
      chip = chip_with [];
      last = room.opened;
      part = low_part;
      some = omega arith;
      within = omega arith;
      free = refl;
      next_is = room.half;
    })) in
    reached Part (stage c k (chip_with (low_part ∷ []) ∷ [])) (stage c (suc k) []) (part_texts high_part) two
    (part_again (stage c k (chip_with (low_part ∷ []) ∷ [])) (stage c (suc k) []) (record {
      hardware = refl;
      chip = chip_with (low_part ∷ []);
      last = room.begun;
      part = high_part;
      some = omega arith;
      within = omega arith;
      free = refl;
      next_is = room.full;
    }))

first_room : HasRoom 0 0 × HasRoom 0 1 × HasRoom 0 2 × HasRoom 0 3
unfolding last_chip
first_room = (
  record { last = refl; room = refl; bare = refl; opened = refl; half = refl; begun = refl; full = refl },
  record { last = refl; room = refl; bare = refl; opened = refl; half = refl; begun = refl; full = refl },
  record { last = refl; room = refl; bare = refl; opened = refl; half = refl; begun = refl; full = refl },
  record { last = refl; room = refl; bare = refl; opened = refl; half = refl; begun = refl; full = refl },
)

second_room : HasRoom 1 0 × HasRoom 1 1 × HasRoom 1 2 × HasRoom 1 3
unfolding last_chip
second_room = (
  record { last = refl; room = refl; bare = refl; opened = refl; half = refl; begun = refl; full = refl },
  record { last = refl; room = refl; bare = refl; opened = refl; half = refl; begun = refl; full = refl },
  record { last = refl; room = refl; bare = refl; opened = refl; half = refl; begun = refl; full = refl },
  record { last = refl; room = refl; bare = refl; opened = refl; half = refl; begun = refl; full = refl },
)

first_reached : IsReached (stage 0 4 [])
first_reached =
    chip_reached 0 3 first_room.3 (chip_reached 0 2 first_room.2 (chip_reached 0 1 first_room.1 (chip_reached 0 0 first_room.0
    (controller_reached [] refl (omega arith) header_reached))))

second_reached : IsReached (stage 1 4 [])
second_reached =
    chip_reached 1 3 second_room.3 (chip_reached 1 2 second_room.2 (chip_reached 1 1 second_room.1 (chip_reached 1 0 second_room.0
    (controller_reached (grown 0 4 []) refl (omega arith) first_reached))))

-- all chips
pub hardware_reached : IsReached (hardware_of made_controllers)
unfolding made_controllers
hardware_reached = second_reached
