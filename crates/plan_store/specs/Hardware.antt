-- What is kept of controllers tells their lines.
use Rattle.std.specs.Prelude.{◌≡◌, ◌≤◌, true, nat_le, List, length, map, sum_by, Option, Some, None}
use Rattle.std.specs.List.{list_all}
use Rattle.plan_grammar.specs.declared.lines.ChipLines.{ChipLines}
use Rattle.plan_grammar.specs.Limits.{most_controllers, most_chips, most_pages}
use Rattle.plan_grammar.specs.Rules.{last_of}
use Rattle.plan_grammar.specs.Devices.{pages_of_chips, devices_from}
use Rattle.plan_index.specs.declared.marks.ChipMarks.{ChipMarks}
use Rattle.plan_index.specs.Chip.{IsMarked}
use Rattle.plan_index.specs.Devices.{size_of}
use Rattle.plan_store.specs.declared.hardware.HardwareIndex.{HardwareIndex}

-- the last chip
abbrev pub last_in : Option (List ChipLines) → Option ChipLines
last_in None = None
last_in (Some chips) = last_of chips

-- the last chip of the last controller
abbrev pub open_chip : List (List ChipLines) → Option ChipLines
open_chip controllers = last_in (last_of controllers)

-- the marks are those of the chip, where there is one
abbrev pub AreMarks : Option ChipLines → ChipMarks → Type 0
AreMarks None marks = Unit {0}
AreMarks (Some chip) marks = IsMarked chip marks

-- what is kept of these controllers
pub record HardwareInStep (controllers : List (List ChipLines)) (index : HardwareIndex) : Type 0 where
  pub pages : index.pages ≡ sum_by pages_of_chips controllers
  pub few : index.pages ≤ most_pages
  pub marks : AreMarks (open_chip controllers) index.marks
  pub few_controllers : length controllers ≤ most_controllers
  pub few_chips : list_all (λ (chips : List ChipLines). nat_le (length chips) most_chips) controllers ≡ true
  pub devices : index.devices.items ≡ map size_of (devices_from 0 controllers)
