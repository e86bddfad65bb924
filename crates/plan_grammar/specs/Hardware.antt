-- The header, and the lines of controllers, chips and partitions.
use Rattle.std.specs.Prelude.{◌≡◌, ℕ, ◌+◌, ◌-◌, Bool, true, false, not, ◌&&◌, ◌||◌, ◌==◌, nat_lt, nat_le, if◌then◌else◌, List, [], ◌∷◌, ◌++◌, length, Option, Some, None, Result, Ok, Err, refl}
use Rattle.std.specs.List.{list_all, list_any}
use Rattle.code_model.specs.Code.{code_512}
use Rattle.lab_text.specs.Text.{number_of}
use Rattle.nand_model.specs.Layout.{has_sizes, has_room, is_geometry, threshold_in_force}
use Rattle.nand_model.specs.Sizes.{page_count}
use Rattle.nand_model.specs.declared.geometry.Geometry.{Geometry}
use Rattle.nand_model.specs.declared.words.WeakKind.{WeakKind}
use Rattle.nand_model.specs.declared.words.WeakKind.TheVariants.{Program, Erase}
use Rattle.plan_grammar.specs.declared.kind.PlanKind.{PlanKind}
use Rattle.plan_grammar.specs.declared.kind.PlanKind.TheVariants.{WrongPlace, BadWords, BadSize, SpareTooSmall, OutOfChip, TooFewTableBlocks, Overlap, TooLarge}
use Rattle.plan_grammar.specs.declared.lines.PlanLines.{PlanLines}
use Rattle.plan_grammar.specs.declared.lines.ChipLines.{ChipLines}
use Rattle.plan_grammar.specs.declared.lines.PartLine.{PartLine}
use Rattle.plan_grammar.specs.declared.lines.DetailLine.{DetailLine}
use Rattle.plan_grammar.specs.declared.lines.DetailLine.TheVariants.{Bad, Weak as WeakAt, Bus}
use Rattle.plan_grammar.specs.Limits.{most_controllers, most_chips, most_pages, most_bad_table_blocks}
use Rattle.plan_grammar.specs.Rules.{◌>>=◌, rule, there, is_empty, last_of, with_last}
use Rattle.plan_grammar.specs.Forms.{two_words, four_words, small_number, small_numbers, tear, weak_kind}
use Rattle.plan_grammar.specs.Devices.{bad_blocks, is_weak, has_bus, are_different, bad_table_blocks, share_block, all_pages}

-- no data and no boot yet
abbrev pub is_hardware : PlanLines → Bool
is_hardware plan = is_empty plan.payloads && is_empty plan.boots

-- the last controller has a chip
abbrev pub some_chip : Option (List ChipLines) → Bool
some_chip None = false
some_chip (Some chips) = not (is_empty chips)

-- there is a controller, and the last one has a chip
abbrev pub has_chip : PlanLines → Bool
has_chip plan = some_chip (last_of plan.controllers)

-- the last controller, and its last chip
abbrev pub last_chips : PlanLines → Result (List ChipLines) PlanKind
last_chips plan = there (last_of plan.controllers) WrongPlace

-- the last chip of the last controller
unfoldable pub last_chip : PlanLines → Result ChipLines PlanKind
last_chip plan = do
  chips ← last_chips plan
  there (last_of chips) WrongPlace

-- the plan with one more chip
abbrev pub with_chip : ChipLines → PlanLines → PlanLines
with_chip chip plan = record plan { controllers = with_last (λ chips. chips ++ chip ∷ []) plan.controllers }

-- the plan with another last chip
abbrev pub with_last_chip : (ChipLines → ChipLines) → PlanLines → PlanLines
with_last_chip change plan = record plan { controllers = with_last (with_last change) plan.controllers }

-- the plan with one more line that tells more of the last chip
abbrev pub with_detail : DetailLine → PlanLines → PlanLines
with_detail detail plan = with_last_chip (λ (chip : ChipLines). record chip {
  details = chip.details ++ detail
      ∷ [];
}) plan

-- the plan with one more partition of the last chip
abbrev pub with_part : PartLine → PlanLines → PlanLines
with_part part plan = with_last_chip (λ (chip : ChipLines). record chip { parts = chip.parts ++ part ∷ [] }) plan

-- `nandlab 1`, the first line with words
abbrev pub is_one : Option ℕ → Bool
is_one None = false
is_one (Some n) = n == 1

-- the only word is a number of value 1
abbrev pub is_version : List (List ℕ) → Bool
is_version (word ∷ []) = is_one (number_of word)
is_version _ = false

-- the header
unfoldable pub header_line : PlanLines → List (List ℕ) → Result PlanLines PlanKind
header_line plan words = do
  _ ← rule (not plan.begun) WrongPlace
  _ ← rule (is_version words) BadWords
  Ok (record plan { begun = true })

-- `controller`, after the header or a controller that has a chip
unfoldable pub controller_line : PlanLines → List (List ℕ) → Result PlanLines PlanKind
controller_line plan words = do
  _ ← rule (plan.begun && is_hardware plan && (is_empty plan.controllers || has_chip plan)) WrongPlace
  _ ← rule (is_empty words) BadWords
  _ ← rule (nat_lt (length plan.controllers) most_controllers) TooLarge
  Ok (record plan { controllers = plan.controllers ++ [] ∷ [] })

-- sizes that a chip may have, with the threshold in force
abbrev pub geometry_if : (page spare pages_per_block blocks t bbt threshold : ℕ) (fits : Bool) →
    is_geometry page spare pages_per_block blocks t bbt threshold ≡ fits → Option Geometry
geometry_if page spare pages_per_block blocks t bbt threshold true e =
    Some (record {
      page = page;
      spare = spare;
      pages_per_block = pages_per_block;
      blocks = blocks;
      t = t;
      bbt = bbt;
      threshold = threshold;
      in_bounds = e;
    })
geometry_if page spare pages_per_block blocks t bbt threshold false e = None

-- these sizes, where a chip may have them
abbrev pub geometry_of : (page spare pages_per_block blocks t bbt threshold : ℕ) → Option Geometry
geometry_of page spare pages_per_block blocks t bbt threshold =
    geometry_if page spare pages_per_block blocks t bbt (threshold_in_force t threshold)
    (is_geometry page spare pages_per_block blocks t bbt (threshold_in_force t threshold)) refl

-- PAGE SPARE PPB BLOCKS T BBT, and the threshold or 0
unfoldable pub geometry : (page spare pages_per_block blocks t bbt threshold : ℕ) → Result Geometry PlanKind
geometry page spare pages_per_block blocks t bbt threshold = do
  _ ← rule (has_sizes page spare pages_per_block blocks t bbt threshold) BadSize
  _ ← rule (has_room (code_512 t) page spare bbt) SpareTooSmall
  there (geometry_of page spare pages_per_block blocks t bbt threshold) BadSize

-- the sizes of six numbers, or of seven with the threshold
unfoldable pub sizes : List ℕ → Result Geometry PlanKind
sizes (page ∷ spare ∷ pages_per_block ∷ blocks ∷ t ∷ bbt ∷ []) = geometry page spare pages_per_block blocks t bbt 0
sizes (page ∷ spare ∷ pages_per_block ∷ blocks ∷ t ∷ bbt ∷ threshold
    ∷ []) = geometry page spare pages_per_block blocks t bbt threshold
sizes _ = Err BadWords

-- `chip PAGE SPARE PPB BLOCKS T BBT` and optionally `THRESHOLD`, in a controller
unfoldable pub chip_line : PlanLines → List (List ℕ) → Result PlanLines PlanKind
chip_line plan words = do
  _ ← rule (is_hardware plan) WrongPlace
  chips ← last_chips plan
  _ ← rule (length words == 6 || length words == 7) BadWords
  numbers ← small_numbers words
  g ← sizes numbers
  _ ← rule (nat_lt (length chips) most_chips && nat_le (all_pages plan + page_count g) most_pages) TooLarge
  Ok (with_chip (record { geometry = g; details = []; parts = [] }) plan)

-- the chip of which lines may tell more here: it has no partition yet
unfoldable pub open_chip : PlanLines → Result ChipLines PlanKind
open_chip plan = do
  _ ← rule (is_hardware plan) WrongPlace
  chip ← last_chip plan
  _ ← rule (is_empty chip.parts) WrongPlace
  Ok chip

-- with these bad blocks a chip with tables on flash has enough blocks for them
abbrev pub leaves_table_blocks : Geometry → List ℕ → Bool
leaves_table_blocks g bad = g.bbt == 0 || nat_le (bad_table_blocks g bad) most_bad_table_blocks

-- `bad BLOCK` and further BLOCKs, after a chip, before its parts
unfoldable pub bad_line : PlanLines → List (List ℕ) → Result PlanLines PlanKind
bad_line plan words = do
  chip ← open_chip plan
  _ ← rule (not (is_empty words)) BadWords
  blocks ← small_numbers words
  _ ← rule (list_all (λ b. nat_lt b chip.geometry.blocks) blocks) OutOfChip
  _ ← rule (leaves_table_blocks chip.geometry (bad_blocks chip ++ blocks)) TooFewTableBlocks
  _ ← rule (are_different (bad_blocks chip ++ blocks)) Overlap
  Ok (with_detail (Bad blocks) plan)

-- the places of a kind: pages or blocks
abbrev pub place_count : Geometry → WeakKind → ℕ
place_count g Program = page_count g
place_count g Erase = g.blocks

-- `weak program PAGE AFTER TEAR`, `weak erase BLOCK AFTER TEAR`, after a chip, before its parts
unfoldable pub weak_words : ChipLines → PlanLines → WeakKind → (at after torn : List ℕ) → Result PlanLines PlanKind
weak_words chip plan kind at after torn = do
  place ← small_number at
  calls ← small_number after
  bits ← tear torn
  _ ← rule (nat_lt place (place_count chip.geometry kind)) OutOfChip
  _ ← rule (not (is_weak chip kind place)) Overlap
  Ok (with_detail (WeakAt (record { kind = kind; at = place; after = calls; tear = bits })) plan)

-- a weak place has four words
unfoldable pub weak_form : ChipLines → PlanLines → List (List ℕ) → Result PlanLines PlanKind
weak_form chip plan words = do
  found ← four_words words
  kind ← there (weak_kind found.0) BadWords
  weak_words chip plan kind found.1 found.2 found.3

-- a weak place
unfoldable pub weak_line : PlanLines → List (List ℕ) → Result PlanLines PlanKind
weak_line plan words = do
  chip ← open_chip plan
  weak_form chip plan words

-- `bus`, after a chip, before its parts, at most once
unfoldable pub bus_line : PlanLines → List (List ℕ) → Result PlanLines PlanKind
bus_line plan words = do
  chip ← open_chip plan
  _ ← rule (is_empty words) BadWords
  _ ← rule (not (has_bus chip)) BadWords
  Ok (with_detail Bus plan)

-- a count of 0 means to the end
abbrev pub part_in_force : ChipLines → (start count : ℕ) → PartLine
part_in_force chip start count = record {
  start = start;
  count = if count == 0 then chip.geometry.blocks - start else count;
}

-- `part START COUNT`, after a chip
unfoldable pub part_words : ChipLines → PlanLines → (start count : ℕ) → Result PlanLines PlanKind
part_words chip plan start count = do
  _ ← rule (nat_lt start chip.geometry.blocks && nat_le (start + count) chip.geometry.blocks) OutOfChip
  _ ← rule (not (list_any (share_block (part_in_force chip start count)) chip.parts)) Overlap
  Ok (with_part (part_in_force chip start count) plan)

-- a partition has two words
unfoldable pub part_form : ChipLines → PlanLines → List (List ℕ) → Result PlanLines PlanKind
part_form chip plan words = do
  found ← two_words words
  start ← small_number found.0
  count ← small_number found.1
  part_words chip plan start count

-- a partition
unfoldable pub part_line : PlanLines → List (List ℕ) → Result PlanLines PlanKind
part_line plan words = do
  _ ← rule (is_hardware plan) WrongPlace
  chip ← last_chip plan
  part_form chip plan words
