-- What the lines so far name: chips, their bad blocks, weak places and buses, devices, data.
use Rattle.std.specs.Prelude.{ℕ, ◌+◌, ◌-◌, Bool, true, false, not, ◌&&◌, ◌==◌, nat_lt, bytes_eq, List, [], ◌∷◌, ◌++◌, flat_map, sum_by, count_by, find, slice_get, Option}
use Rattle.std.specs.List.{list_any}
use Rattle.nand_model.specs.Sizes.{numbers_from, page_count}
use Rattle.nand_model.specs.declared.geometry.Geometry.{Geometry}
use Rattle.nand_model.specs.declared.words.Weak.{Weak}
use Rattle.nand_model.specs.declared.words.WeakKind.{WeakKind}
use Rattle.nand_model.specs.declared.words.WeakKind.TheVariants.{Program, Erase}
use Rattle.plan_grammar.specs.declared.lines.PlanLines.{PlanLines}
use Rattle.plan_grammar.specs.declared.lines.ChipLines.{ChipLines}
use Rattle.plan_grammar.specs.declared.lines.PartLine.{PartLine}
use Rattle.plan_grammar.specs.declared.lines.DataLine.{DataLine}
use Rattle.plan_grammar.specs.declared.lines.Piece.{Piece}
use Rattle.plan_grammar.specs.declared.lines.DetailLine.{DetailLine}
use Rattle.plan_grammar.specs.declared.lines.DetailLine.TheVariants.{Bad, Weak as WeakAt, Bus}
use Rattle.plan_grammar.specs.Forms.{piece_length, piece_bytes}

-- the bad blocks of a line
abbrev pub bad_in : DetailLine → List ℕ
bad_in (Bad blocks) = blocks
bad_in (WeakAt weak) = []
bad_in Bus = []

-- the bad blocks of a chip
abbrev pub bad_blocks : ChipLines → List ℕ
bad_blocks chip = flat_map bad_in chip.details

-- the weak places of a line
abbrev pub weak_in : DetailLine → List Weak
weak_in (Bad blocks) = []
weak_in (WeakAt weak) = weak ∷ []
weak_in Bus = []

-- the weak places of a chip
abbrev pub weak_places : ChipLines → List Weak
weak_places chip = flat_map weak_in chip.details

-- the line that puts a chip behind a bus
abbrev pub is_bus : DetailLine → Bool
is_bus (Bad blocks) = false
is_bus (WeakAt weak) = false
is_bus Bus = true

-- a chip is behind a bus
abbrev pub has_bus : ChipLines → Bool
has_bus chip = list_any is_bus chip.details

-- the kind of a weak page
abbrev pub is_program : WeakKind → Bool
is_program Program = true
is_program Erase = false

-- two weak places are of one kind
abbrev pub is_same_kind : WeakKind → WeakKind → Bool
is_same_kind Program kind = is_program kind
is_same_kind Erase kind = not (is_program kind)

-- the weak program lines of a chip
abbrev pub weak_programs : ChipLines → ℕ
weak_programs chip = count_by (λ (w : Weak). is_program w.kind) (weak_places chip)

-- a place of this kind is weak
abbrev pub is_weak : ChipLines → WeakKind → ℕ → Bool
is_weak chip kind at = list_any (λ (w : Weak). is_same_kind w.kind kind && (w.at == at)) (weak_places chip)

-- a number is among these
abbrev pub has_number : List ℕ → ℕ → Bool
has_number numbers n = list_any (λ m. m == n) numbers

-- no number comes twice
abbrev pub are_different : List ℕ → Bool
are_different [] = true
are_different (n ∷ ns) = not (has_number ns n) && are_different ns

-- how many of a chip's last four blocks are among these
abbrev pub bad_table_blocks : Geometry → List ℕ → ℕ
bad_table_blocks g bad = count_by (has_number bad) (numbers_from (g.blocks - 4) 4)

-- two partitions share a block
abbrev pub share_block : PartLine → PartLine → Bool
share_block a b = nat_lt a.start (b.start + b.count) && nat_lt b.start (a.start + a.count)

-- the pages of all chips
abbrev pub pages_of_chips : List ChipLines → ℕ
pages_of_chips chips = sum_by (λ (chip : ChipLines). page_count chip.geometry) chips

-- the pages of all controllers
abbrev pub all_pages : PlanLines → ℕ
all_pages plan = sum_by pages_of_chips plan.controllers

-- a device: its controller, its chip and its partition
pub record Device : Type 0 where
  pub controller : ℕ
  pub chip : ChipLines
  pub part : PartLine

-- the devices on a chip of this controller
abbrev pub devices_on : ℕ → ChipLines → List PartLine → List Device
devices_on c chip [] = []
devices_on c chip (part ∷ parts) = record { controller = c; chip = chip; part = part } ∷ devices_on c chip parts

-- the devices on chips of this controller
abbrev pub devices_of_chips : ℕ → List ChipLines → List Device
devices_of_chips c [] = []
devices_of_chips c (chip ∷ chips) = devices_on c chip chip.parts ++ devices_of_chips c chips

-- the devices of controllers, the first of which has this number
abbrev pub devices_from : ℕ → List (List ChipLines) → List Device
devices_from c [] = []
devices_from c (chips ∷ controllers) = devices_of_chips c chips ++ devices_from (c + 1) controllers

-- the devices, in the order of their lines: device J is the one at place J
abbrev pub devices : PlanLines → List Device
devices plan = devices_from 0 plan.controllers

-- the device of this number
abbrev pub device_at : PlanLines → ℕ → Option Device
device_at plan dev = slice_get (devices plan) dev

-- the bytes of data, and how many they are
abbrev pub data_bytes : DataLine → List ℕ
data_bytes payload = flat_map piece_bytes payload.pieces

-- how many bytes pieces are
abbrev pub pieces_length : List Piece → ℕ
pieces_length pieces = sum_by piece_length pieces

-- how many bytes data are
abbrev pub data_length : DataLine → ℕ
data_length payload = pieces_length payload.pieces

-- how many bytes all data are
abbrev pub all_data : PlanLines → ℕ
all_data plan = sum_by data_length plan.payloads

-- the data of this NAME
abbrev pub data_named : PlanLines → List ℕ → Option DataLine
data_named plan name = find (λ (payload : DataLine). bytes_eq payload.name name) plan.payloads
