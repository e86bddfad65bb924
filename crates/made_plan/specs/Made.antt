-- The plan of a number N: two controllers, each with four chips of two partitions, and a session for
-- each device in each of two boots. The first boot writes, tests and marks each device, and the second
-- one dumps what was written, after flips. N gives the data and how many bits flip.
use Rattle.std.specs.Prelude.{ℕ, ◌+◌, ◌*◌, ◌/◌, ◌%◌, ◌^◌, false, true, List, [], ◌∷◌, ◌++◌, map, flat_map, take, replicate, codes, decimal, refl}
use Rattle.nand_model.specs.Sizes.{numbers_from}
use Rattle.nand_model.specs.declared.geometry.Geometry.{Geometry}
use Rattle.nand_model.specs.declared.words.BadMode.TheVariants.{PadBad}
use Rattle.plan_grammar.specs.declared.lines.PlanLines.{PlanLines}
use Rattle.plan_grammar.specs.declared.lines.ChipLines.{ChipLines}
use Rattle.plan_grammar.specs.declared.lines.DataLine.{DataLine}
use Rattle.plan_grammar.specs.declared.lines.Piece.TheVariants.{Seed}
use Rattle.plan_grammar.specs.declared.lines.BootLines.{BootLines}
use Rattle.plan_grammar.specs.declared.lines.FaultLine.{FaultLine}
use Rattle.plan_grammar.specs.declared.lines.FaultLine.TheVariants.{Flip}
use Rattle.plan_grammar.specs.declared.lines.SessionLines.{SessionLines}
use Rattle.plan_grammar.specs.declared.lines.CommandLine.TheVariants.{FlashErase, NandWrite, NandDump, NandTest, MarkBad, IsBad, Stats}

-- the sizes of each chip
abbrev pub made_geometry : Geometry
made_geometry =
    record {
      page = 2048;
      spare = 64;
      pages_per_block = 64;
      blocks = 32;
      t = 4;
      bbt = 1;
      threshold = 3;
      in_bounds = refl;
    }

-- a chip: two partitions of 14 blocks, and four blocks for its tables
abbrev pub made_chip : ChipLines
made_chip =
    record {
      geometry = made_geometry;
      details = [];
      parts = record { start = 0; count = 14 } ∷ record { start = 14; count = 14 } ∷ [];
    }

-- the chips of each controller
unfoldable pub made_controllers : List (List ChipLines)
made_controllers = replicate 2 (replicate 4 made_chip)

-- the numbers of the devices
abbrev pub made_devices : List ℕ
made_devices = numbers_from 0 16

-- the NAME of the data of device J: `dJ`
abbrev pub data_name : ℕ → List ℕ
data_name j = codes "d" ++ decimal j

-- the data of device J: the seed bytes of N + J modulo 2^64, one block of them
abbrev pub made_data : (n j : ℕ) → DataLine
made_data n j = record { name = data_name j; pieces = Seed ((n + j) % 2 ^ 64) 131072 ∷ [] }

-- the data of all devices
unfoldable pub made_payloads : ℕ → List DataLine
made_payloads n = map (made_data n) made_devices

-- the session of device J in the first boot: the device is erased, its data are written, its second
-- block is tested, and its last one is marked
abbrev pub writing_session : ℕ → SessionLines
writing_session j =
    record {
      controller = j / 8;
      commands =
          FlashErase j false 0 0 ∷ NandWrite j false false false false 0 (data_name j)
          ∷ NandTest j false false 0 1 131072 131072
          ∷ MarkBad j 13
          ∷ [];
    }

-- its session in the second boot: the data are dumped, and the marked block and the counts are asked
-- for
abbrev pub reading_session : ℕ → SessionLines
reading_session j =
    record {
      controller = j / 8;
      commands = NandDump j 0 131072 false false PadBad ∷ IsBad j 13 ∷ Stats j ∷ [];
    }

-- the bits that flip before the first event of the second boot: none to four of them
abbrev pub flipped_bits : (n j : ℕ) → List ℕ
flipped_bits n j = take ((n % 5 + j) % 5) (100 ∷ 200 ∷ 300 ∷ 400 ∷ [])

-- the line of these bits in the first page of device J, where there is a bit
abbrev pub flip_of : ℕ → List ℕ → List FaultLine
flip_of j [] = []
flip_of j (bit ∷ bits) =
    Flip (j / 8) (record { chip = j % 8 / 2; page = 896 * (j % 2); before = 1; bits = bit ∷ bits }) ∷ []

-- the line of the flip on device J
abbrev pub made_flip : (n j : ℕ) → List FaultLine
made_flip n j = flip_of j (flipped_bits n j)

-- the flips on all devices
unfoldable pub made_flips : ℕ → List FaultLine
made_flips n = flat_map (made_flip n) made_devices

-- the first boot
unfoldable pub writing_boot : BootLines
writing_boot = record { faults = []; sessions = map writing_session made_devices; schedule = [] }

-- the second boot
unfoldable pub reading_boot : ℕ → BootLines
reading_boot n = record { faults = made_flips n; sessions = map reading_session made_devices; schedule = [] }

-- the plan of N
abbrev pub made_lines : ℕ → PlanLines
made_lines n =
    record {
      begun = true;
      controllers = made_controllers;
      payloads = made_payloads n;
      boots = writing_boot ∷ reading_boot n ∷ [];
    }
