-- What is left of nandwrite, from where it stands.
use Rattle.std.specs.Prelude.{ℕ, zero, suc, ◌+◌, ◌-◌, ◌*◌, ◌/◌, ◌%◌, List, [], ◌∷◌, take, drop, if◌then◌else◌}
use Rattle.nand_model.specs.declared.geometry.Geometry.{Geometry}
use Rattle.nand_model.specs.declared.words.Op.TheVariants.{Erase, IsBad, Mark}
use Rattle.nand_model.specs.declared.words.Ending.TheVariants.{MarkerByte}
use Rattle.command_model.specs.Command.{Script, Ask, WriteMode, WriteCounts, says_bad, block_size, unit_count, unit_size, units_of, write_unit, write_pages, write_blocks, erase_and_mark, after_write, written_end}
use Rattle.tool_steps.specs.declared.writing.Called.{Called}
use Rattle.tool_steps.specs.declared.writing.BlockAt.{BlockAt}
use Rattle.tool_steps.specs.declared.writing.PageAt.{PageAt}
use Rattle.tool_steps.specs.declared.writing.Place.{Place}
use Rattle.tool_steps.specs.declared.writing.Place.TheVariants.{Scanning, Programming, Clearing, Marking}
use Rattle.tool_steps.specs.declared.writing.Writing.{Writing}

-- the k-th unit of data in units of one size
abbrev pub unit_at : ℕ → List ℕ → ℕ → List ℕ
unit_at size bytes k = take size (drop (k * size) bytes)

-- n units from the k-th on
abbrev pub units_at : ℕ → List ℕ → (k n : ℕ) → List (List ℕ)
units_at size bytes k zero = []
units_at size bytes k (suc n) = unit_at size bytes k ∷ units_at size bytes (k + 1) n

-- nandwrite of these bytes from an offset on
abbrev pub write_from_start : Geometry → WriteMode → (blocks off : ℕ) → List ℕ → Script
write_from_start g m blocks off bytes =
    write_blocks g m (blocks - off / block_size g) (off / block_size g) (off / g.page % g.pages_per_block)
    (units_of (unit_size g m.oob) (unit_count g m.oob bytes) bytes) (record { pages = 0; skipped = 0; failed = 0 })

-- how nandwrite was called
abbrev pub write_mode : Called → WriteMode
write_mode m = record { dev = m.dev; mark = m.mark; raw = m.raw; oob = m.oob }

-- the counts before a block: as many pages are written as there are units before its first one
abbrev pub counts_before : BlockAt → WriteCounts
counts_before b = record { pages = b.first; skipped = b.skipped; failed = b.failed }

module _ (g : Geometry) (bytes : List ℕ) where
  -- units of the data
  abbrev pub units_from : Called → (k n : ℕ) → List (List ℕ)
  units_from m k n = units_at (unit_size g m.oob) bytes k n

  -- the units that are left where the block begins
  abbrev pub taken : BlockAt → List (List ℕ)
  taken b = units_from b.called b.first (suc b.more)

  -- these units are tried in the blocks after this one
  abbrev pub later_blocks : BlockAt → List (List ℕ) → WriteCounts → Script
  later_blocks b units counts = write_blocks g (write_mode b.called) b.rest (b.block + 1) 0 units counts

  -- the pages of the block from this one on take these units
  abbrev pub pages_left : BlockAt → (written place : ℕ) → List (List ℕ) → Script
  pages_left b written place units =
      write_pages g (write_mode b.called) b.block (taken b) (counts_before b) (later_blocks b) written place units

  -- the block is passed over after a page that failed
  abbrev pub failed_left : BlockAt → Script
  failed_left b = later_blocks b (taken b) (record (counts_before b) { failed = b.failed + 1 })

  -- the block is passed over, since it is bad or was refused
  abbrev pub skipped_left : BlockAt → Script
  skipped_left b = later_blocks b (taken b) (record (counts_before b) { skipped = b.skipped + 1 })

  -- the block's state is asked for, and its pages take the units unless it is bad
  abbrev pub scan_left : BlockAt → Script
  scan_left b =
      Ask (IsBad b.called.dev b.block) (λ r. if says_bad r then skipped_left b else pages_left b 0 b.place (taken b))

  -- the next unit is written to the next page
  abbrev pub program_left : PageAt → Script
  program_left p =
      Ask (write_unit g (write_mode p.at.called) (p.at.block * g.pages_per_block + (p.at.place + p.written))
      (unit_at (unit_size g p.at.called.oob) bytes (p.at.first + p.written))) (λ r. after_write r
      (pages_left p.at (p.written + 1) (p.at.place + p.written + 1)
      (units_from p.at.called (p.at.first + p.written + 1) (p.at.more - p.written)))
      (erase_and_mark (write_mode p.at.called) p.at.block (failed_left p.at))
      (skipped_left p.at)
      (written_end (record (counts_before p.at) { pages = p.at.first + p.written }) MarkerByte))

  -- the block of a page that failed is marked with `-m`
  abbrev pub mark_left : BlockAt → Script
  mark_left b = Ask (Mark b.called.dev b.block) (λ r. failed_left b)

  -- the block of a page that failed is erased first
  abbrev pub clear_left : BlockAt → Script
  clear_left b = Ask (Erase b.called.dev b.block) (λ r. if b.called.mark then mark_left b else failed_left b)

  -- what is left of nandwrite of these data
  abbrev pub place_left : Place → Script
  place_left (Scanning b) = scan_left b
  place_left (Programming p) = program_left p
  place_left (Clearing b) = clear_left b
  place_left (Marking b) = mark_left b

-- what is left of a nandwrite under way
abbrev pub writing_left : Geometry → Writing → Script
writing_left g w = place_left g w.units w.place
