-- What is left of nanddump, from where it stands.
use Rattle.std.specs.Prelude.{ℕ, suc, ◌+◌, ◌-◌, ◌*◌, ◌/◌, List, [], ◌++◌, if◌then◌else◌, replicate}
use Rattle.nand_model.specs.declared.geometry.Geometry.{Geometry}
use Rattle.nand_model.specs.declared.words.Op.TheVariants.{IsBad}
use Rattle.nand_model.specs.declared.words.Outcome.{Outcome}
use Rattle.nand_model.specs.declared.words.Outcome.TheVariants.{NandDump as Dumped}
use Rattle.nand_model.specs.declared.words.Reply.{Reply}
use Rattle.nand_model.specs.declared.words.Reply.TheVariants.{Page}
use Rattle.command_model.specs.Command.{Script, Ask, DumpMode, DumpCounts, says_bad, is_pad_bad, is_dump_bad, unit_size, dumped_part, dump_pages, dump_blocks, blocks_touched}
use Rattle.tool_steps.specs.Ranges.{range_pages}
use Rattle.tool_steps.specs.declared.dumping.Called.{Called}
use Rattle.tool_steps.specs.declared.dumping.Counts.{Counts}
use Rattle.tool_steps.specs.declared.dumping.DumpAt.{DumpAt}
use Rattle.tool_steps.specs.declared.dumping.Place.{Place}
use Rattle.tool_steps.specs.declared.dumping.Place.TheVariants.{Looking, Reading}
use Rattle.tool_steps.specs.declared.dumping.Dumping.{Dumping}

-- how nanddump was called
abbrev pub dump_mode : Called → DumpMode
dump_mode m = record { dev = m.dev; raw = m.raw; oob = m.oob; bad = m.bad }

-- the counts with the bytes dumped so far
abbrev pub counts_with : Counts → List ℕ → DumpCounts
counts_with c dump = record { pages = c.pages; bad = c.bad; corrected = c.corrected; failed = c.failed; dump = dump }

-- the outcome of a dump with these counts
abbrev pub dump_end : DumpCounts → Outcome
dump_end c = Dumped c.pages c.bad c.corrected c.failed c.dump

-- nanddump of a range of a device
abbrev pub dump_from_start : Geometry → DumpMode → (blocks off len : ℕ) → Script
dump_from_start g m blocks off len =
    let pages : ℕ = range_pages g blocks off len in
    dump_blocks g m (blocks_touched g pages (off / g.page)) pages (off / g.page)
    (record { pages = 0; bad = 0; corrected = 0; failed = 0; dump = [] })

-- what a reply adds to the dump
abbrev pub page_part : Geometry → Called → Reply → List ℕ
page_part g m (Page kind read image) = dumped_part g (dump_mode m) image
page_part g m _ = []

-- what so many pages of a bad block add to the dump
abbrev pub passed_part : Geometry → Called → ℕ → List ℕ
passed_part g m pages = if is_pad_bad m.bad then replicate (pages * unit_size g m.oob) 0xff else []

module _ (g : Geometry) where
  -- the blocks that so many pages touch, from the first page of a block on
  abbrev pub blocks_for : ℕ → ℕ
  blocks_for pages = (pages + (g.pages_per_block - 1)) / g.pages_per_block

  -- the pages of the range in the blocks after this one
  abbrev pub later_left : DumpAt → DumpCounts → Script
  later_left d counts =
      dump_blocks g (dump_mode d.called) (blocks_for d.later) d.later ((d.block + 1) * g.pages_per_block) counts

  -- so many pages of the block from this one on, and then the later blocks
  abbrev pub pages_left : DumpAt → (left page : ℕ) → DumpCounts → Script
  pages_left d left page counts = dump_pages g (dump_mode d.called) left page counts (later_left d)

  -- the pages of the range in the block are read
  abbrev pub read_left : DumpAt → List ℕ → Script
  read_left d dump =
      pages_left d (suc d.rest) (d.block * g.pages_per_block + d.place) (counts_with d.counts dump)

  -- the block's state is asked for, and its pages are read unless it is bad
  abbrev pub look_left : DumpAt → List ℕ → Script
  look_left d dump =
      Ask (IsBad d.called.dev d.block) (λ r. if says_bad r
      then later_left d (record (counts_with d.counts (dump ++ passed_part g d.called (suc d.rest))) {
        bad = d.counts.bad + 1;
      })
      else read_left d dump)

  -- the pages of the range in the block: with --bb=dumpbad its state is not asked for
  abbrev pub block_left : DumpAt → List ℕ → Script
  block_left d dump = if is_dump_bad d.called.bad then read_left d dump else look_left d dump

  -- what is left of nanddump once these bytes are dumped
  abbrev pub place_left : List ℕ → Place → Script
  place_left dump (Looking d) = look_left d dump
  place_left dump (Reading d) = read_left d dump

-- what is left of a nanddump under way
abbrev pub dumping_left : Geometry → Dumping → Script
dumping_left g d = place_left g d.dump d.place
