-- nanddump: what it asks for, and its outcome.
use Rattle.std.specs.Prelude.{ℕ, zero, suc, ◌+◌, ◌-◌, ◌*◌, ◌/◌, ◌%◌, min, Bool, true, false, List, ◌++◌, take, replicate, if◌then◌else◌}
use Rattle.nand_model.specs.declared.geometry.Geometry.{Geometry}
use Rattle.nand_model.specs.declared.words.BadMode.{BadMode}
use Rattle.nand_model.specs.declared.words.BadMode.TheVariants.{PadBad, DumpBad, SkipBad}
use Rattle.nand_model.specs.declared.words.Op.TheVariants.{IsBad, Read, RawRead}
use Rattle.nand_model.specs.declared.words.Outcome.TheVariants.{NandDump as Dumped}
use Rattle.nand_model.specs.declared.words.Reply.{Reply}
use Rattle.nand_model.specs.declared.words.Reply.TheVariants.{Page}
use Rattle.command_model.specs.Scripts.{Script, End, Ask, says_bad, unit_size}

-- how nanddump was called
pub record DumpMode : Type 0 where
  pub dev : ℕ
  pub raw : Bool
  pub oob : Bool
  pub bad : BadMode

-- the counts of nanddump and the bytes dumped so far
pub record DumpCounts : Type 0 where
  pub pages : ℕ
  pub bad : ℕ
  pub corrected : ℕ
  pub failed : ℕ
  pub dump : List ℕ

-- the bytes that a page adds to the dump
abbrev pub dumped_part : Geometry → DumpMode → List ℕ → List ℕ
dumped_part g m image = if m.oob then image else take g.page image

-- the counts of a dump with one more page
abbrev pub with_page_read : Geometry → DumpMode → DumpCounts → Reply → DumpCounts
with_page_read g m c (Page kind read image) =
    record {
      pages = c.pages + 1;
      bad = c.bad;
      corrected = c.corrected + read.corrected;
      failed = c.failed + read.failed;
      dump = c.dump ++ dumped_part g m image;
    }
with_page_read g m c _ = c

-- bad blocks are dumped as 0xFF
abbrev pub is_pad_bad : BadMode → Bool
is_pad_bad PadBad = true
is_pad_bad DumpBad = false
is_pad_bad SkipBad = false

-- bad blocks are dumped like others
abbrev pub is_dump_bad : BadMode → Bool
is_dump_bad PadBad = false
is_dump_bad DumpBad = true
is_dump_bad SkipBad = false

-- n pages of a bad block are passed over, or dumped as 0xFF
abbrev pub with_pages_passed : Geometry → DumpMode → ℕ → DumpCounts → DumpCounts
with_pages_passed g m n c =
    if is_pad_bad m.bad then record c { dump = c.dump ++ replicate (n * unit_size g m.oob) 0xff } else c

-- reads of n pages one after the other, and then what follows
abbrev pub dump_pages : Geometry → DumpMode → (left page : ℕ) → DumpCounts → (DumpCounts → Script) → Script
dump_pages g m zero page c go_on = go_on c
dump_pages g m (suc left) page c go_on =
    Ask (if m.raw then RawRead m.dev page else Read m.dev page)
    (λ r. dump_pages g m left (page + 1) (with_page_read g m c r) go_on)

-- the n pages of the range in one block: its state is asked first, unless bad blocks are dumped
-- like others
abbrev pub dump_block : Geometry → DumpMode → (n page : ℕ) → DumpCounts → (DumpCounts → Script) → Script
dump_block g m n page c go_on =
    if is_dump_bad m.bad then dump_pages g m n page c go_on
    else Ask (IsBad m.dev (page / g.pages_per_block)) (λ r.
    if says_bad r then go_on (with_pages_passed g m n (record c { bad = c.bad + 1 }))
    else dump_pages g m n page c go_on)

-- block after block, the pages of the range that lie in each
abbrev pub dump_blocks : Geometry → DumpMode → (blocks left page : ℕ) → DumpCounts → Script
dump_blocks g m zero left page c = End (Dumped c.pages c.bad c.corrected c.failed c.dump)
dump_blocks g m (suc blocks) left page c =
    let here : ℕ = min left (g.pages_per_block - page % g.pages_per_block) in
    dump_block g m here page c (λ d. dump_blocks g m blocks (left - here) (page + here) d)

-- how many blocks a range of pages touches
abbrev pub blocks_touched : Geometry → (left page : ℕ) → ℕ
blocks_touched g left page = (page + left + (g.pages_per_block - 1)) / g.pages_per_block - page / g.pages_per_block
