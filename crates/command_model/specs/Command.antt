-- Commands: the operations that each asks for, as its replies come, and its outcome (the names and
-- options are those of mtd-utils; the sequence of operations, the counters and the behaviour after
-- a failure are this project's own).
use Rattle.std.specs.Prelude.{List, [], ◌==◌, Bool, ⊤, true, ℕ, ◌+◌, if◌then◌else◌, ◌-◌, length, ◌*◌, ◌/◌, ◌%◌, ◌&&◌, nat_lt, nat_le, ◌||◌, ◌≢◌, ◌≤◌, ◌≡◌, ◌<◌}
use Rattle.nand_model.specs.declared.words.Op.{Op}
use Rattle.nand_model.specs.declared.words.Reply.{Reply}
use Rattle.nand_model.specs.declared.words.Outcome.{Outcome}
use Rattle.nand_model.specs.declared.words.Reply.TheVariants.{State, Done, BadBlock, MarkerByte, ProgramFailed, Page, EraseFailed, Counts, OutOfRange, MarkerFailed, TableFailed, Reserved, Copies}
use Rattle.nand_model.specs.declared.words.Op.TheVariants.{Erase, IsBad, Write, RawWrite, Mark, Read, RawRead, Stats}
use Rattle.nand_model.specs.declared.words.Outcome.TheVariants.{Stats as AskedStats, MarkBad as MarkedBad, IsBad as AskedBad}
use Rattle.nand_model.specs.declared.geometry.Geometry.{Geometry}
use Rattle.nand_model.specs.declared.words.Command.{Command}
use Rattle.nand_model.specs.declared.words.Command.TheVariants.{FlashErase, NandWrite, NandDump, NandTest, MarkBad, IsBad as AskBad, Stats as AskStats}
use Rattle.nand_model.specs.declared.words.PageKind.TheVariants.{Raw}
pub use Rattle.command_model.specs.Scripts.{Script, End, Ask, Next, Do, Over, after_replies, next_in, says_bad, is_done, one_if, unit_size, block_size, count_or_rest}
pub use Rattle.command_model.specs.FlashErase.{erase_blocks}
pub use Rattle.command_model.specs.NandWrite.{units_of, WriteMode, write_unit, WriteCounts, written_end, erase_and_mark, after_write, write_pages, write_blocks, unit_count}
pub use Rattle.command_model.specs.NandDump.{DumpMode, DumpCounts, dumped_part, with_page_read, is_pad_bad, is_dump_bad, with_pages_passed, dump_pages, dump_block, dump_blocks, blocks_touched}
pub use Rattle.command_model.specs.NandTest.{TestMode, TestCounts, test_passes}

-- the outcome of stats by its reply
abbrev pub stats_outcome : Reply → Outcome
stats_outcome (Counts corrected failed bad) = AskedStats corrected failed bad
stats_outcome _ = AskedStats 0 0 0

-- the script of a command on a chip of this geometry
abbrev pub script_of : Geometry → Command → Script
script_of g (FlashErase dev blocks no_scan start count) =
    erase_blocks dev no_scan (count_or_rest count start blocks) start 0 0 0
script_of g (NandWrite dev blocks mark raw oob pad off bytes) =
    write_blocks g (record { dev = dev; mark = mark; raw = raw; oob = oob }) (blocks - off / block_size g)
    (off / block_size g)
    (off / g.page % g.pages_per_block) (units_of (unit_size g oob) (unit_count g oob bytes) bytes)
    (record { pages = 0; skipped = 0; failed = 0 })
script_of g (NandDump dev blocks off len raw oob bad) =
    let first : ℕ = off / g.page in
    let pages : ℕ = count_or_rest (len / g.page) first (blocks * g.pages_per_block) in
    dump_blocks g (record { dev = dev; raw = raw; oob = oob; bad = bad }) (blocks_touched g pages first) pages first
    (record { pages = 0; bad = 0; corrected = 0; failed = 0; dump = [] })
script_of g (NandTest dev blocks keep mark seed passes off len) =
    test_passes g (record { dev = dev; keep = keep; mark = mark; seed = seed; passes = passes }) (off / block_size g)
    (count_or_rest (len / block_size g) (off / block_size g) blocks) passes
    (record { blocks = 0; bad = 0; worn = 0; mismatched = 0; corrected = 0; failed = 0 })
script_of g (MarkBad dev blocks block) = Ask (Mark dev block) (λ r. End (MarkedBad r))
script_of g (AskBad dev blocks block) = Ask (IsBad dev block) (λ r. End (AskedBad r))
script_of g (AskStats dev blocks) = Ask (Stats dev) (λ r. End (stats_outcome r))

-- what a command does next after these replies
abbrev pub next_step : Geometry → Command → List Reply → Next
next_step g command replies = next_in (after_replies replies (script_of g command))

-- a bound on the operations of a command, where at most `weak` written pages fail or are refused
abbrev pub cost_of : Geometry → Command → ℕ → ℕ
cost_of g (FlashErase dev blocks no_scan start count) weak = 2 * count_or_rest count start blocks
cost_of g (NandWrite dev blocks mark raw oob pad off bytes) weak =
    (blocks - off / block_size g) + unit_count g oob bytes + (g.pages_per_block + 2) * weak
cost_of g (NandDump dev blocks off len raw oob bad) weak =
    let first : ℕ = off / g.page in
    let pages : ℕ = count_or_rest (len / g.page) first (blocks * g.pages_per_block) in
    pages + blocks_touched g pages first
cost_of g (NandTest dev blocks keep mark seed passes off len) weak =
    let count : ℕ = count_or_rest (len / block_size g) (off / block_size g) blocks in
    passes * count * (2 * g.pages_per_block + 3) + (if keep then passes * count * (2 * g.pages_per_block + 1) else 0)
cost_of g _ weak = 1

-- a range of an offset and a length lies on a device of so many bytes and consists of units of one
-- size, where length 0 means to the end
abbrev pub is_range : (unit size off len : ℕ) → Bool
is_range unit size off len = off % unit == 0 && len % unit == 0 && nat_lt off size && nat_le (off + len) size

-- the bytes of a device of so many blocks
abbrev pub device_bytes : Geometry → ℕ → ℕ
device_bytes g blocks = blocks * block_size g

-- the numbers of a command meet the rules of its line, on a device of so many blocks
abbrev pub fits_device : Geometry → Command → Bool
fits_device g (FlashErase dev blocks no_scan start count) = nat_lt start blocks && nat_le (start + count) blocks
fits_device g (NandWrite dev blocks mark raw oob pad off bytes) =
    off % g.page == 0 && nat_lt off (device_bytes g blocks) && (pad || length bytes % unit_size g oob == 0)
fits_device g (NandDump dev blocks off len raw oob bad) = is_range g.page (device_bytes g blocks) off len
fits_device g (NandTest dev blocks keep mark seed passes off len) =
    nat_le 1 passes && is_range (block_size g) (device_bytes g blocks) off len
fits_device g (MarkBad dev blocks block) = true
fits_device g (AskBad dev blocks block) = true
fits_device g (AskStats dev blocks) = true

-- the blocks of the device that a command names
abbrev pub command_blocks : Command → ℕ
command_blocks (FlashErase dev blocks no_scan start count) = blocks
command_blocks (NandWrite dev blocks mark raw oob pad off bytes) = blocks
command_blocks (NandDump dev blocks off len raw oob bad) = blocks
command_blocks (NandTest dev blocks keep mark seed passes off len) = blocks
command_blocks (MarkBad dev blocks block) = blocks
command_blocks (AskBad dev blocks block) = blocks
command_blocks (AskStats dev blocks) = blocks

-- a command fits a geometry: its numbers meet the rules of its line, and its device has from 1 to
-- 32,768 blocks
abbrev pub fits : Geometry → Command → Bool
fits g command = nat_le 1 (command_blocks command) && nat_le (command_blocks command) 32768 && fits_device g command

-- the answers to each kind of operation, beside out of range; a page's counts are at most 128 each,
-- and a raw page's are 0
abbrev pub IsDecodedPage : Reply → Type 0
IsDecodedPage (Page kind read image) =
    (kind ≢ Raw) × (read.corrected ≤ 128) × (read.greatest ≤ 128) × (read.failed ≤ 128)
IsDecodedPage _ = ⊥

-- a page as it was read, without counts
abbrev pub IsRawPage : Reply → Type 0
IsRawPage (Page kind read image) = (kind ≡ Raw) × (read.corrected ≡ 0) × (read.greatest ≡ 0) × (read.failed ≡ 0)
IsRawPage _ = ⊥

-- the answers to a write
abbrev pub IsWriteAnswer : Reply → Type 0
IsWriteAnswer Done = ⊤
IsWriteAnswer BadBlock = ⊤
IsWriteAnswer ProgramFailed = ⊤
IsWriteAnswer _ = ⊥

-- the answers to a raw write
abbrev pub IsRawWriteAnswer : Reply → Type 0
IsRawWriteAnswer MarkerByte = ⊤
IsRawWriteAnswer reply = IsWriteAnswer reply

-- the answers to an erase
abbrev pub IsEraseAnswer : Reply → Type 0
IsEraseAnswer Done = ⊤
IsEraseAnswer BadBlock = ⊤
IsEraseAnswer EraseFailed = ⊤
IsEraseAnswer _ = ⊥

-- the answers to a question for a block's state
abbrev pub IsStateAnswer : Reply → Type 0
IsStateAnswer OutOfRange = ⊤
IsStateAnswer (State n) = n < 4
IsStateAnswer _ = ⊥

-- the answers to a mark
abbrev pub IsMarkAnswer : Reply → Type 0
IsMarkAnswer OutOfRange = ⊤
IsMarkAnswer Reserved = ⊤
IsMarkAnswer (Copies n) = n < 2
IsMarkAnswer Done = ⊤
IsMarkAnswer MarkerFailed = ⊤
IsMarkAnswer (TableFailed which) = ⊤
IsMarkAnswer _ = ⊥

-- the answer to a question for statistics
abbrev pub IsCounts : Reply → Type 0
IsCounts (Counts corrected failed bad) = ⊤
IsCounts _ = ⊥

-- the reply is one that the operation may have, where a command asks for it: the pages and blocks
-- of a command that fits are there, but for those of `markbad` and `isbad`
abbrev pub IsAnswerOf : Op → Reply → Type 0
IsAnswerOf (Read dev page) reply = IsDecodedPage reply
IsAnswerOf (Write dev page body free) reply = IsWriteAnswer reply
IsAnswerOf (RawRead dev page) reply = IsRawPage reply
IsAnswerOf (RawWrite dev page image) reply = IsRawWriteAnswer reply
IsAnswerOf (Erase dev block) reply = IsEraseAnswer reply
IsAnswerOf (IsBad dev block) reply = IsStateAnswer reply
IsAnswerOf (Mark dev block) reply = IsMarkAnswer reply
IsAnswerOf (Stats dev) reply = IsCounts reply
