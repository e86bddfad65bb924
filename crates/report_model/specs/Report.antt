-- The text of a report, from a plan and the notes of its boots. Every line ends with LF.
--
--   for each boot                  boot B
--     for each controller          controller C, and the lines of its notes
--     for each session             session S, the lines of its finished commands, and where some
-- are left: cut after K
--     for each device              device mtdJ corrected N failed N
--                                  end boot B
use Rattle.std.specs.Prelude.{ℕ, List, [], ◌∷◌, ◌++◌, codes, decimal, zero, suc, take, drop, ◌+◌, ◌/◌, length, if◌then◌else◌, bytes_eq, ◌*◌, flat_map, ◌==◌, Bool, true, false, sum_by, slice_index_or, map, ◌≡◌, replicate, refl}
use Rattle.std.specs.Int.{to_be_bytes, w32}
use Rattle.hex.specs.Hex.{encode_lower}
use Rattle.nand_model.specs.Partitions.{command_device, Partitions}
use Rattle.command_model.specs.Session.{SessionRun, without_finished, exchanges_of, session_after}
use Rattle.command_model.specs.Reads.{corrected_of, failed_of, reads_of}
use Rattle.plan_model.specs.Plan.{PlanData, ChipPlan, devices_of, SessionPlan, BootPlan}
use Rattle.command_model.specs.Boot.{geometry_for}
use Rattle.nand_model.specs.Sizes.{numbers_from}
use Rattle.nand_model.specs.declared.words.Op.{Op}
use Rattle.nand_model.specs.declared.words.Op.TheVariants.{Read, Write, RawRead, RawWrite, Erase, IsBad, Mark, Stats}
use Rattle.nand_model.specs.declared.words.Which.{Which}
use Rattle.nand_model.specs.declared.words.Which.TheVariants.{Primary, Mirror}
use Rattle.nand_model.specs.declared.words.PageKind.{PageKind}
use Rattle.nand_model.specs.declared.words.PageKind.TheVariants.{Raw, Clean, Bitflips, Uncorrectable}
use Rattle.nand_model.specs.declared.words.PageRead.{PageRead}
use Rattle.nand_model.specs.declared.words.Reply.{Reply}
use Rattle.nand_model.specs.declared.words.Reply.TheVariants.{Done, OutOfRange, BadBlock, MarkerByte, ProgramFailed, EraseFailed, MarkerFailed, TableFailed, Reserved, Copies, State, Counts, Page}
use Rattle.nand_model.specs.declared.words.Origin.{Origin}
use Rattle.nand_model.specs.declared.words.Origin.TheVariants.{Primary as FromPrimary, Mirror as FromMirror, Markers}
use Rattle.nand_model.specs.declared.words.Event.{Event}
use Rattle.nand_model.specs.declared.words.Event.TheVariants.{Read as ReadOf, Program as ProgramOf, Erase as EraseOf}
use Rattle.nand_model.specs.declared.words.Fairness.{Fairness}
use Rattle.nand_model.specs.declared.words.Fairness.TheVariants.{Plain, Missing, Whole, Foul}
use Rattle.nand_model.specs.declared.words.Note.{Note}
use Rattle.nand_model.specs.declared.words.Note.TheVariants.{Began, Answered, Attached, Torn}
use Rattle.nand_model.specs.declared.words.Ending.{Ending}
use Rattle.nand_model.specs.declared.words.Ending.TheVariants.{Whole as AllWritten, NoSpace, MarkerByte as AtMarkerByte}
use Rattle.nand_model.specs.declared.words.Command.{Command}
use Rattle.nand_model.specs.declared.words.Command.TheVariants.{MarkBad, IsBad as AskBad}
use Rattle.nand_model.specs.declared.words.Outcome.{Outcome}
use Rattle.nand_model.specs.declared.words.Outcome.TheVariants.{FlashErase as Erased, NandWrite as Written, NandDump as Dumped, NandTest as Tested, MarkBad as MarkedBad, IsBad as AskedBad, Stats as AskedStats}
use Rattle.nand_model.specs.declared.geometry.Geometry.{Geometry}

-- a line: words one after the other, and LF
abbrev pub line : List ℕ → List ℕ
line text = text ++ 10 ∷ []

-- words with a blank between them
abbrev pub spaced : List (List ℕ) → List ℕ
spaced [] = []
spaced (word ∷ []) = word
spaced (word ∷ next ∷ words) = word ++ 32 ∷ spaced (next ∷ words)

-- the name of a device
abbrev pub device_name : ℕ → List ℕ
device_name dev = codes "mtd" ++ decimal dev

-- the eight hexadecimal digits of a number below 2^32, in lower case
abbrev pub hex8 : ℕ → List ℕ
hex8 n = encode_lower (to_be_bytes w32 n)

-- bytes cut into n rows of 32
abbrev pub rows_of : ℕ → List ℕ → List (List ℕ)
rows_of zero bytes = []
rows_of (suc n) bytes = take 32 bytes ∷ rows_of n (drop 32 bytes)

-- bytes cut into rows of 32; the last one may be shorter
abbrev pub rows_in : List ℕ → List (List ℕ)
rows_in bytes = rows_of ((length bytes + 31) / 32) bytes

-- a run of equal rows: its first row's number, its length and the row
pub record RowRun : Type 0 where
  pub at : ℕ
  pub count : ℕ
  pub row : List ℕ

-- a row before runs of rows: it lengthens the first run where it is equal to it
abbrev pub add_row : ℕ → List ℕ → List RowRun → List RowRun
add_row at row [] = record { at = at; count = 1; row = row } ∷ []
add_row at row (run ∷ runs) =
    if bytes_eq row run.row then record { at = at; count = run.count + 1; row = row } ∷ runs
    else record { at = at; count = 1; row = row } ∷ run ∷ runs

-- each longest run of equal neighbouring rows
abbrev pub runs_from : ℕ → List (List ℕ) → List RowRun
runs_from at [] = []
runs_from at (row ∷ rows) = add_row at row (runs_from (at + 1) rows)

-- the line of a run of rows: its offset, its length and its bytes
abbrev pub row_line : RowRun → List ℕ
row_line run = line (32 ∷ spaced (hex8 (32 * run.at) ∷ decimal run.count ∷ encode_lower run.row ∷ []))

-- the lines of some rows, the first of which has number `at`
abbrev pub runs_text : ℕ → List (List ℕ) → List ℕ
runs_text at rows = flat_map row_line (runs_from at rows)

-- the rows of bytes
abbrev pub rows_text : List ℕ → List ℕ
rows_text bytes = runs_text 0 (rows_in bytes)

-- an operation as a note names it
abbrev pub op_text : Op → List (List ℕ)
op_text (Read dev page) = codes "read" ∷ device_name dev ∷ decimal page ∷ []
op_text (Write dev page body free) = codes "write" ∷ device_name dev ∷ decimal page ∷ []
op_text (RawRead dev page) = codes "rawread" ∷ device_name dev ∷ decimal page ∷ []
op_text (RawWrite dev page image) = codes "rawwrite" ∷ device_name dev ∷ decimal page ∷ []
op_text (Erase dev block) = codes "erase" ∷ device_name dev ∷ decimal block ∷ []
op_text (IsBad dev block) = codes "isbad" ∷ device_name dev ∷ decimal block ∷ []
op_text (Mark dev block) = codes "mark" ∷ device_name dev ∷ decimal block ∷ []
op_text (Stats dev) = codes "stats" ∷ device_name dev ∷ []

-- a block's state
abbrev pub state_text : ℕ → List ℕ
state_text n =
    if n == 0 then codes "good"
    else (if n == 1 then codes "worn" else (if n == 2 then codes "reserved" else codes "factory"))

-- a kind of copy
abbrev pub which_text : Which → List ℕ
which_text Primary = codes "primary"
which_text Mirror = codes "mirror"

-- a kind of page read
abbrev pub kind_text : PageKind → List ℕ
kind_text Raw = codes "raw"
kind_text Clean = codes "clean"
kind_text Bitflips = codes "bitflips"
kind_text Uncorrectable = codes "uncorrectable"

-- what a page that was read is called, and its counts
abbrev pub page_text : PageKind → PageRead → List ℕ
page_text kind read =
    codes "page " ++ kind_text kind ++ codes " corrected " ++ decimal read.corrected ++ codes " greatest "
    ++ decimal read.greatest ++ codes " failed " ++ decimal read.failed

-- a device's statistics
abbrev pub counts_text : (corrected failed bad : ℕ) → List ℕ
counts_text corrected failed bad =
    codes "counts corrected " ++ decimal corrected ++ codes " failed " ++ decimal failed ++ codes " bad " ++ decimal bad

-- a reply as a note names it
abbrev pub reply_text : Reply → List ℕ
reply_text Done = codes "ok"
reply_text OutOfRange = codes "out of range"
reply_text BadBlock = codes "bad block"
reply_text MarkerByte = codes "marker byte"
reply_text ProgramFailed = codes "program failed"
reply_text EraseFailed = codes "erase failed"
reply_text MarkerFailed = codes "marker failed"
reply_text (TableFailed which) = codes "table failed " ++ which_text which
reply_text Reserved = codes "reserved"
reply_text (Copies n) = codes "copies " ++ decimal n
reply_text (State n) = state_text n
reply_text (Counts corrected failed bad) = counts_text corrected failed bad
reply_text (Page kind read image) = page_text kind read

-- the rows after an answer's line
abbrev pub reply_rows : Reply → List ℕ
reply_rows (Page kind read image) = rows_text image
reply_rows _ = []

-- the bad blocks of a table: `w` for worn, `f` for factory bad
abbrev pub bad_entry : ℕ → ℕ → List (List ℕ)
bad_entry b state =
    if state == 1 then (decimal b ++ codes "w") ∷ [] else (if state == 3 then (decimal b ++ codes "f") ∷ [] else [])

-- the bad blocks among those from block b on
abbrev pub bad_entries : ℕ → List ℕ → List (List ℕ)
bad_entries b [] = []
bad_entries b (state ∷ states) = bad_entry b state ++ bad_entries (b + 1) states

-- words with commas between them, or `-` where there are none
abbrev pub joined_by_commas : List (List ℕ) → List ℕ
joined_by_commas [] = codes "-"
joined_by_commas (word ∷ []) = word
joined_by_commas (word ∷ next ∷ words) = word ++ 44 ∷ joined_by_commas (next ∷ words)

-- where a table comes from
abbrev pub origin_text : Origin → List ℕ
origin_text FromPrimary = codes "primary"
origin_text FromMirror = codes "mirror"
origin_text Markers = codes "markers"

-- yes or no
abbrev pub yes_or_no : Bool → List ℕ
yes_or_no true = codes "yes"
yes_or_no false = codes "no"

-- a page event as a note names it
abbrev pub event_text : Event → List (List ℕ)
event_text (ReadOf page) = codes "read" ∷ decimal page ∷ []
event_text (ProgramOf page) = codes "program" ∷ decimal page ∷ []
event_text (EraseOf block) = codes "erase" ∷ decimal block ∷ []

-- what a torn event left
abbrev pub fairness_text : Fairness → List ℕ
fairness_text Plain = codes "plain"
fairness_text Missing = codes "missing"
fairness_text Whole = codes "whole"
fairness_text Foul = codes "foul"

-- why an event was torn
abbrev pub cause_text : Bool → List ℕ
cause_text true = codes "cut"
cause_text false = codes "fault"

-- chip k of controller c
abbrev pub chip_name : ℕ → ℕ → List ℕ
chip_name c k = decimal c ++ 46 ∷ decimal k

-- the lines of a note of a controller
abbrev pub note_text : ℕ → Note → List ℕ
note_text c (Began session op) = line (spaced (codes "b" ∷ decimal session ∷ op_text op))
note_text c (Answered session reply) =
    line (spaced (codes "a" ∷ decimal session ∷ reply_text reply ∷ [])) ++ reply_rows reply
note_text c (Attached k origin version copies quiet states) =
    line (spaced (codes "attach" ∷ chip_name c k ∷ origin_text origin ∷ codes "version" ∷ decimal version
    ∷ codes "copies" ∷ decimal copies
    ∷ codes "quiet" ∷ yes_or_no quiet ∷ codes "bad" ∷ joined_by_commas (bad_entries 0 states) ∷ []))
note_text c (Torn k number event cut fairness) =
    line (spaced (codes "torn" ∷ chip_name c k ∷ codes "event" ∷ decimal number ∷ spaced (event_text event)
    ∷ cause_text cut ∷ fairness_text fairness ∷ []))

-- why a nandwrite did not write all
abbrev pub ending_text : Ending → List ℕ
ending_text AllWritten = []
ending_text NoSpace = codes ", no space"
ending_text AtMarkerByte = codes ", marker byte"

-- the block that a markbad or an isbad names
abbrev pub block_text : Command → List ℕ
block_text (MarkBad dev blocks block) = decimal block
block_text (AskBad dev blocks block) = decimal block
block_text _ = []

-- the lines of a finished command
abbrev pub outcome_text : Command → Outcome → List ℕ
outcome_text command (Erased erased bad failed) =
    line (codes "flash_erase " ++ device_name (command_device command) ++ codes ": erased " ++ decimal erased
    ++ codes ", bad " ++ decimal bad ++ codes ", failed " ++ decimal failed)
outcome_text command (Written pages skipped failed ending) =
    line (codes "nandwrite " ++ device_name (command_device command) ++ codes ": pages " ++ decimal pages
    ++ codes ", skipped " ++ decimal skipped ++ codes ", failed " ++ decimal failed ++ ending_text ending)
outcome_text command (Dumped pages bad corrected failed dump) =
    line (codes "nanddump " ++ device_name (command_device command) ++ codes ": pages " ++ decimal pages
    ++ codes ", bad " ++ decimal bad ++ codes ", corrected " ++ decimal corrected ++ codes ", failed "
    ++ decimal failed) ++ rows_text dump
outcome_text command (Tested passes blocks bad worn mismatched corrected failed) =
    line (codes "nandtest " ++ device_name (command_device command) ++ codes ": passes " ++ decimal passes
    ++ codes ", blocks " ++ decimal blocks ++ codes ", bad " ++ decimal bad ++ codes ", worn " ++ decimal worn
    ++ codes ", mismatched " ++ decimal mismatched ++ codes ", corrected " ++ decimal corrected ++ codes ", failed "
    ++ decimal failed)
outcome_text command (MarkedBad reply) =
    line (codes "markbad " ++ device_name (command_device command) ++ 32 ∷ block_text command ++ codes ": "
    ++ reply_text reply)
outcome_text command (AskedBad reply) =
    line (codes "isbad " ++ device_name (command_device command) ++ 32 ∷ block_text command ++ codes ": "
    ++ reply_text reply)
outcome_text command (AskedStats corrected failed bad) =
    line (codes "stats " ++ device_name (command_device command) ++ codes ": corrected " ++ decimal corrected
    ++ codes ", failed " ++ decimal failed ++ codes ", bad " ++ decimal bad)

-- the lines of finished commands
abbrev pub outcome_lines : List Command → List Outcome → List ℕ
outcome_lines (command ∷ commands) (outcome ∷ outcomes) =
    outcome_text command outcome ++ outcome_lines commands outcomes
outcome_lines _ _ = []

-- where commands are left, how many are finished
abbrev pub cut_line : SessionRun → List Command → List ℕ
cut_line s [] = []
cut_line s (command ∷ left) = line (codes "cut after " ++ decimal (length s.outcomes))

-- the lines of a session
abbrev pub session_text : (Command → Geometry) → ℕ → List Command → List Note → List ℕ
session_text sizes number commands notes =
    let s : SessionRun = session_after sizes (without_finished sizes number commands [] [])
    (exchanges_of number notes) in
    line (codes "session " ++ decimal number) ++ outcome_lines commands s.outcomes ++ cut_line s s.commands

-- the line of a device with the sums of its reads
abbrev pub device_line : ℕ → List PageRead → List ℕ
device_line dev reads =
    line (codes "device " ++ device_name dev ++ codes " corrected " ++ decimal (sum_by corrected_of reads)
    ++ codes " failed " ++ decimal (sum_by failed_of reads))

-- the notes of a controller in a boot, or none where there is no such controller
abbrev pub notes_at : ℕ → List (List Note) → List Note
notes_at c notes = slice_index_or notes c []

-- the chips of a controller of the plan
abbrev pub chips_at : PlanData → ℕ → List ChipPlan
chips_at plan c = slice_index_or plan.controllers c []

-- the geometry of the chip of a command's device
abbrev pub geometry_in : PlanData → ℕ → Command → Geometry
geometry_in plan c =
    geometry_for (devices_of plan c (chips_at plan c)) (map (λ (chip : ChipPlan). chip.geometry) (chips_at plan c))

-- the lines of the sessions from number n on
abbrev pub session_lines : PlanData → ℕ → List SessionPlan → List (List Note) → List ℕ
session_lines plan n [] notes = []
session_lines plan n (s ∷ sessions) notes =
    session_text (geometry_in plan s.controller) n s.commands (notes_at s.controller notes)
    ++ session_lines plan (n + 1) sessions notes

-- the lines of the controllers from number c on, each with its notes
abbrev pub controller_lines : ℕ → List (List Note) → List ℕ
controller_lines c [] = []
controller_lines c (notes ∷ more) =
    line (codes "controller " ++ decimal c) ++ flat_map (note_text c) notes ++ controller_lines (c + 1) more

-- the device lines of a controller
abbrev pub device_lines : PlanData → ℕ → BootPlan → List Note → List ℕ
device_lines plan c boot notes =
    let d : Partitions = devices_of plan c (chips_at plan c) in
    flat_map (λ dev. device_line dev (reads_of dev (numbers_from 0 (length boot.sessions)) notes))
    (numbers_from d.first (length d.parts))

-- the device lines of the controllers from number c on
abbrev pub all_device_lines : PlanData → ℕ → BootPlan → List (List Note) → List ℕ
all_device_lines plan c boot [] = []
all_device_lines plan c boot (notes ∷ more) = device_lines plan c boot notes ++ all_device_lines plan (c + 1) boot more

-- the text of a boot, from the notes of each controller
abbrev pub boot_text : PlanData → ℕ → BootPlan → List (List Note) → List ℕ
boot_text plan b boot notes =
    line (codes "boot " ++ decimal b) ++ controller_lines 0 notes ++ session_lines plan 0 boot.sessions notes
    ++ all_device_lines plan 0 boot notes ++ line (codes "end boot " ++ decimal b)

-- the text of the boots from number b on
abbrev pub boots_text : PlanData → ℕ → List BootPlan → List (List (List Note)) → List ℕ
boots_text plan b (boot ∷ boots) (notes ∷ more) = boot_text plan b boot notes ++ boots_text plan (b + 1) boots more
boots_text plan b _ _ = []

-- the text of a report: for each boot the notes of each controller
abbrev pub report_text : PlanData → List (List (List Note)) → List ℕ
report_text plan notes = boots_text plan 0 plan.boots notes

-- a run of two equal rows
pub two_rows : runs_from 0 (rows_of 3 (replicate 64 0xff ++ 1 ∷ [])) ≡ record {
  at = 0;
  count = 2;
  row = replicate 32 0xff;
} ∷ record { at = 2; count = 1; row = 1 ∷ [] } ∷ []
two_rows = refl
