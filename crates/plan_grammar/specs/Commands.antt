-- The lines of commands.
use Rattle.std.specs.Prelude.{ℕ, ◌+◌, ◌%◌, Bool, ◌&&◌, ◌||◌, ◌==◌, nat_lt, nat_le, if◌then◌else◌, List, [], ◌∷◌, ◌++◌, Option, Some, None, unwrap_or, Result, Ok, Err}
use Rattle.nand_model.specs.declared.geometry.Geometry.{Geometry}
use Rattle.nand_model.specs.declared.words.BadMode.TheVariants.{PadBad}
use Rattle.command_model.specs.Command.{unit_size, block_size, device_bytes}
use Rattle.plan_grammar.specs.declared.kind.PlanKind.{PlanKind}
use Rattle.plan_grammar.specs.declared.kind.PlanKind.TheVariants.{WrongPlace, BadWords, BadNumber, OutOfChip, UnknownDevice, UnknownName, NotMultiple, TooLarge}
use Rattle.plan_grammar.specs.declared.words.LineKind.{LineKind}
use Rattle.plan_grammar.specs.declared.words.LineKind.TheVariants.{FlashErase as ToErase, NandWrite as ToWrite, NandDump as ToDump, NandTest as ToTest, MarkBad as ToMark, IsBad as ToAsk, Stats as ToCount}
use Rattle.plan_grammar.specs.declared.words.Options.{Options}
use Rattle.plan_grammar.specs.declared.lines.PlanLines.{PlanLines}
use Rattle.plan_grammar.specs.declared.lines.BootLines.{BootLines}
use Rattle.plan_grammar.specs.declared.lines.SessionLines.{SessionLines}
use Rattle.plan_grammar.specs.declared.lines.CommandLine.{CommandLine}
use Rattle.plan_grammar.specs.declared.lines.CommandLine.TheVariants.{FlashErase, NandWrite, NandDump, NandTest, MarkBad, IsBad, Stats}
use Rattle.plan_grammar.specs.Limits.{word_limit, most_operations}
use Rattle.plan_grammar.specs.Rules.{◌>>=◌, rule, there, last_of, with_last}
use Rattle.plan_grammar.specs.Forms.{one_word, two_words, three_words, small_number, is_name, device_number}
use Rattle.plan_grammar.specs.Options.{no_options, options_from}
use Rattle.plan_grammar.specs.Devices.{Device, device_at, data_named, data_length}
use Rattle.plan_grammar.specs.Faults.{with_last_boot}
use Rattle.plan_grammar.specs.Sessions.{running_boot}
use Rattle.plan_grammar.specs.Costs.{device_in, plan_cost}

-- the value of an option, or its default
unfoldable pub value_or : ℕ → Option (Option ℕ) → Result ℕ PlanKind
value_or default None = Ok default
value_or default (Some value) = there value BadNumber

-- a word `mtdJ`
unfoldable pub device_word : List ℕ → Result ℕ PlanKind
device_word word = there (device_number word) BadWords

-- the words of a flash_erase; of each command, the form of the words is tried first, and then their
-- numbers
unfoldable pub flash_erase_words : Options → List (List ℕ) → Result CommandLine PlanKind
flash_erase_words o words = do
  found ← three_words words
  dev ← device_word found.0
  start ← small_number found.1
  count ← small_number found.2
  Ok (FlashErase dev o.no_scan start count)

-- the words of a nandwrite
unfoldable pub nandwrite_words : Options → List (List ℕ) → Result CommandLine PlanKind
nandwrite_words o words = do
  found ← two_words words
  dev ← device_word found.0
  _ ← rule (is_name found.1) BadWords
  off ← value_or 0 o.offset
  Ok (NandWrite dev o.mark o.raw o.oob o.pad off found.1)

-- the words of a nanddump
unfoldable pub nanddump_words : Options → List (List ℕ) → Result CommandLine PlanKind
nanddump_words o words = do
  word ← one_word words
  dev ← device_word word
  off ← value_or 0 o.offset
  len ← value_or 0 o.length
  Ok (NandDump dev off len o.raw o.oob (unwrap_or o.bad PadBad))

-- a number of passes
unfoldable pub passes_of : Options → Result ℕ PlanKind
passes_of o = do
  passes ← value_or 1 o.passes
  _ ← rule (nat_le 1 passes && nat_lt passes word_limit) BadNumber
  Ok passes

-- the words of a nandtest
unfoldable pub nandtest_words : Options → List (List ℕ) → Result CommandLine PlanKind
nandtest_words o words = do
  word ← one_word words
  dev ← device_word word
  seed ← value_or 0 o.seed
  passes ← passes_of o
  off ← value_or 0 o.offset
  len ← value_or 0 o.length
  Ok (NandTest dev o.keep o.mark seed passes off len)

-- a device and a block
unfoldable pub device_and_block : List (List ℕ) → Result (ℕ × ℕ) PlanKind
device_and_block words = do
  found ← two_words words
  dev ← device_word found.0
  block ← small_number found.1
  Ok (dev, block)

-- the words of a stats
unfoldable pub stats_words : List (List ℕ) → Result CommandLine PlanKind
stats_words words = do
  word ← one_word words
  dev ← device_word word
  Ok (Stats dev)

-- the words of a command by the kind of its line
unfoldable pub command_words : LineKind → List (List ℕ) → Result CommandLine PlanKind
command_words ToErase words = do
  found ← options_from ToErase no_options words
  flash_erase_words found.0 found.1
command_words ToWrite words = do
  found ← options_from ToWrite no_options words
  nandwrite_words found.0 found.1
command_words ToDump words = do
  found ← options_from ToDump no_options words
  nanddump_words found.0 found.1
command_words ToTest words = do
  found ← options_from ToTest no_options words
  nandtest_words found.0 found.1
command_words ToMark words = do
  found ← device_and_block words
  Ok (MarkBad found.0 found.1)
command_words ToAsk words = do
  found ← device_and_block words
  Ok (IsBad found.0 found.1)
command_words ToCount words = stats_words words
command_words _ words = Err BadWords

-- a device of the session's controller
abbrev pub is_on : ℕ → Option Device → Option Device
is_on c None = None
is_on c (Some device) = if device.controller == c then Some device else None

-- the device of this number, of this controller
unfoldable pub device_of : PlanLines → ℕ → ℕ → Result Device PlanKind
device_of plan c dev = there (is_on c (device_at plan dev)) UnknownDevice

-- a range of bytes that begins on the device and ends on it, in units of one size
unfoldable pub range_rules : (unit size off len : ℕ) → Result (Unit {0}) PlanKind
range_rules unit size off len = do
  _ ← rule (off % unit == 0 && len % unit == 0) NotMultiple
  rule (nat_lt off size && nat_le (off + len) size) OutOfChip

-- the rules of a nandwrite's data and offset on its device
unfoldable pub write_rules : PlanLines → Device → (oob pad : Bool) (off : ℕ) (name : List ℕ) →
    Result (Unit {0}) PlanKind
write_rules plan device oob pad off name = do
  let g : Geometry = device.chip.geometry
  payload ← there (data_named plan name) UnknownName
  _ ← rule (off % g.page == 0 && (pad || data_length payload % unit_size g oob == 0)) NotMultiple
  rule (nat_lt off (device_bytes g device.part.count)) OutOfChip

-- the rules of a command's names and numbers on its device
abbrev pub device_rules : PlanLines → Device → CommandLine → Result (Unit {0}) PlanKind
device_rules plan device (FlashErase dev no_scan start count) =
    rule (nat_lt start device.part.count && nat_le (start + count) device.part.count) OutOfChip
device_rules plan device (NandWrite dev mark raw oob pad off name) = write_rules plan device oob pad off name
device_rules plan device (NandDump dev off len raw oob bad) =
    range_rules device.chip.geometry.page (device_bytes device.chip.geometry device.part.count) off len
device_rules plan device (NandTest dev keep mark seed passes off len) =
    range_rules (block_size device.chip.geometry) (device_bytes device.chip.geometry device.part.count) off len
device_rules plan device (MarkBad dev block) = Ok tt
device_rules plan device (IsBad dev block) = Ok tt
device_rules plan device (Stats dev) = Ok tt

-- a command of the last session of the last boot
abbrev pub with_command : CommandLine → PlanLines → PlanLines
with_command command plan =
    with_last_boot (λ (boot : BootLines). record boot {
      sessions = with_last (λ
          (session : SessionLines). record session { commands = session.commands ++ command ∷ [] }) boot.sessions;
    }) plan

-- a command, in a session: with it the commands of all boots take no more operations than a plan
-- may
unfoldable pub command_line : LineKind → PlanLines → List (List ℕ) → Result PlanLines PlanKind
command_line kind plan words = do
  boot ← running_boot plan
  session ← there (last_of boot.sessions) WrongPlace
  command ← command_words kind words
  device ← device_of plan session.controller (device_in command)
  _ ← device_rules plan device command
  _ ← rule (nat_le (plan_cost (with_command command plan)) most_operations) TooLarge
  Ok (with_command command plan)
