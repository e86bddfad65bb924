-- Plans: which bytes are a plan, and which are refused, at which line and why.
use Rattle.std.specs.Prelude.{◌≡◌, ℕ, ◌+◌, ◌<◌, ◌≤◌, false, nat_le, List, [], ◌∷◌, ◌++◌, length, Result, Ok, Err, codes}
use Rattle.std.specs.List.{list_all}
use Rattle.lab_text.specs.Text.{lines_of, words_of, longest_line}
use Rattle.plan_grammar.specs.declared.kind.PlanKind.{PlanKind}
use Rattle.plan_grammar.specs.declared.kind.PlanKind.TheVariants.{LineTooLong, BadByte, UnknownWord, Ended as NoBoot, TooLong as TooManyBytes}
use Rattle.plan_grammar.specs.declared.words.LineKind.{LineKind}
use Rattle.plan_grammar.specs.declared.words.LineKind.TheVariants.{Header, Controller, Chip, Bad, Weak, Bus, Part, Data, Boot, Flip, Cut, Session, Schedule, FlashErase, NandWrite, NandDump, NandTest, MarkBad, IsBad, Stats}
use Rattle.plan_grammar.specs.declared.lines.PlanLines.{PlanLines}
use Rattle.plan_grammar.specs.Limits.{most_bytes}
use Rattle.plan_grammar.specs.Rules.{◌>>=◌, rule, there}
use Rattle.plan_grammar.specs.Forms.{is_allowed}
use Rattle.plan_grammar.specs.Options.{Meaning, meaning_in}
use Rattle.plan_grammar.specs.Hardware.{header_line, controller_line, chip_line, bad_line, weak_line, bus_line, part_line}
use Rattle.plan_grammar.specs.Payloads.{data_line}
use Rattle.plan_grammar.specs.Faults.{boot_line, flip_line, cut_line}
use Rattle.plan_grammar.specs.Sessions.{session_line, schedule_line}
use Rattle.plan_grammar.specs.Commands.{command_line}

-- the first word of each kind of line
abbrev pub first_words : List (Meaning LineKind)
first_words =
    record { word = codes "nandlab"; means = Header }
    ∷ record { word = codes "controller"; means = Controller }
    ∷ record { word = codes "chip"; means = Chip }
    ∷ record { word = codes "bad"; means = Bad }
    ∷ record { word = codes "weak"; means = Weak }
    ∷ record { word = codes "bus"; means = Bus }
    ∷ record { word = codes "part"; means = Part }
    ∷ record { word = codes "data"; means = Data }
    ∷ record { word = codes "boot"; means = Boot }
    ∷ record { word = codes "flip"; means = Flip }
    ∷ record { word = codes "cut"; means = Cut }
    ∷ record { word = codes "session"; means = Session }
    ∷ record { word = codes "schedule"; means = Schedule }
    ∷ record { word = codes "flash_erase"; means = FlashErase }
    ∷ record { word = codes "nandwrite"; means = NandWrite }
    ∷ record { word = codes "nanddump"; means = NandDump }
    ∷ record { word = codes "nandtest"; means = NandTest }
    ∷ record { word = codes "markbad"; means = MarkBad }
    ∷ record { word = codes "isbad"; means = IsBad }
    ∷ record { word = codes "stats"; means = Stats }
    ∷ []

-- a line of each kind, by the words after the first
abbrev pub line_by_kind : LineKind → PlanLines → List (List ℕ) → Result PlanLines PlanKind
line_by_kind Header plan words = header_line plan words
line_by_kind Controller plan words = controller_line plan words
line_by_kind Chip plan words = chip_line plan words
line_by_kind Bad plan words = bad_line plan words
line_by_kind Weak plan words = weak_line plan words
line_by_kind Bus plan words = bus_line plan words
line_by_kind Part plan words = part_line plan words
line_by_kind Data plan words = data_line plan words
line_by_kind Boot plan words = boot_line plan words
line_by_kind Flip plan words = flip_line plan words
line_by_kind Cut plan words = cut_line plan words
line_by_kind Session plan words = session_line plan words
line_by_kind Schedule plan words = schedule_line plan words
line_by_kind FlashErase plan words = command_line FlashErase plan words
line_by_kind NandWrite plan words = command_line NandWrite plan words
line_by_kind NandDump plan words = command_line NandDump plan words
line_by_kind NandTest plan words = command_line NandTest plan words
line_by_kind MarkBad plan words = command_line MarkBad plan words
line_by_kind IsBad plan words = command_line IsBad plan words
line_by_kind Stats plan words = command_line Stats plan words

-- the words of a line; a line without words is passed over
unfoldable pub line_words : PlanLines → List (List ℕ) → Result PlanLines PlanKind
line_words plan [] = Ok plan
line_words plan (first ∷ words) = do
  kind ← there (meaning_in first_words first) UnknownWord
  line_by_kind kind plan words

-- what a line adds to the plan of the lines before it, or its first broken rule
unfoldable pub line : PlanLines → List ℕ → Result PlanLines PlanKind
line plan bytes = do
  _ ← rule (nat_le (length bytes) longest_line) LineTooLong
  _ ← rule (list_all is_allowed bytes) BadByte
  line_words plan (words_of bytes)

-- the plan without lines
abbrev pub no_lines : PlanLines
no_lines = record { begun = false; controllers = []; payloads = []; boots = [] }

-- these lines, all of them good, lead from one plan to another
abbrev pub Reads : PlanLines → List (List ℕ) → PlanLines → Type 0
Reads old [] new = new ≡ old
Reads old (bytes ∷ later) new = (next : PlanLines) × (line old bytes ≡ Ok next) × Reads next later new

-- the bytes are a plan: not too many, each line is good, and there is a boot
pub record IsPlan (bytes : List ℕ) (plan : PlanLines) : Type 0 where
  pub short : length bytes ≤ most_bytes
  pub lines : Reads no_lines (lines_of bytes) plan
  pub some : 0 < length plan.boots

-- the bytes are refused: they are too many, or a line is the first that breaks a rule, or all lines
-- are good and there is no boot
pub data IsRefused (bytes : List ℕ) : ℕ → PlanKind → Type 0 where
  TooLong : most_bytes < length bytes → IsRefused bytes 0 TooManyBytes
  Broken : (before : List (List ℕ)) (broken : List ℕ) (after : List (List ℕ)) (plan : PlanLines) (kind : PlanKind) →
      length bytes ≤ most_bytes → lines_of bytes ≡ before ++ broken ∷ after → Reads no_lines before plan →
      line plan broken ≡ Err kind →
      IsRefused bytes (length before + 1) kind
  Ended : (plan : PlanLines) → length bytes ≤ most_bytes → Reads no_lines (lines_of bytes) plan → plan.boots ≡ [] →
      IsRefused bytes (length (lines_of bytes) + 1) NoBoot
