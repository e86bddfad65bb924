-- The lines that refuse a call.
use Rattle.std.specs.Prelude.{ℕ, List, [], ◌++◌, codes, decimal}
use Rattle.report_model.specs.Report.{line}
use Rattle.plan_grammar.specs.declared.kind.PlanKind.{PlanKind}
use Rattle.plan_grammar.specs.declared.kind.PlanKind.TheVariants.{LineTooLong, BadByte, UnknownWord, WrongPlace, BadWords, BadNumber, BadSize, SpareTooSmall, OutOfChip, TooFewTableBlocks, Overlap, UnknownDevice, UnknownName, NotMultiple, TooLarge, Ended, TooLong}
use Rattle.bus_script.specs.Answer.{illegal_line}
use Rattle.bus_script.specs.declared.error.ScriptError.{ScriptError}
use Rattle.bus_script.specs.declared.error.ScriptError.TheVariants.{Refused, Illegal, Memory as NoMemory}
use Rattle.code_words.specs.declared.refusal.InputRefusal.{InputRefusal}
use Rattle.code_words.specs.declared.refusal.InputRefusal.TheVariants.{TooLong as TooManyBytes, NotMultiple as NotWhole}
use Rattle.nandlab.specs.declared.refusal.Refusal.{Refusal}
use Rattle.nandlab.specs.declared.refusal.Refusal.TheVariants.{Text, Memory}

-- what is written for words that are not accepted
abbrev pub usage_line : List ℕ
usage_line = line (codes "usage: nandlab check or replay or run or make N or bus or encode14 T or decode14 T")

-- the name of a kind
abbrev pub kind_name : PlanKind → List ℕ
kind_name LineTooLong = codes "LineTooLong"
kind_name BadByte = codes "BadByte"
kind_name UnknownWord = codes "UnknownWord"
kind_name WrongPlace = codes "WrongPlace"
kind_name BadWords = codes "BadWords"
kind_name BadNumber = codes "BadNumber"
kind_name BadSize = codes "BadSize"
kind_name SpareTooSmall = codes "SpareTooSmall"
kind_name OutOfChip = codes "OutOfChip"
kind_name TooFewTableBlocks = codes "TooFewTableBlocks"
kind_name Overlap = codes "Overlap"
kind_name UnknownDevice = codes "UnknownDevice"
kind_name UnknownName = codes "UnknownName"
kind_name NotMultiple = codes "NotMultiple"
kind_name TooLarge = codes "TooLarge"
kind_name Ended = codes "Ended"
kind_name TooLong = codes "TooLong"

-- what is written for a plan or a script that is refused at a line for a kind
abbrev pub refusal_line : ℕ → PlanKind → List ℕ
refusal_line at kind = line (codes "line " ++ decimal at ++ codes ": " ++ kind_name kind)

-- what is written for a script that is not run to its end; nothing where memory ran out
abbrev pub script_line : ScriptError → List ℕ
script_line (Refused at kind) = refusal_line at kind
script_line (Illegal n) = illegal_line n
script_line NoMemory = []

-- the kind by which an input of steps or units is refused
abbrev pub input_kind : InputRefusal → PlanKind
input_kind TooManyBytes = TooLong
input_kind NotWhole = NotMultiple

-- a fact about the text of a refusal, where it is not one of memory
abbrev pub IfText : Refusal → (List ℕ → Type 0) → Type 0
IfText (Text text) P = P text
IfText Memory P = Unit {0}
