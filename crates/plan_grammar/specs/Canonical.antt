-- The canonical text of a plan: each line once in the order read, without comments and empty lines,
-- words separated by one space, numbers decimal without leading zeros, hexadecimal digits in lower
-- case, a chip's threshold and a part's count as they are in force, options in one order and left
-- out where they have their default, and LF after each line.
use Rattle.std.specs.Prelude.{ℕ, Bool, true, false, ◌==◌, if◌then◌else◌, List, [], ◌∷◌, ◌++◌, map, flat_map, codes, decimal}
use Rattle.hex.specs.Hex.{encode_lower}
use Rattle.report_model.specs.Report.{line, spaced, device_name}
use Rattle.nand_model.specs.declared.geometry.Geometry.{Geometry}
use Rattle.nand_model.specs.declared.tear.Tear.{Tear}
use Rattle.nand_model.specs.declared.tear.Tear.TheVariants.{Nothing, Everything, Seed as FromSeed, Spans}
use Rattle.nand_model.specs.declared.words.WeakKind.{WeakKind}
use Rattle.nand_model.specs.declared.words.WeakKind.TheVariants.{Program, Erase}
use Rattle.nand_model.specs.declared.words.BadMode.{BadMode}
use Rattle.nand_model.specs.declared.words.BadMode.TheVariants.{PadBad, DumpBad, SkipBad}
use Rattle.plan_grammar.specs.declared.lines.PlanLines.{PlanLines}
use Rattle.plan_grammar.specs.declared.lines.ChipLines.{ChipLines}
use Rattle.plan_grammar.specs.declared.lines.PartLine.{PartLine}
use Rattle.plan_grammar.specs.declared.lines.DataLine.{DataLine}
use Rattle.plan_grammar.specs.declared.lines.Piece.{Piece}
use Rattle.plan_grammar.specs.declared.lines.Piece.TheVariants.{Fill, Seed, Hex}
use Rattle.plan_grammar.specs.declared.lines.DetailLine.{DetailLine}
use Rattle.plan_grammar.specs.declared.lines.DetailLine.TheVariants.{Bad, Weak as WeakAt, Bus}
use Rattle.plan_grammar.specs.declared.lines.BootLines.{BootLines}
use Rattle.plan_grammar.specs.declared.lines.FaultLine.{FaultLine}
use Rattle.plan_grammar.specs.declared.lines.FaultLine.TheVariants.{Flip as FlipOf, Cut as CutOf}
use Rattle.plan_grammar.specs.declared.lines.SessionLines.{SessionLines}
use Rattle.plan_grammar.specs.declared.lines.CommandLine.{CommandLine}
use Rattle.plan_grammar.specs.declared.lines.CommandLine.TheVariants.{FlashErase, NandWrite, NandDump, NandTest, MarkBad, IsBad, Stats}

-- numbers in decimal
abbrev pub decimals : List ℕ → List (List ℕ)
decimals numbers = map (λ n. decimal n) numbers

-- texts with a byte between them
abbrev pub joined : ℕ → List (List ℕ) → List ℕ
joined separator [] = []
joined separator (text ∷ []) = text
joined separator (text ∷ next ∷ texts) = text ++ separator ∷ joined separator (next ∷ texts)

-- the words of a chip's line
abbrev pub chip_words : Geometry → List (List ℕ)
chip_words g = codes "chip" ∷ decimals (g.page ∷ g.spare ∷ g.pages_per_block ∷ g.blocks ∷ g.t ∷ g.bbt ∷ g.threshold
    ∷ [])

-- a span
abbrev pub span_text : ℕ × ℕ → List ℕ
span_text (first, end) = decimal first ++ codes "-" ++ decimal end

-- a tear
abbrev pub tear_text : Tear → List ℕ
tear_text Nothing = codes "none"
tear_text Everything = codes "all"
tear_text (FromSeed seed) = codes "seed:" ++ decimal seed
tear_text (Spans spans) = codes "spans:" ++ joined 44 (map span_text spans)

-- what fails at a weak place
abbrev pub weak_kind_text : WeakKind → List ℕ
weak_kind_text Program = codes "program"
weak_kind_text Erase = codes "erase"

-- the words of a line of bad blocks, of a weak place or of a bus
abbrev pub detail_words : DetailLine → List (List ℕ)
detail_words (Bad blocks) = codes "bad" ∷ decimals blocks
detail_words (WeakAt weak) = codes "weak" ∷ weak_kind_text weak.kind ∷ decimal weak.at ∷ decimal weak.after
    ∷ tear_text weak.tear ∷ []
detail_words Bus = codes "bus" ∷ []

-- the words of a partition's line
abbrev pub part_words : PartLine → List (List ℕ)
part_words part = codes "part" ∷ decimals (part.start ∷ part.count ∷ [])

-- the lines of a chip
abbrev pub chip_lines : ChipLines → List (List (List ℕ))
chip_lines chip = chip_words chip.geometry ∷ map detail_words chip.details ++ map part_words chip.parts

-- the lines of a controller
abbrev pub controller_lines : List ChipLines → List (List (List ℕ))
controller_lines chips = (codes "controller" ∷ []) ∷ flat_map chip_lines chips

-- a piece
abbrev pub piece_text : Piece → List ℕ
piece_text (Fill byte len) = codes "fill:" ++ encode_lower (byte ∷ []) ++ codes ":" ++ decimal len
piece_text (Seed seed len) = codes "seed:" ++ decimal seed ++ codes ":" ++ decimal len
piece_text (Hex bytes) = codes "hex:" ++ encode_lower bytes

-- the words of a data line
abbrev pub data_words : DataLine → List (List ℕ)
data_words payload = codes "data" ∷ payload.name ∷ map piece_text payload.pieces

-- chip K of controller C
abbrev pub chip_name : (controller chip : ℕ) → List ℕ
chip_name controller chip = decimal controller ++ codes "." ++ decimal chip

-- the words of a flip's or a cut's line
abbrev pub fault_words : FaultLine → List (List ℕ)
fault_words (FlipOf controller flip) = codes "flip" ∷ chip_name controller flip.chip ∷ decimals (flip.page
    ∷ flip.before ∷ flip.bits)
fault_words (CutOf controller cut) = codes "cut" ∷ decimal controller ∷ decimal cut.event ∷ tear_text cut.tear ∷ []

-- an option that stands alone, and one with its value
abbrev pub flag : List ℕ → Bool → List (List ℕ)
flag word true = word ∷ []
flag word false = []

-- an option with its value, left out at its default
abbrev pub valued : List ℕ → (value default : ℕ) → List (List ℕ)
valued word value default = if value == default then [] else word ∷ decimal value ∷ []

-- what a nanddump does with bad blocks, left out at its default
abbrev pub bad_option : BadMode → List (List ℕ)
bad_option PadBad = []
bad_option DumpBad = codes "--bb=dumpbad" ∷ []
bad_option SkipBad = codes "--bb=skipbad" ∷ []

-- the words of a command's line
abbrev pub command_words : CommandLine → List (List ℕ)
command_words (FlashErase dev no_scan start count) =
    codes "flash_erase" ∷ flag (codes "-N") no_scan ++ device_name dev ∷ decimals (start ∷ count ∷ [])
command_words (NandWrite dev mark raw oob pad off name) =
    codes "nandwrite" ∷ flag (codes "-m") mark ++ flag (codes "-n") raw ++ flag (codes "-o") oob
    ++ flag (codes "-p") pad ++ valued (codes "-s") off 0
    ++ device_name dev ∷ name ∷ []
command_words (NandDump dev off len raw oob bad) =
    codes "nanddump" ∷ valued (codes "-s") off 0 ++ valued (codes "-l") len 0 ++ flag (codes "-n") raw
    ++ flag (codes "-o") oob ++ bad_option bad
    ++ device_name dev ∷ []
command_words (NandTest dev keep mark seed passes off len) =
    codes "nandtest" ∷ flag (codes "-k") keep ++ flag (codes "-m") mark ++ valued (codes "-s") seed 0
    ++ valued (codes "-p") passes 1
    ++ valued (codes "-o") off 0 ++ valued (codes "-l") len 0 ++ device_name dev ∷ []
command_words (MarkBad dev block) = codes "markbad" ∷ device_name dev ∷ decimal block ∷ []
command_words (IsBad dev block) = codes "isbad" ∷ device_name dev ∷ decimal block ∷ []
command_words (Stats dev) = codes "stats" ∷ device_name dev ∷ []

-- the lines of a session
abbrev pub session_lines : SessionLines → List (List (List ℕ))
session_lines session = (codes "session" ∷ decimal session.controller ∷ []) ∷ map command_words session.commands

-- the line of a schedule, where there is one
abbrev pub schedule_lines : List ℕ → List (List (List ℕ))
schedule_lines [] = []
schedule_lines (n ∷ numbers) = (codes "schedule" ∷ decimals (n ∷ numbers)) ∷ []

-- the lines of a boot
abbrev pub boot_lines : BootLines → List (List (List ℕ))
boot_lines boot = (codes "boot" ∷ [])
    ∷ map fault_words boot.faults ++ flat_map session_lines boot.sessions ++ schedule_lines boot.schedule

-- the header, where it was there
abbrev pub header_lines : Bool → List (List (List ℕ))
header_lines true = (codes "nandlab" ∷ codes "1" ∷ []) ∷ []
header_lines false = []

-- the words of each line of a plan
abbrev pub canonical_words : PlanLines → List (List (List ℕ))
canonical_words plan =
    header_lines plan.begun ++ flat_map controller_lines plan.controllers ++ map data_words plan.payloads
    ++ flat_map boot_lines plan.boots

-- its lines
abbrev pub canonical_lines : PlanLines → List (List ℕ)
canonical_lines plan = map spaced (canonical_words plan)

-- its text
abbrev pub canonical_text : PlanLines → List ℕ
canonical_text plan = flat_map line (canonical_lines plan)
