-- The options of commands: they stand before the device, in any order, each at most once.
use Rattle.std.specs.Prelude.{ℕ, Bool, true, false, not, if◌then◌else◌, nat_eq, bytes_eq, List, [], ◌∷◌, Option, Some, None, is_some, Result, Ok, codes}
use Rattle.std.specs.List.{starts_with}
use Rattle.lab_text.specs.Text.{number_of}
use Rattle.nand_model.specs.declared.words.BadMode.TheVariants.{PadBad, DumpBad, SkipBad}
use Rattle.plan_grammar.specs.declared.kind.PlanKind.{PlanKind}
use Rattle.plan_grammar.specs.declared.kind.PlanKind.TheVariants.{BadWords}
use Rattle.plan_grammar.specs.declared.words.LineKind.{LineKind}
use Rattle.plan_grammar.specs.declared.words.LineKind.TheVariants.{FlashErase, NandWrite, NandDump, NandTest}
use Rattle.plan_grammar.specs.declared.words.OptionKind.{OptionKind}
use Rattle.plan_grammar.specs.declared.words.OptionKind.TheVariants.{NoScan, Mark, Raw, Oob, Pad, Keep, Bad, Offset, Length, Seed, Passes}
use Rattle.plan_grammar.specs.declared.words.Options.{Options}
use Rattle.plan_grammar.specs.Rules.{◌>>=◌, rule, there}

-- what a word of a table stands for
pub record Meaning (A : Type 0) : Type 0 where
  pub word : List ℕ
  pub means : A

-- what a word stands for in a table
abbrev pub meaning_in : {A : Type 0} → List (Meaning A) → List ℕ → Option A
meaning_in [] word = None
meaning_in (entry ∷ entries) word = if bytes_eq word entry.word then Some entry.means else meaning_in entries word

-- the options that say what is done with bad blocks
abbrev pub bad_options : List (Meaning OptionKind)
bad_options =
    record { word = codes "--bb=padbad"; means = Bad PadBad }
    ∷ record { word = codes "--bb=dumpbad"; means = Bad DumpBad }
    ∷ record { word = codes "--bb=skipbad"; means = Bad SkipBad }
    ∷ []

-- the options of each command
abbrev pub options_of : LineKind → List (Meaning OptionKind)
options_of FlashErase =
    record { word = codes "-N"; means = NoScan }
    ∷ []
options_of NandWrite =
    record { word = codes "-m"; means = Mark }
    ∷ record { word = codes "-n"; means = Raw }
    ∷ record { word = codes "-o"; means = Oob }
    ∷ record { word = codes "-p"; means = Pad }
    ∷ record { word = codes "-s"; means = Offset }
    ∷ []
options_of NandDump =
    record { word = codes "-s"; means = Offset }
    ∷ record { word = codes "-l"; means = Length }
    ∷ record { word = codes "-n"; means = Raw }
    ∷ record { word = codes "-o"; means = Oob }
    ∷ bad_options
options_of NandTest =
    record { word = codes "-k"; means = Keep }
    ∷ record { word = codes "-m"; means = Mark }
    ∷ record { word = codes "-s"; means = Seed }
    ∷ record { word = codes "-p"; means = Passes }
    ∷ record { word = codes "-o"; means = Offset }
    ∷ record { word = codes "-l"; means = Length }
    ∷ []
options_of _ = []

-- the option's value is the next word
abbrev pub has_value : OptionKind → Bool
has_value Offset = true
has_value Length = true
has_value Seed = true
has_value Passes = true
has_value _ = false

-- no option is given
abbrev pub no_options : Options
no_options = record {
  no_scan = false;
  mark = false;
  raw = false;
  oob = false;
  pad = false;
  keep = false;
  bad = None;
  offset = None;
  length = None;
  seed = None;
  passes = None;
}

-- the option was given before
abbrev pub is_given : Options → OptionKind → Bool
is_given o NoScan = o.no_scan
is_given o Mark = o.mark
is_given o Raw = o.raw
is_given o Oob = o.oob
is_given o Pad = o.pad
is_given o Keep = o.keep
is_given o (Bad mode) = is_some o.bad
is_given o Offset = is_some o.offset
is_given o Length = is_some o.length
is_given o Seed = is_some o.seed
is_given o Passes = is_some o.passes

-- the options with one more, and its value where it has one
abbrev pub given : Options → OptionKind → Option ℕ → Options
given o NoScan value = record o { no_scan = true }
given o Mark value = record o { mark = true }
given o Raw value = record o { raw = true }
given o Oob value = record o { oob = true }
given o Pad value = record o { pad = true }
given o Keep value = record o { keep = true }
given o (Bad mode) value = record o { bad = Some mode }
given o Offset value = record o { offset = Some value }
given o Length value = record o { length = Some value }
given o Seed value = record o { seed = Some value }
given o Passes value = record o { passes = Some value }

-- the options with one more, which is new
unfoldable pub with_option : Options → OptionKind → Option ℕ → Result Options PlanKind
with_option o kind value = do
  _ ← rule (not (is_given o kind)) BadWords
  Ok (given o kind value)

-- a word that begins with `-` is an option
abbrev pub begins_with_dash : List ℕ → Bool
begins_with_dash word = starts_with nat_eq word (codes "-")

-- an option of a command
unfoldable pub option_word : LineKind → List ℕ → Result OptionKind PlanKind
option_word kind word = there (meaning_in (options_of kind) word) BadWords

-- an option behind which no word follows
unfoldable pub last_option : Options → OptionKind → Result (Options × List (List ℕ)) PlanKind
last_option o option = do
  _ ← rule (not (has_value option)) BadWords
  more ← with_option o option None
  Ok (more, [])

-- what follows one or the other kind of option
abbrev pub by_value : {A : Type 0} → Bool → (valued plain : Result A PlanKind) → Result A PlanKind
by_value true valued plain = valued
by_value false valued plain = plain

-- a command's options, and the words after them
unfoldable pub options_from : LineKind → Options → List (List ℕ) → Result (Options × List (List ℕ)) PlanKind
options_from kind o [] = Ok (o, [])
options_from kind o (word ∷ []) =
    if begins_with_dash word then (option_word kind word >>= λ option. last_option o option) else Ok (o, word ∷ [])
options_from kind o (word ∷ next ∷ words) =
    if begins_with_dash word
    then (option_word kind word >>= λ option. by_value (has_value option)
    (with_option o option (number_of next) >>= λ more. options_from kind more words)
    (with_option o option None >>= λ more. options_from kind more (next ∷ words)))
    else Ok (o, word ∷ next ∷ words)
