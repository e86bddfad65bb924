-- Scripts: the line of a chip, and then lines of cycles. Lines, words, comments and allowed bytes
-- are those of a plan.
use Rattle.std.specs.Prelude.{◌≡◌, ℕ, ◌+◌, ◌||◌, ◌==◌, nat_le, nat_lt, if◌then◌else◌, bytes_eq, List, [], ◌∷◌, ◌++◌, length, Option, Some, None, option_map, Result, Ok, Err, codes, refl}
use Rattle.std.specs.List.{list_all}
use Rattle.lab_text.specs.Text.{lines_of, words_of, longest_line}
use Rattle.nand_model.specs.declared.geometry.Geometry.{Geometry}
use Rattle.onfi_bus.specs.declared.cycle.Cycle.{Cycle}
use Rattle.onfi_bus.specs.declared.cycle.Cycle.TheVariants.{Command, Address, In, Out}
use Rattle.plan_grammar.specs.declared.kind.PlanKind.{PlanKind}
use Rattle.plan_grammar.specs.declared.kind.PlanKind.TheVariants.{LineTooLong, BadByte, UnknownWord, BadWords, Ended, TooLong}
use Rattle.plan_grammar.specs.Forms.{after_front, byte_of, is_allowed, small_numbers}
use Rattle.plan_grammar.specs.Hardware.{sizes}
use Rattle.plan_grammar.specs.Rules.{◌>>=◌, rule, there}
use Rattle.bus_script.specs.declared.script.Script.{Script}
use Rattle.bus_script.specs.declared.script.ScriptLines.{ScriptLines}

-- the greatest number of bytes of a script
abbrev pub most_bytes : ℕ
most_bytes = 1048576

-- the cycle of a letter with digits behind it
abbrev pub cycle_by_front : (command address byte : Option (List ℕ)) → Option Cycle
cycle_by_front (Some digits) address byte = option_map (λ (b : ℕ). Command b) (byte_of digits)
cycle_by_front None (Some digits) byte = option_map (λ (b : ℕ). Address b) (byte_of digits)
cycle_by_front None None (Some digits) = option_map (λ (b : ℕ). In b) (byte_of digits)
cycle_by_front None None None = None

-- `cXX` a command, `aXX` a byte of an address and `wXX` a byte in, each with two hexadecimal digits
-- of either case, and `r` a byte out
unfoldable pub cycle_in : List ℕ → Option Cycle
cycle_in word =
    if bytes_eq word (codes "r") then Some Out
    else cycle_by_front (after_front (codes "c") word) (after_front (codes "a") word) (after_front (codes "w") word)

-- the cycle of a word
unfoldable pub cycle : List ℕ → Result Cycle PlanKind
cycle word = there (cycle_in word) BadWords

-- the cycles of words
unfoldable pub cycles : List (List ℕ) → Result (List Cycle) PlanKind
cycles [] = Ok []
cycles (word ∷ words) = do
  first ← cycle word
  others ← cycles words
  Ok (first ∷ others)

-- `PAGE SPARE PPB BLOCKS T BBT` and optionally `THRESHOLD`
unfoldable pub chip_sizes : List (List ℕ) → Result Geometry PlanKind
chip_sizes words = do
  _ ← rule (length words == 6 || length words == 7) BadWords
  numbers ← small_numbers words
  sizes numbers

-- `chip` and its sizes, the first line with words
unfoldable pub chip_line : List ℕ → List (List ℕ) → Result ScriptLines PlanKind
chip_line first words = do
  _ ← rule (bytes_eq first (codes "chip")) UnknownWord
  g ← chip_sizes words
  Ok (record { chip = Some g; cycles = [] })

-- cycles, and more of them behind
abbrev pub with_cycles : List Cycle → Result (List Cycle) PlanKind → Result (List Cycle) PlanKind
with_cycles so_far (Ok more) = Ok (so_far ++ more)
with_cycles so_far (Err kind) = Err kind

-- a line of cycles
unfoldable pub cycles_line : Geometry → List Cycle → List (List ℕ) → Result ScriptLines PlanKind
cycles_line g so_far words = do
  all ← with_cycles so_far (cycles words)
  Ok (record { chip = Some g; cycles = all })

-- a line with words
abbrev pub words_after : Option Geometry → List Cycle → List ℕ → List (List ℕ) → Result ScriptLines PlanKind
words_after None so_far first words = chip_line first words
words_after (Some g) so_far first words = cycles_line g so_far (first ∷ words)

-- the words of a line; a line without words is passed over
unfoldable pub line_words : ScriptLines → List (List ℕ) → Result ScriptLines PlanKind
line_words script [] = Ok script
line_words script (first ∷ words) = words_after script.chip script.cycles first words

-- what a line adds to the lines before it, or the first rule that it breaks
unfoldable pub line : ScriptLines → List ℕ → Result ScriptLines PlanKind
line script bytes = do
  _ ← rule (nat_le (length bytes) longest_line) LineTooLong
  _ ← rule (list_all is_allowed bytes) BadByte
  line_words script (words_of bytes)

-- the number of a line, counted from 1, and the rule that it breaks
abbrev pub Refusal : Type 0
Refusal = ℕ × PlanKind

-- what follows a line with this number
abbrev pub after_line : Result ScriptLines PlanKind → ℕ → (ScriptLines → Result ScriptLines Refusal)
    → Result ScriptLines Refusal
after_line (Ok script) at go_on = go_on script
after_line (Err kind) at go_on = Err (at, kind)

-- what lines add, of which the first has this number, or the first one that breaks a rule
abbrev pub lines_from : ℕ → ScriptLines → List (List ℕ) → Result ScriptLines Refusal
lines_from at script [] = Ok script
lines_from at script (bytes ∷ later) = after_line (line script bytes) at (λ next. lines_from (at + 1) next later)

-- a script has the line of its chip; this is the number of the line after the last
abbrev pub with_chip : ℕ → Option Geometry → List Cycle → Result Script Refusal
with_chip at None so_far = Err (at, Ended)
with_chip at (Some g) so_far = Ok (record { geometry = g; cycles = so_far })

-- the whole of a script after these lines, of which the last one ended here
abbrev pub ended : ℕ → Result ScriptLines Refusal → Result Script Refusal
ended at (Ok script) = with_chip at script.chip script.cycles
ended at (Err refusal) = Err refusal

-- no line with words
abbrev pub no_lines : ScriptLines
no_lines = record { chip = None; cycles = [] }

-- the script of these bytes, or why they are none
abbrev pub reading : List ℕ → Result Script Refusal
reading bytes =
    if nat_lt most_bytes (length bytes) then Err (0, TooLong)
    else ended (length (lines_of bytes) + 1) (lines_from 1 no_lines (lines_of bytes))
