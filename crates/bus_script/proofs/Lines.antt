-- Lines of a script, one after another.
use Rattle.std.proofs.Common.{◌≡◌, ◌∙◌, ℕ, zero, suc, ◌+◌, ◌≤◌, ◌<◌, Bool, true, false, leb, ltb, List, [], ◌∷◌, ◌++◌, length, Option, Some, None, Result, Ok, Err, refl, sym, ap, subst, arith, append_assoc}
use Rattle.std.specs.Prelude.{if◌then◌else◌, ⊤}
use Rattle.std.proofs.lemmas.Bool.{cond-true, cond-false, lt-leb, lt-ltb, le-ltb}
use Rattle.lab_text.specs.Text.{lines_of, longest_line}
use Rattle.nand_model.specs.declared.geometry.Geometry.{Geometry}
use Rattle.onfi_bus.specs.declared.cycle.Cycle.{Cycle}
use Rattle.plan_grammar.specs.declared.kind.PlanKind.{PlanKind}
use Rattle.plan_grammar.specs.declared.kind.PlanKind.TheVariants.{LineTooLong, TooLong, Ended}
use Rattle.plan_grammar.specs.Rules.{◌>>=◌, rule}
use Rattle.plan_words.proofs.Growing.{TakesEach, with_items}
use Rattle.plan_words.specs.declared.error.LineError.{LineError}
use Rattle.plan_words.specs.declared.error.LineError.TheVariants.{Broken, OutOfMemory}
use Rattle.bus_script.specs.Answer.{IsReadingErrorOf}
use Rattle.bus_script.specs.Reading.{BeginsTooLong, BreaksFor, LeadsOn, StopsFor, refusal}
use Rattle.bus_script.specs.Script.{Refusal, after_line, cycle, cycles, ended, line, lines_from, most_bytes, no_lines, reading, with_chip, with_cycles}
use Rattle.bus_script.specs.declared.script.Script.{Script}
use Rattle.bus_script.specs.declared.script.ScriptLines.{ScriptLines}

pub each_cycle : TakesEach cycle cycles
unfolding cycles
each_cycle = record { none = refl; some = λ word words. refl }

-- cycles behind others
pub behind : (so_far : List Cycle) (more : Result (List Cycle) PlanKind) →
    with_cycles so_far more ≡ with_items so_far more
behind so_far (Ok xs) = refl
behind so_far (Err kind) = refl

rule_broken : {A : Type 0} (b : Bool) (kind : PlanKind) (f : Unit {0} → Result A PlanKind) → b ≡ false → (rule b kind >>= f) ≡ Err kind
rule_broken true kind f e = absurd (cc e)
rule_broken false kind f e = refl

-- a line that is too long
pub breaks_long : (script : ScriptLines) (bytes : List ℕ) → BeginsTooLong bytes → BreaksFor script bytes LineTooLong
unfolding line
breaks_long script bytes h = record {
  first = h.first;
  others = h.others;
  lines = h.lines;
  bad = rule_broken (leb (length h.first) longest_line) LineTooLong _ (lt-leb (length h.first) longest_line h.long);
}

-- the lines from `at` on, which are those of the rest, make what all lines of the bytes make
pub record ReadUpTo (bytes : List ℕ) (script : ScriptLines) (rest : List ℕ) (at : ℕ) : Type 0 where
  pub whole : lines_from 1 no_lines (lines_of bytes) ≡ lines_from at script (lines_of rest)
  pub number : at + length (lines_of rest) ≡ length (lines_of bytes) + 1
  pub few : at + length rest ≤ length bytes + 1

pub nothing_read : (bytes : List ℕ) → ReadUpTo bytes no_lines bytes 1
nothing_read bytes = record { whole = refl; number = omega arith; few = omega arith }

-- one line more
pub line_read : (bytes rest later : List ℕ) (script next : ScriptLines) (at : ℕ) → ReadUpTo bytes script rest at →
    LeadsOn script rest next later → ReadUpTo bytes next later (at + 1)
line_read bytes rest later script next at h k = record {
  whole = h.whole ∙ ap (λ ls. lines_from at script ls) k.lines
      ∙ ap (λ (r : Result ScriptLines PlanKind). after_line r at (λ (x : ScriptLines). lines_from (at + 1) x (lines_of later))) k.good;
  number =
      let count : length (lines_of rest) ≡ suc (length (lines_of later)) = ap length k.lines in
      omega (arith, h.number, count);
  few = omega (arith, h.few, k.shorter);
}

refused_of : (bytes : List ℕ) (at : ℕ) (kind : PlanKind) → length bytes ≤ most_bytes →
    lines_from 1 no_lines (lines_of bytes) ≡ Err (at, kind) → reading bytes ≡ Err (at, kind)
refused_of bytes at kind short e =
    cond-false (ltb most_bytes (length bytes)) (Err (0, TooLong)) (ended (length (lines_of bytes) + 1) (lines_from 1 no_lines (lines_of bytes)))
    (le-ltb most_bytes (length bytes) short)
    ∙ ap (λ (r : Result ScriptLines Refusal). ended (length (lines_of bytes) + 1) r) e

-- a line that breaks a rule
pub line_stops : (bytes rest : List ℕ) (script : ScriptLines) (at : ℕ) (error : LineError) → ReadUpTo bytes script rest at →
    length bytes ≤ most_bytes → StopsFor script rest error → IsReadingErrorOf bytes (refusal at error)
line_stops bytes rest script at (Broken kind) h short k =
    refused_of bytes at kind short (h.whole ∙ ap (λ ls. lines_from at script ls) k.lines
    ∙ ap (λ (r : Result ScriptLines PlanKind). after_line r at (λ (x : ScriptLines). lines_from (at + 1) x k.others)) k.bad)
line_stops bytes rest script at OutOfMemory h short k = tt

-- all lines
pub all_read : (bytes rest : List ℕ) (script : ScriptLines) (at : ℕ) → ReadUpTo bytes script rest at → length rest ≡ 0 →
    (lines_from 1 no_lines (lines_of bytes) ≡ Ok script) × (at ≡ length (lines_of bytes) + 1)
all_read bytes [] script at h none = (h.whole, (let e : at ≡ length (lines_of bytes) + 1 = omega (arith, h.number) in e))
all_read bytes (b ∷ bs) script at h none = absurd (omega (arith, none))

-- a script of these bytes, or one that has no line of a chip
script_parts : (script : ScriptLines) (at : ℕ) (chip : Option Geometry) → script.chip ≡ chip →
    ended at (Ok script) ≡ with_chip at chip script.cycles
script_parts script at chip e = ap (λ (c : Option Geometry). with_chip at c script.cycles) e

pub reading_is : (bytes : List ℕ) (script : ScriptLines) (chip : Option Geometry) (at : ℕ) → length bytes ≤ most_bytes →
    lines_from 1 no_lines (lines_of bytes) ≡ Ok script → at ≡ length (lines_of bytes) + 1 → script.chip ≡ chip →
    reading bytes ≡ with_chip at chip script.cycles
reading_is bytes script chip at short e number is =
    cond-false (ltb most_bytes (length bytes)) (Err (0, TooLong)) (ended (length (lines_of bytes) + 1) (lines_from 1 no_lines (lines_of bytes)))
    (le-ltb most_bytes (length bytes) short)
    ∙ ap (λ (r : Result ScriptLines Refusal). ended (length (lines_of bytes) + 1) r) e
    ∙ ap (λ n. ended n (Ok script)) (sym number)
    ∙ script_parts script at chip is

pub too_long : (bytes : List ℕ) → most_bytes < length bytes → reading bytes ≡ Err (0, TooLong)
too_long bytes long =
    cond-true (ltb most_bytes (length bytes)) (Err (0, TooLong)) (ended (length (lines_of bytes) + 1) (lines_from 1 no_lines (lines_of bytes)))
    (lt-ltb most_bytes (length bytes) long)
