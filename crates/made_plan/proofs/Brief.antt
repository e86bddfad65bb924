-- Lines of few short words, and texts of few lines.
use Rattle.std.proofs.Common.{ℕ, ◌+◌, ◌*◌, ◌^◌, ◌≤◌, ◌<◌, List, [], ◌∷◌, ◌++◌, length, map, arith, length-append}
use Rattle.std.specs.Prelude.{All, decimal, flat_map}
use Rattle.std.specs.List.{AllByRecursion}
use Rattle.std.proofs.lemmas.Fmt.{length-decimal-le}
use Rattle.std.proofs.lemmas.List.Elements.{All-cons, All-nil}
use Rattle.report_model.specs.Report.{line as ended, spaced}
use Rattle.plan_laws.proofs.Written.{Line}
use Rattle.made_plan.proofs.Lists.{passed_append}
use Rattle.made_plan.proofs.Reached.{IsShort}

-- a word of at most 60 bytes
abbrev pub IsShortWord : List ℕ → Type 0
IsShortWord word = length word ≤ 60

-- a line of at most 600 bytes
abbrev pub IsBrief : Line → Type 0
IsBrief words = length (spaced words) ≤ 600

pub decimal_short : (n : ℕ) → n < 2 ^ 64 → length (decimal n) ≤ 20
decimal_short n h = length-decimal-le 20 n (omega arith) (omega (arith, h)) h

pub decimal_word_short : (n : ℕ) → n < 2 ^ 64 → IsShortWord (decimal n)
decimal_word_short n h = omega (arith, decimal_short n h)

spaced_length : (words : Line) → AllByRecursion IsShortWord words → length (spaced words) ≤ 61 * length words
spaced_length [] h = omega arith
spaced_length (word ∷ []) h = let here = h.0 in omega (arith, here)
spaced_length (word ∷ next ∷ words) h =
    let here = h.0 in
    omega (arith, here, length-append word (32 ∷ spaced (next ∷ words)), spaced_length (next ∷ words) h.1)

-- few short words
pub brief : (words : Line) → AllByRecursion IsShortWord words → length words ≤ 9 → IsBrief words
brief words h few = omega (arith, spaced_length words h, few)

-- brief lines, of which there are at most so many
pub record AreBrief (lines : List Line) (most : ℕ) : Type 0 where
  pub each : AllByRecursion IsBrief lines
  pub few : length lines ≤ most

pub briefs_append : (a b : List Line) (k m : ℕ) → AreBrief a k → AreBrief b m → AreBrief (a ++ b) (k + m)
briefs_append a b k m h l =
    record {
      each = passed_append IsBrief a b h.each l.each;
      few = omega (arith, length-append a b, h.few, l.few);
    }

pub brief_text : (lines : List Line) → AllByRecursion IsBrief lines → length (flat_map ended (map spaced lines)) ≤ 601 * length lines
brief_text [] h = omega arith
brief_text (words ∷ lines) h =
    let here = h.0 in
    omega (arith, here, length-append (ended (spaced words)) (flat_map ended (map spaced lines)), length-append (spaced words) (10 ∷ []), brief_text lines h.1)

pub brief_lines : (lines : List Line) → AllByRecursion IsBrief lines → All IsShort (map spaced lines)
brief_lines [] h = All-nil IsShort
brief_lines (words ∷ lines) h =
    let here : length (spaced words) ≤ 600 = h.0 in
    All-cons IsShort (spaced words) (map spaced lines) (omega (arith, here)) (brief_lines lines h.1)
