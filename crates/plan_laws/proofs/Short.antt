-- A line has few words, and a text few lines.
use Rattle.std.proofs.Common.{◌≡◌, ◌∙◌, ℕ, suc, ◌+◌, ◌*◌, ◌≤◌, Bool, true, false, List, [], ◌∷◌, length, ap, refl, sym, arith}
use Rattle.std.specs.Prelude.{cond}
use Rattle.std.proofs.lemmas.Bool.{cond-true, cond-false}
use Rattle.lab_text.specs.Text.{is_line_feed, is_blank, with_byte, lines_of, with_letter, runs_of, begins_comment, before_comment, words_of}

with_byte-length : (b : ℕ) (pieces : List (List ℕ)) → length (with_byte b pieces) ≤ length pieces + 1
with_byte-length b [] = omega arith
with_byte-length b (piece ∷ pieces) = omega arith

lines_by : (c : Bool) (b : ℕ) (lines : List (List ℕ)) (n : ℕ) → length lines ≤ n → length (cond c ([] ∷ lines) (with_byte b lines)) ≤ suc n
lines_by true b lines n h = omega (arith, h)
lines_by false b lines n h = omega (arith, h, with_byte-length b lines)

-- each line takes a byte
pub lines_few : (bytes : List ℕ) → length (lines_of bytes) ≤ length bytes
lines_few [] = omega arith
lines_few (b ∷ bs) = lines_by (is_line_feed b) b (lines_of bs) (length bs) (lines_few bs)

-- the text is empty or begins with a blank
abbrev starts_blank : List ℕ → Bool
starts_blank [] = true
starts_blank (b ∷ bs) = is_blank b

-- each run takes a byte, and a blank behind it unless it is the last
record HasFewRuns (bytes : List ℕ) : Type 0 where
  pub few : 2 * length (runs_of bytes) ≤ length bytes + 1
  pub fewer : starts_blank bytes ≡ true → 2 * length (runs_of bytes) ≤ length bytes

byte_few : (b n : ℕ) (runs : List (List ℕ)) → 2 * length runs ≤ n → 2 ≤ n → 2 * length (with_byte b runs) ≤ n
byte_few b n [] h k = omega (arith, k)
byte_few b n (run ∷ runs) h k = omega (arith, h)

letter_few : (c : Bool) (b : ℕ) (runs : List (List ℕ)) (n : ℕ) → 2 * length runs ≤ n + 1 → (c ≡ true → 2 * length runs ≤ n) → 1 ≤ n →
    2 * length (cond c ((b ∷ []) ∷ runs) (with_byte b runs)) ≤ n + 2
letter_few true b runs n h k some = omega (arith, k refl)
letter_few false b runs n h k some = omega (arith, byte_few b (n + 1) runs h (omega (arith, some)))

few_by : (c : Bool) (b : ℕ) (bs : List ℕ) → is_blank b ≡ c → HasFewRuns bs → HasFewRuns (b ∷ bs)
few_by true b bs e h =
    let same = ap length (cond-true (is_blank b) (runs_of bs) (with_letter b bs (runs_of bs)) e) in
    record { few = omega (arith, same, h.few); fewer = λ f. omega (arith, same, h.few) }
few_by false b [] e h =
    let same = ap length (cond-false (is_blank b) [] ((b ∷ []) ∷ []) e) in
    record { few = omega (arith, same); fewer = λ f. absurd (both b e f) }
  where
    both : (b : ℕ) → is_blank b ≡ false → is_blank b ≡ true → ⊥
    both b e f = let wrong : false ≡ true = sym e ∙ f in cc wrong
few_by false b (next ∷ bs) e h =
    let same = ap length (cond-false (is_blank b) (runs_of (next ∷ bs)) (with_letter b (next ∷ bs) (runs_of (next ∷ bs))) e) in
    let more = letter_few (is_blank next) b (runs_of (next ∷ bs)) (length (next ∷ bs)) h.few h.fewer (omega arith) in
    record { few = omega (arith, same, more); fewer = λ f. absurd (both b e f) }
  where
    both : (b : ℕ) → is_blank b ≡ false → is_blank b ≡ true → ⊥
    both b e f = let wrong : false ≡ true = sym e ∙ f in cc wrong

few_runs : (bytes : List ℕ) → HasFewRuns bytes
few_runs [] = record { few = omega arith; fewer = λ e. omega arith }
few_runs (b ∷ bs) = few_by (is_blank b) b bs refl (few_runs bs)

before_by : (c : Bool) (run : List ℕ) (runs : List (List ℕ)) (n : ℕ) → length runs ≤ n → length (cond c [] (run ∷ runs)) ≤ suc n
before_by true run runs n h = omega arith
before_by false run runs n h = omega (arith, h)

before_few : (runs : List (List ℕ)) → length (before_comment runs) ≤ length runs
before_few [] = omega arith
before_few (run ∷ runs) = before_by (begins_comment run) run (before_comment runs) (length runs) (before_few runs)

pub words_few : (bytes : List ℕ) → 2 * length (words_of bytes) ≤ length bytes + 1
words_few bytes = omega (arith, before_few (runs_of bytes), (few_runs bytes).few)
