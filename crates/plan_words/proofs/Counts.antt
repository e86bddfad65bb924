-- A line has no more words than bytes.
use Rattle.std.proofs.Common.{ℕ, ◌+◌, ◌≤◌, true, false, Bool, List, [], ◌∷◌, length, arith, cond}
use Rattle.lab_text.specs.Text.{is_blank, with_byte, with_letter, runs_of, begins_comment, before_comment, words_of}

with_byte_length : (byte : ℕ) (runs : List (List ℕ)) → length (with_byte byte runs) ≤ length runs + 1
with_byte_length byte [] = omega arith
with_byte_length byte (run ∷ runs) = omega arith

choice_length : (test : Bool) (xs ys : List (List ℕ)) (n : ℕ) → length xs ≤ n → length ys ≤ n →
    length (cond test xs ys) ≤ n
choice_length true xs ys n h k = h
choice_length false xs ys n h k = k

with_letter_length : (byte : ℕ) (bytes : List ℕ) (runs : List (List ℕ)) →
    length (with_letter byte bytes runs) ≤ length runs + 1
with_letter_length byte [] runs = omega arith
with_letter_length byte (next ∷ bytes) runs =
    choice_length (is_blank next) ((byte ∷ []) ∷ runs) (with_byte byte runs) (length runs + 1) (omega arith)
    (with_byte_length byte runs)

runs_length : (bytes : List ℕ) → length (runs_of bytes) ≤ length bytes
runs_length [] = omega arith
runs_length (byte ∷ bytes) =
    let others = runs_length bytes in
    choice_length (is_blank byte) (runs_of bytes) (with_letter byte bytes (runs_of bytes)) (length (byte ∷ bytes))
    (omega (arith, others)) (omega (arith, others, with_letter_length byte bytes (runs_of bytes)))

before_comment_length : (runs : List (List ℕ)) → length (before_comment runs) ≤ length runs
before_comment_length [] = omega arith
before_comment_length (run ∷ runs) =
    choice_length (begins_comment run) [] (run ∷ before_comment runs) (length (run ∷ runs)) (omega arith)
    (omega (arith, before_comment_length runs))

pub words_length : (line : List ℕ) → length (words_of line) ≤ length line
words_length line = omega (arith, before_comment_length (runs_of line), runs_length line)
