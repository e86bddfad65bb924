-- Words, and the lines and the text that they make, are found in it again.
use Rattle.std.proofs.Common.{◌≡◌, ◌∙◌, ℕ, ◌≤◌, Bool, true, false, not, eqb, leb, List, [], ◌∷◌, ◌++◌, ap, refl, arith, append_assoc}
use Rattle.std.specs.Prelude.{◌&&◌, ◌||◌, flat_map}
use Rattle.std.specs.List.{list_all}
use Rattle.std.proofs.lemmas.Bool.{and_from, and_parts, cond-false, leb-true, le-leb, ne_eqb, not-true, or_right}
use Rattle.std.proofs.lemmas.List.Folds.{list_all-append}
use Rattle.lab_text.specs.Text.{is_line_feed, is_blank, with_byte, lines_of, runs_of, before_comment, words_of}
use Rattle.report_model.specs.Report.{line, spaced}
use Rattle.plan_grammar.specs.Forms.{is_allowed}

-- a byte that may stand in a word: from 0x21 to 0x7e
abbrev pub is_letter : ℕ → Bool
is_letter byte = leb 33 byte && leb byte 126

-- one letter or more, and the first begins no comment
abbrev pub is_word : List ℕ → Bool
is_word [] = false
is_word (byte ∷ bytes) = not (eqb byte 35) && list_all is_letter (byte ∷ bytes)

-- a byte of a line of words
abbrev pub is_spaced : ℕ → Bool
is_spaced byte = leb 32 byte && leb byte 126

pub letters_of : (w : List ℕ) → is_word w ≡ true → list_all is_letter w ≡ true
letters_of [] h = absurd (cc h)
letters_of (b ∷ bs) h = (and_parts (not (eqb b 35)) (list_all is_letter (b ∷ bs)) h).1

high : (b : ℕ) → is_letter b ≡ true → 33 ≤ b
high b h = leb-true 33 b (and_parts (leb 33 b) (leb b 126) h).0

no_blank : (b : ℕ) → 33 ≤ b → is_blank b ≡ false
no_blank b h = simp (ne_eqb b 32 (λ e. omega (arith, h, e)), ne_eqb b 9 (λ e. omega (arith, h, e)))

letter_no_blank : (b : ℕ) → is_letter b ≡ true → is_blank b ≡ false
letter_no_blank b h = no_blank b (high b h)

letter_spaced : (b : ℕ) → is_letter b ≡ true → is_spaced b ≡ true
letter_spaced b h = and_from (leb 32 b) (leb b 126) (le-leb 32 b (omega (arith, high b h))) (and_parts (leb 33 b) (leb b 126) h).1

letters_spaced : (bs : List ℕ) → list_all is_letter bs ≡ true → list_all is_spaced bs ≡ true
letters_spaced [] h = refl
letters_spaced (b ∷ bs) h =
    let parts = and_parts (is_letter b) (list_all is_letter bs) h in
    and_from (is_spaced b) (list_all is_spaced bs) (letter_spaced b parts.0) (letters_spaced bs parts.1)

-- a run that a blank ends, and one that the text ends
run_before : (b : ℕ) (bs rest : List ℕ) → list_all is_letter (b ∷ bs) ≡ true →
    runs_of (b ∷ bs ++ 32 ∷ rest) ≡ (b ∷ bs) ∷ runs_of rest
run_before b [] rest h = cond-false (is_blank b) _ _ (letter_no_blank b (and_parts (is_letter b) true h).0)
run_before b (c ∷ bs) rest h =
    let parts = and_parts (is_letter b) (list_all is_letter (c ∷ bs)) h in
    cond-false (is_blank b) _ _ (letter_no_blank b parts.0)
    ∙ cond-false (is_blank c) _ _ (letter_no_blank c (and_parts (is_letter c) (list_all is_letter bs) parts.1).0)
    ∙ ap (with_byte b) (run_before c bs rest parts.1)

run_alone : (b : ℕ) (bs : List ℕ) → list_all is_letter (b ∷ bs) ≡ true → runs_of (b ∷ bs) ≡ (b ∷ bs) ∷ []
run_alone b [] h = cond-false (is_blank b) _ _ (letter_no_blank b (and_parts (is_letter b) true h).0)
run_alone b (c ∷ bs) h =
    let parts = and_parts (is_letter b) (list_all is_letter (c ∷ bs)) h in
    cond-false (is_blank b) _ _ (letter_no_blank b parts.0)
    ∙ cond-false (is_blank c) _ _ (letter_no_blank c (and_parts (is_letter c) (list_all is_letter bs) parts.1).0)
    ∙ ap (with_byte b) (run_alone c bs parts.1)

abbrev are_words : List (List ℕ) → Bool
are_words words = list_all is_word words

runs_again : (words : List (List ℕ)) → are_words words ≡ true → runs_of (spaced words) ≡ words
runs_again [] h = refl
runs_again ([] ∷ words) h = absurd (cc h)
runs_again ((b ∷ bs) ∷ []) h = run_alone b bs (letters_of (b ∷ bs) (and_parts (is_word (b ∷ bs)) true h).0)
runs_again ((b ∷ bs) ∷ next ∷ words) h =
    let parts = and_parts (is_word (b ∷ bs)) (are_words (next ∷ words)) h in
    run_before b bs (spaced (next ∷ words)) (letters_of (b ∷ bs) parts.0)
    ∙ ap (λ ws. (b ∷ bs) ∷ ws) (runs_again (next ∷ words) parts.1)

no_comments : (words : List (List ℕ)) → are_words words ≡ true → before_comment words ≡ words
no_comments [] h = refl
no_comments ([] ∷ words) h = absurd (cc h)
no_comments ((b ∷ bs) ∷ words) h =
    let parts = and_parts (is_word (b ∷ bs)) (are_words words) h in
    let other = not-true (eqb b 35) (and_parts (not (eqb b 35)) (list_all is_letter (b ∷ bs)) parts.0).0 in
    cond-false (eqb b 35) _ _ other ∙ ap (λ ws. (b ∷ bs) ∷ ws) (no_comments words parts.1)

-- the words of a line are found in it
pub words_again : (words : List (List ℕ)) → list_all is_word words ≡ true → words_of (spaced words) ≡ words
words_again words h = ap before_comment (runs_again words h) ∙ no_comments words h

-- the bytes of a line
pub line_spaced : (words : List (List ℕ)) → list_all is_word words ≡ true → list_all is_spaced (spaced words) ≡ true
line_spaced [] h = refl
line_spaced (word ∷ []) h = letters_spaced word (letters_of word (and_parts (is_word word) true h).0)
line_spaced (word ∷ next ∷ words) h =
    let parts = and_parts (is_word word) (are_words (next ∷ words)) h in
    list_all-append is_spaced word (32 ∷ spaced (next ∷ words))
    ∙ and_from (list_all is_spaced word) (list_all is_spaced (32 ∷ spaced (next ∷ words)))
    (letters_spaced word (letters_of word parts.0)) (line_spaced (next ∷ words) parts.1)

spaced_allowed : (b : ℕ) → is_spaced b ≡ true → is_allowed b ≡ true
spaced_allowed b h = or_right (eqb b 10 || eqb b 9) (leb 32 b && leb b 126) h

pub line_allowed : (bytes : List ℕ) → list_all is_spaced bytes ≡ true → list_all is_allowed bytes ≡ true
line_allowed [] h = refl
line_allowed (b ∷ bs) h =
    let parts = and_parts (is_spaced b) (list_all is_spaced bs) h in
    and_from (is_allowed b) (list_all is_allowed bs) (spaced_allowed b parts.0) (line_allowed bs parts.1)

spaced_no_feed : (b : ℕ) → is_spaced b ≡ true → is_line_feed b ≡ false
spaced_no_feed b h =
    let high = leb-true 32 b (and_parts (leb 32 b) (leb b 126) h).0 in
    ne_eqb b 10 (λ e. omega (arith, high, e))

line_before : (bytes rest : List ℕ) → list_all is_spaced bytes ≡ true → lines_of (bytes ++ 10 ∷ rest) ≡ bytes ∷ lines_of rest
line_before [] rest h = refl
line_before (b ∷ bs) rest h =
    let parts = and_parts (is_spaced b) (list_all is_spaced bs) h in
    cond-false (is_line_feed b) _ _ (spaced_no_feed b parts.0) ∙ ap (with_byte b) (line_before bs rest parts.1)

-- lines are found in the text that they make
pub lines_again : (lines : List (List ℕ)) → list_all (list_all is_spaced) lines ≡ true → lines_of (flat_map line lines) ≡ lines
lines_again [] h = refl
lines_again (bytes ∷ lines) h =
    let parts = and_parts (list_all is_spaced bytes) (list_all (list_all is_spaced) lines) h in
    ap lines_of (append_assoc bytes (10 ∷ []) (flat_map line lines))
    ∙ line_before bytes (flat_map line lines) parts.0
    ∙ ap (λ ls. bytes ∷ ls) (lines_again lines parts.1)
