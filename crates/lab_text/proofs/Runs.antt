-- The first word of a line, and the words after it.
use Rattle.std.proofs.lemmas.List.{drop-drop, drop_more, get_or-drop, length-drop}
use Rattle.std.proofs.lemmas.List.Sums.{prefix_len_stops}
use Rattle.std.specs.Prelude.{◌==◌, slice_range}
use Rattle.std.proofs.Common.{◌≡◌, ◌∙◌, ℕ, suc, ◌+◌, ◌-◌, ◌<◌, true, false, List, [], ◌∷◌, length, take, drop, get_or, sym, ap, refl, subst, arith, ⊎_elim}
use Rattle.std.proofs.lemmas.Bool.{cases_Bool, cond-true, cond-false, not_from_true, not_from_false}
use Rattle.lab_text.specs.Text.{is_blank, blank_length, word_length, with_byte, runs_of, words_of, before_comment, begins_comment}

one_more : (n : ℕ) → 1 + n ≡ suc n
one_more n = omega arith

-- blanks at the front are passed over
pub runs-skip : (bytes : List ℕ) → runs_of bytes ≡ runs_of (drop (blank_length bytes) bytes)
runs-skip [] = refl
runs-skip (b ∷ bs) = ⊎_elim
    (λ h. cond-true _ _ _ h ∙ runs-skip bs
    ∙ sym (ap (λ n. runs_of (drop n (b ∷ bs))) (cond-true _ (1 + blank_length bs) 0 h
    ∙ one_more (blank_length bs))))
    (λ h. sym (ap (λ n. runs_of (drop n (b ∷ bs))) (cond-false _ (1 + blank_length bs) 0 h)))
    (cases_Bool (is_blank b))

-- the length of a word that goes on, and of one that ends
longer : (b : ℕ) (bs : List ℕ) → is_blank b ≡ false → word_length (b ∷ bs) ≡ suc (word_length bs)
longer b bs h = cond-true _ (1 + word_length bs) 0 (not_from_false _ h) ∙ one_more (word_length bs)

ended : (b : ℕ) (bs : List ℕ) → is_blank b ≡ true → word_length (b ∷ bs) ≡ 0
ended b bs h = cond-false _ (1 + word_length bs) 0 (not_from_true _ h)

-- the word with this length, and the runs after it
split : List ℕ → ℕ → List (List ℕ)
split bytes n = take n bytes ∷ runs_of (drop n bytes)

-- a byte that is no blank begins a word
pub runs-word : (b : ℕ) (bs : List ℕ) → is_blank b ≡ false →
    runs_of (b ∷ bs) ≡ take (word_length (b ∷ bs)) (b ∷ bs) ∷ runs_of (drop (word_length (b ∷ bs)) (b ∷ bs))
runs-word b [] h =
    cond-false _ _ _ h ∙ sym (ap (λ n. take n (b ∷ []) ∷ runs_of (drop n (b ∷ []))) (longer b [] h))
runs-word b (c ∷ cs) h = ⊎_elim
    (λ k. cond-false _ _ _ h ∙ cond-true _ _ _ k
    ∙ sym (ap (λ n. take n (b ∷ c ∷ cs) ∷ runs_of (drop n (b ∷ c ∷ cs))) (longer b (c ∷ cs) h ∙ ap suc (ended c cs k))))
    (λ k. cond-false _ _ _ h ∙ cond-false _ _ _ k ∙ ap (with_byte b) (runs-word c cs k)
    ∙ sym (ap (λ n. take n (b ∷ c ∷ cs) ∷ runs_of (drop n (b ∷ c ∷ cs))) (longer b (c ∷ cs) h)))
    (cases_Bool (is_blank c))

-- a line's words from the first byte on that is no blank
pub words_after_blanks : (line : List ℕ) (from start : ℕ) → start ≡ from + blank_length (drop from line) →
    words_of (drop from line) ≡ words_of (drop start line)
words_after_blanks line from start e =
    ap before_comment (runs-skip (drop from line))
    ∙ ap words_of (drop-drop (blank_length (drop from line)) from line ∙ ap (λ n. drop n line) (sym e))

-- the byte after the blanks is none
pub letter_after_blanks : (line : List ℕ) (from start : ℕ) → start ≡ from + blank_length (drop from line) →
    start < length line → is_blank (get_or line start 0) ≡ false
letter_after_blanks line from start e h =
    let rest : List ℕ = drop from line in
    let within : blank_length rest < length rest = omega (arith, length-drop from line, e, h) in
    ap (λ n. is_blank (get_or line n 0)) e ∙ sym (ap is_blank (get_or-drop from line (blank_length rest) 0))
    ∙ prefix_len_stops is_blank rest 0 within

-- a line that begins with a comment
no_words : (b : ℕ) (bs : List ℕ) → b ≡ 35 → words_of (b ∷ bs) ≡ []
no_words b bs e =
    let letter : is_blank b ≡ false = subst (λ (n : ℕ). is_blank n ≡ false) (sym e) refl in
    let comment : begins_comment (b ∷ take (word_length bs) bs) ≡ true = subst (λ (n : ℕ). begins_comment (n
    ∷ take (word_length bs) bs) ≡ true) (sym e) refl in
    ap before_comment (runs-word b bs letter)
    ∙ ap (λ n. before_comment (take n (b ∷ bs) ∷ runs_of (drop n (b ∷ bs)))) (longer b bs letter)
    ∙ cond-true _ _ _ comment

-- a line that begins with a word
first_word : (b : ℕ) (bs : List ℕ) → is_blank b ≡ false → (b == 35) ≡ false
    → words_of (b ∷ bs) ≡ take (word_length (b ∷ bs)) (b ∷ bs) ∷ words_of (drop (word_length (b ∷ bs)) (b ∷ bs))
first_word b bs letter other =
    let n : ℕ = word_length (b ∷ bs) in
    let e : n ≡ suc (word_length bs) = longer b bs letter in
    let begins : begins_comment (take n (b ∷ bs)) ≡ false = ap (λ k. begins_comment (take k (b ∷ bs))) e ∙ other in
    ap before_comment (runs-word b bs letter) ∙ cond-false _ _ _ begins

pub no_words_at : (line : List ℕ) (start : ℕ) → start < length line → get_or line start 0 ≡ 35 →
    words_of (drop start line) ≡ []
no_words_at line start h e = ap words_of (drop_more line start 0 h)
    ∙ no_words (get_or line start 0) (drop (start + 1) line) e

pub word_at : (line : List ℕ) (start end : ℕ) → start < length line → is_blank (get_or line start 0) ≡ false →
    (get_or line start 0 == 35) ≡ false
    → end ≡ start + word_length (drop start line) →
    words_of (drop start line) ≡ slice_range line start end ∷ words_of (drop end line)
word_at line start end h letter other e =
    let b : ℕ = get_or line start 0 in
    let bs : List ℕ = drop (start + 1) line in
    let n : ℕ = word_length (drop start line) in
    let split_line : drop start line ≡ b ∷ bs = drop_more line start 0 h in
    let first : words_of (drop start line) ≡ take n (drop start line) ∷ words_of (drop n (drop start line))
    = subst (λ (xs : List ℕ). words_of xs ≡ take (word_length xs) xs
    ∷ words_of (drop (word_length xs) xs)) (sym split_line) (first_word b bs letter other) in
    let size : n ≡ end - start = omega (arith, e) in
    first ∙ ap (λ k. take k (drop start line) ∷ words_of (drop n (drop start line))) size
    ∙ ap (λ xs. slice_range line start end ∷ words_of xs) (drop-drop n start line ∙ ap (λ k. drop k line) (sym e))
