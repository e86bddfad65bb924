-- The list of bad blocks, one block more.
use Rattle.std.proofs.Common.{◌≡◌, ℕ, ◌+◌, Bool, true, false, List, [], ◌∷◌, ◌++◌, ◌<◌, ◌≤◌, length, drop, get_or, refl, ap, sym, ◌∙◌, append_assoc, append-nil}
use Rattle.std.proofs.lemmas.List.{drop_more}
use Rattle.std.proofs.Math.ListN.{drop_of_length-le}
use Rattle.std.specs.Prelude.{flat_map, codes, decimal, ◌||◌, ◌==◌, if◌then◌else◌}
use Rattle.report_model.specs.Report.{bad_entries, joined_by_commas}
use Rattle.report_text.specs.Printing.{comma, entry_text, any_after}

-- words, each after a comma
abbrev pub with_commas : List (List ℕ) → List ℕ
with_commas words = flat_map (λ word. 44 ∷ word) words

joined_by_commas-cons : (word : List ℕ) (words : List (List ℕ)) → joined_by_commas (word ∷ words) ≡ word ++ with_commas words
joined_by_commas-cons word [] = sym (append-nil word)
joined_by_commas-cons word (next ∷ words) = ap (λ t. word ++ 44 ∷ t) (joined_by_commas-cons next words)

-- words that are still to print, after others or not
abbrev pub words_text : Bool → List (List ℕ) → List ℕ
words_text false words = joined_by_commas words
words_text true words = with_commas words

-- what is still to print of the blocks from `block` on
abbrev pub rest_text : Bool → ℕ → List ℕ → List ℕ
rest_text any block states = words_text any (bad_entries block states)

-- one entry, by the tests of its state
abbrev pub OneMore : Bool → Bool → Bool → List ℕ → List (List ℕ) → Type 0
OneMore any worn factory number later =
    words_text any ((if worn then (number ++ codes "w") ∷ [] else (if factory then (number ++ codes "f") ∷ [] else [])) ++ later)
    ≡ (if worn then comma any ++ number ++ codes "w" else (if factory then comma any ++ number ++ codes "f" else []))
    ++ words_text (any || (worn || factory)) later

one_more : (any worn factory : Bool) (number : List ℕ) (later : List (List ℕ)) → OneMore any worn factory number later
one_more false true factory number later = joined_by_commas-cons (number ++ codes "w") later
one_more false false true number later = joined_by_commas-cons (number ++ codes "f") later
one_more false false false number later = refl
one_more true true factory number later = refl
one_more true false true number later = refl
one_more true false false number later = refl

-- the list from a block on begins with that block's entry
pub rest_text-cons : (any : Bool) (block state : ℕ) (states : List ℕ)
    → rest_text any block (state ∷ states) ≡ entry_text any block state ++ rest_text (any_after any state) (block + 1) states
rest_text-cons any block state states = one_more any (state == 1) (state == 3) (decimal block) (bad_entries (block + 1) states)

-- a block is printed, and the others make the same text as before
pub block_printed : (out printed text : List ℕ) (any now : Bool) (block : ℕ) (states : List ℕ) → block < length states
    → printed ≡ out ++ entry_text any block (get_or states block 0) → now ≡ any_after any (get_or states block 0)
    → out ++ rest_text any block (drop block states) ≡ text → printed ++ rest_text now (block + 1) (drop (block + 1) states) ≡ text
block_printed out printed text any now block states within is_printed is_now whole =
    let state = get_or states block 0 in
    ap (λ p. p ++ rest_text now (block + 1) (drop (block + 1) states)) is_printed
    ∙ ap (λ b. out ++ entry_text any block state ++ rest_text b (block + 1) (drop (block + 1) states)) is_now
    ∙ append_assoc out (entry_text any block state) _
    ∙ ap (λ t. out ++ t) (sym (ap (rest_text any block) (drop_more states block 0 within) ∙ rest_text-cons any block state (drop (block + 1) states)))
    ∙ whole

-- at the end nothing is left to print where a block was printed
pub blocks_ended : (out text : List ℕ) (any : Bool) (block : ℕ) (states : List ℕ) → length states ≤ block → any ≡ true
    → out ++ rest_text any block (drop block states) ≡ text → out ≡ text
blocks_ended out text any block states past some whole =
    sym (append-nil out)
    ∙ sym (ap (λ b. out ++ rest_text b block (drop block states)) some ∙ ap (λ s. out ++ rest_text true block s) (drop_of_length-le states past))
    ∙ whole
