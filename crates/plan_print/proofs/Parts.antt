-- A text that grows by one part after the other.
use Rattle.std.proofs.Common.{◌≡◌, ◌∙◌, ℕ, List, [], ◌∷◌, ◌++◌, length, ap, refl, sym, append_assoc}
use Rattle.std.specs.Prelude.{flat_map, map, decimal, codes}
use Rattle.std.proofs.lemmas.List.{append-nil}
use Rattle.std.proofs.lemmas.List.Concat.{flat_map-append}
use Rattle.hex.specs.Hex.{encode_lower, encode_with}
use Rattle.report_model.specs.Report.{line, spaced}
use Rattle.plan_grammar.specs.Canonical.{decimals, joined, schedule_lines}
use Rattle.plan_print.specs.Lines.{behind_blanks, line_of, text_of}

-- the text of a list is the texts of its items
pub record IsJoined {A : Type 0} (one : A → List ℕ) (all : List A → List ℕ) : Type 0 where
  pub none : all [] ≡ []
  pub some : (x : A) (xs : List A) → all (x ∷ xs) ≡ one x ++ all xs

-- words behind blanks
pub words_behind : {A : Type 0} (word : A → List ℕ) →
    IsJoined (λ x. 32 ∷ word x) (λ xs. behind_blanks (map word xs))
words_behind word = record { none = refl; some = λ x xs. refl }

pub numbers_behind : IsJoined (λ n. 32 ∷ decimal n) (λ ns. behind_blanks (decimals ns))
numbers_behind = words_behind decimal

-- one line for each item
pub one_line : {A : Type 0} (words : A → List (List ℕ)) →
    IsJoined (λ x. line_of (words x)) (λ xs. text_of (map words xs))
one_line words = record { none = refl; some = λ x xs. refl }

-- some lines for each item
pub some_lines : {A : Type 0} (lines : A → List (List (List ℕ))) →
    IsJoined (λ x. text_of (lines x)) (λ xs. text_of (flat_map lines xs))
some_lines lines = record {
  none = refl;
  some = λ x xs. flat_map-append line_of (lines x) (flat_map lines xs);
}

-- the digits of each byte
pub digits : IsJoined (λ b. encode_lower (b ∷ [])) (λ bs. encode_lower bs)
unfolding encode_with
digits = record { none = refl; some = λ b bs. refl }

-- the texts behind the first, each with the separator before it
pub behind_separators : {A : Type 0} (separator : ℕ) (text : A → List ℕ) →
    IsJoined (λ x. separator ∷ text x) (λ xs. flat_map (λ x. separator ∷ text x) xs)
behind_separators separator text = record { none = refl; some = λ x xs. refl }

pub joined-cons : {A : Type 0} (separator : ℕ) (text : A → List ℕ) (x : A) (xs : List A) →
    joined separator (map text (x ∷ xs)) ≡ text x ++ flat_map (λ y. separator ∷ text y) xs
joined-cons separator text x [] = sym (append-nil (text x))
joined-cons separator text x (y ∷ ys) =
    ap (λ (rest : List ℕ). text x ++ separator ∷ rest) (joined-cons separator text y ys)

-- an item is appended
pub goes_on : {A : Type 0} {one : A → List ℕ} {all : List A → List ℕ} → IsJoined one all →
    (whole out more : List ℕ) (rest : List A) (x : A) (others : List A) → out ++ all rest ≡ whole →
    rest ≡ x ∷ others → more ≡ out ++ one x → more ++ all others ≡ whole
goes_on {A} {one} {all} parts whole out more rest x others so_far next put =
    ap (λ (text : List ℕ). text ++ all others) put ∙ append_assoc out (one x) (all others)
    ∙ sym (ap (λ (text : List ℕ). out ++ text) (ap all next ∙ parts.some x others)) ∙ so_far

-- no item is left
pub ends : {A : Type 0} {one : A → List ℕ} {all : List A → List ℕ} → IsJoined one all →
    (whole out : List ℕ) (rest : List A) → out ++ all rest ≡ whole → rest ≡ [] → out ≡ whole
ends {A} {one} {all} parts whole out rest so_far none =
    sym (append-nil out) ∙ sym (ap (λ (text : List ℕ). out ++ text) (ap all none ∙ parts.none)) ∙ so_far

-- a line's words: the first, and the others behind blanks
pub spaced_is : (word : List ℕ) (words : List (List ℕ)) → spaced (word ∷ words) ≡ word ++ behind_blanks words
spaced_is word [] = sym (append-nil word)
spaced_is word (next ∷ words) = ap (λ (rest : List ℕ). word ++ 32 ∷ rest) (spaced_is next words)

pub behind_append : (words others : List (List ℕ)) →
    behind_blanks (words ++ others) ≡ behind_blanks words ++ behind_blanks others
behind_append words others = flat_map-append (λ (word : List ℕ). 32 ∷ word) words others

pub text_append : (lines others : List (List (List ℕ))) → text_of (lines ++ others) ≡ text_of lines ++ text_of others
text_append lines others = flat_map-append line_of lines others

-- lines of texts are lines of words
pub canonical_is : (lines : List (List (List ℕ))) → flat_map line (map spaced lines) ≡ text_of lines
canonical_is [] = refl
canonical_is (words ∷ lines) = ap (λ (text : List ℕ). line_of words ++ text) (canonical_is lines)

-- two texts behind each other
pub then_text : (start middle whole one two : List ℕ) → middle ≡ start ++ one → whole ≡ middle ++ two →
    whole ≡ start ++ (one ++ two)
then_text start middle whole one two e f =
    f ∙ ap (λ (text : List ℕ). text ++ two) e ∙ append_assoc start one two

-- the first word, and the others behind blanks
pub words_put : (start first_out whole first : List ℕ) (words : List (List ℕ)) → first_out ≡ start ++ first →
    whole ≡ first_out ++ behind_blanks words → whole ≡ start ++ spaced (first ∷ words)
words_put start first_out whole first words e f =
    then_text start first_out whole first (behind_blanks words) e f
    ∙ ap (λ (text : List ℕ). start ++ text) (sym (spaced_is first words))

-- the same of a line
pub line_put : (start first_out most first : List ℕ) (words : List (List ℕ)) → first_out ≡ start ++ first →
    most ≡ first_out ++ behind_blanks words → most ++ 10 ∷ [] ≡ start ++ line_of (first ∷ words)
line_put start first_out most first words e f =
    ap (λ (text : List ℕ). text ++ 10 ∷ []) (words_put start first_out most first words e f)
    ∙ append_assoc start (spaced (first ∷ words)) (10 ∷ [])

-- words behind words
pub then_words : (start middle whole : List ℕ) (words others : List (List ℕ)) →
    middle ≡ start ++ behind_blanks words → whole ≡ middle ++ behind_blanks others →
    whole ≡ start ++ behind_blanks (words ++ others)
then_words start middle whole words others e f =
    then_text start middle whole (behind_blanks words) (behind_blanks others) e f
    ∙ ap (λ (text : List ℕ). start ++ text) (sym (behind_append words others))

-- one word behind words
pub then_word : (start middle : List ℕ) (words : List (List ℕ)) (word : List ℕ) →
    middle ≡ start ++ behind_blanks words → middle ++ 32 ∷ word ≡ start ++ behind_blanks (words ++ word ∷ [])
then_word start middle words word e =
    then_words start middle (middle ++ 32 ∷ word) words (word ∷ []) e
    (ap (λ (text : List ℕ). middle ++ text) (sym (append-nil (32 ∷ word))))

-- lines behind lines
pub then_lines : (start middle whole : List ℕ) (lines others : List (List (List ℕ))) →
    middle ≡ start ++ text_of lines → whole ≡ middle ++ text_of others → whole ≡ start ++ text_of (lines ++ others)
then_lines start middle whole lines others e f =
    then_text start middle whole (text_of lines) (text_of others) e f
    ∙ ap (λ (text : List ℕ). start ++ text) (sym (text_append lines others))

-- texts with separators between them
pub joined_put : {A : Type 0} (separator : ℕ) (text : A → List ℕ) (start first_out whole : List ℕ) (x : A)
    (others items : List A) → first_out ≡ start ++ text x →
    whole ≡ first_out ++ flat_map (λ y. separator ∷ text y) others → items ≡ x ∷ others →
    whole ≡ start ++ joined separator (map text items)
joined_put separator text start first_out whole x others items e f g =
    then_text start first_out whole (text x) (flat_map (λ y. separator ∷ text y) others) e f
    ∙ ap (λ (t : List ℕ). start ++ t) (sym (joined-cons separator text x others)
    ∙ ap (λ ys. joined separator (map text ys)) (sym g))

-- the line of a schedule that has numbers
pub schedule_put : (start first_out most : List ℕ) (numbers : List ℕ) → (length numbers ≡ 0 → ⊥) →
    first_out ≡ start ++ codes "schedule" → most ≡ first_out ++ behind_blanks (decimals numbers) →
    most ++ 10 ∷ [] ≡ start ++ text_of (schedule_lines numbers)
schedule_put start first_out most [] some e f = absurd (some refl)
schedule_put start first_out most (n ∷ ns) some e f =
    line_put start first_out most (codes "schedule") (decimals (n ∷ ns)) e f
    ∙ ap (λ (text : List ℕ). start ++ text) (sym (append-nil (line_of (codes "schedule" ∷ decimals (n ∷ ns)))))
