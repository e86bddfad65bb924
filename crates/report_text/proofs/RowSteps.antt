-- One row, and one run of rows, more.
use Rattle.std.proofs.Common.{◌≡◌, ◌≢◌, ℕ, suc, ◌+◌, ◌*◌, ◌/◌, ◌<◌, ◌≤◌, inl, inr, Bool, true, false, List, [], ◌++◌, length, take, drop, refl, ap, sym, ◌∙◌, arith, append_assoc, append-nil}
use Rattle.std.specs.Prelude.{min, bytes_eq, flat_map, ◌==◌}
use Rattle.std.proofs.lemmas.Bool.{eqb-true}
use Rattle.std.proofs.lemmas.Bool.Decides.{leb_tells, eqb_tells}
use Rattle.std.proofs.lemmas.Slice.Eq.{bytes_eq-Decides}
use Rattle.std.proofs.lemmas.List.{drop-drop, take-append-drop}
use Rattle.std.proofs.Math.Nat.{min-eq_left, min-eq_right, le_of_lt}
use Rattle.std.proofs.Math.Seq.{take-length, drop-length}
use Rattle.std.proofs.Math.ListN.{drop_of_length-le}
use Rattle.report_model.specs.Report.{rows_of, rows_in, runs_text, row_line}
use Rattle.report_model.proofs.RowLemmas.{leading, leading-equal, leading-other, runs_from-leading, rows_in-first, rows_in-drop}

take_all : (n : ℕ) (xs : List ℕ) → length xs ≤ n → take n xs ≡ xs
take_all n xs short = sym (append-nil (take n xs)) ∙ ap (λ d. take n xs ++ d) (sym (drop_of_length-le xs short)) ∙ take-append-drop n xs

pub take-min : (n : ℕ) (xs : List ℕ) → take (min (length xs) n) xs ≡ take n xs
take-min n xs =
    elim (leb_tells n (length xs)) [
      | inl low ↦ ap (λ m. take m xs) (min-eq_right low.1)
      | inr high ↦ ap (λ m. take m xs) (min-eq_left (le_of_lt high.1)) ∙ take-length xs ∙ sym (take_all n xs (le_of_lt high.1))
    ]

pub drop-min : (n : ℕ) (xs : List ℕ) → drop (min (length xs) n) xs ≡ drop n xs
drop-min n xs =
    elim (leb_tells n (length xs)) [
      | inl low ↦ ap (λ m. drop m xs) (min-eq_right low.1)
      | inr high ↦ ap (λ m. drop m xs) (min-eq_left (le_of_lt high.1)) ∙ drop-length xs ∙ sym (drop_of_length-le xs (le_of_lt high.1))
    ]

pub drop-rows : (n : ℕ) (xs : List ℕ) → drop 32 (drop (32 * n) xs) ≡ drop (32 * (n + 1)) xs
drop-rows n xs =
    let more : 32 * n + 32 ≡ 32 * (n + 1) = omega arith in drop-drop 32 (32 * n) xs ∙ ap (λ m. drop m xs) more

rows_in-empty : (bytes : List ℕ) → length bytes ≡ 0 → rows_in bytes ≡ []
rows_in-empty bytes none = ap (λ n. rows_of ((n + 31) / 32) bytes) none

-- at the end of the bytes no row is left
pub leading-end : (row rest : List ℕ) → length rest ≡ 0 → leading row (rows_in rest) ≡ 0
unfolding leading
leading-end row rest none = ap (leading row) (rows_in-empty rest none)

-- one more row is equal
pub leading-next : (row rest next later : List ℕ) → 0 < length rest → next ≡ take 32 rest → later ≡ drop 32 rest → next ≡ row
    → leading row (rows_in rest) ≡ suc (leading row (rows_in later))
leading-next row rest next later some is_next is_later same =
    ap (leading row) (rows_in-first rest some)
    ∙ leading-equal row (take 32 rest) (rows_in (drop 32 rest)) ((bytes_eq-Decides row (take 32 rest)).1 (sym same ∙ is_next))
    ∙ ap (λ xs. suc (leading row (rows_in xs))) (sym is_later)

false_from : (b : Bool) → (b ≡ true → ⊥) → b ≡ false
false_from true denied = absurd (denied refl)
false_from false _ = refl

pub apart : false ≡ true → ⊥
apart e = cc

-- what a test of a length for 0 says
pub some_from : (b : Bool) (n : ℕ) → b ≡ (n == 0) → b ≡ false → 0 < n
some_from b n test denied = elim (eqb_tells n 0) [
  | inl zeros ↦ absurd (apart (sym denied ∙ test ∙ zeros.0))
  | inr others ↦ let e =
      others.1 in omega (arith, e)
]

pub none_from : (b : Bool) (n : ℕ) → b ≡ (n == 0) → b ≡ true → n ≡ 0
none_from b n test holds = eqb-true n 0 (sym test ∙ holds)

-- the next row is another
pub leading-stop : (row rest next : List ℕ) → 0 < length rest → next ≡ take 32 rest → next ≢ row → leading row (rows_in rest) ≡ 0
leading-stop row rest next some is_next other =
    ap (leading row) (rows_in-first rest some)
    ∙ leading-other row (take 32 rest) (rows_in (drop 32 rest))
    (false_from (bytes_eq row (take 32 rest)) (λ same. other (is_next ∙ sym ((bytes_eq-Decides row (take 32 rest)).0 same))))

-- the first run of rows, and then the others
runs_text-first : (at : ℕ) (rest : List ℕ) → 0 < length rest
    → runs_text at (rows_in rest)
    ≡ row_line (record { at = at; count = leading (take 32 rest) (rows_in (drop 32 rest)) + 1; row = take 32 rest })
    ++ runs_text (at + (leading (take 32 rest) (rows_in (drop 32 rest)) + 1))
    (rows_in (drop (32 * leading (take 32 rest) (rows_in (drop 32 rest))) (drop 32 rest)))
runs_text-first at rest some =
    let n = leading (take 32 rest) (rows_in (drop 32 rest)) in
    ap (runs_text at) (rows_in-first rest some)
    ∙ ap (flat_map row_line) (runs_from-leading (rows_in (drop 32 rest)) at (take 32 rest))
    ∙ ap (λ rows. row_line (record { at = at; count = n + 1; row = take 32 rest }) ++ runs_text (at + (n + 1)) rows) (rows_in-drop n (drop 32 rest))

-- the same, where row, later bytes, number of equal rows and what is left go by other names
runs_text-named : (at more : ℕ) (rest row later skipped : List ℕ) → 0 < length rest → row ≡ take 32 rest → later ≡ drop 32 rest
    → more ≡ leading row (rows_in later) → skipped ≡ drop (32 * more) later
    → runs_text at (rows_in rest) ≡ row_line (record { at = at; count = more + 1; row = row }) ++ runs_text (at + (more + 1)) (rows_in skipped)
runs_text-named at more rest row later skipped some is_row is_later is_more is_skipped =
    let n = leading (take 32 rest) (rows_in (drop 32 rest)) in
    let same : more ≡ n = is_more ∙ ap (λ r. leading r (rows_in later)) is_row ∙ ap (λ l. leading (take 32 rest) (rows_in l)) is_later in
    let left : skipped ≡ drop (32 * n) (drop 32 rest) = is_skipped ∙ ap (λ m. drop (32 * m) later) same ∙ ap (drop (32 * n)) is_later in
    runs_text-first at rest some
    ∙ ap (λ m. row_line (record { at = at; count = m + 1; row = take 32 rest }) ++ runs_text (at + (m + 1)) (rows_in (drop (32 * n) (drop 32 rest))))
    (sym same)
    ∙ ap (λ r. row_line (record { at = at; count = more + 1; row = r }) ++ runs_text (at + (more + 1)) (rows_in (drop (32 * n) (drop 32 rest)))) (sym is_row)
    ∙ ap (λ s. row_line (record { at = at; count = more + 1; row = row }) ++ runs_text (at + (more + 1)) (rows_in s)) (sym left)

-- a run is printed, and the others make the same text as before
pub runs_printed : (out printed text : List ℕ) (at more : ℕ) (rest row later skipped : List ℕ) → 0 < length rest → row ≡ take 32 rest → later ≡ drop 32 rest
    → more ≡ leading row (rows_in later) → skipped ≡ drop (32 * more) later
    → printed ≡ out ++ row_line (record { at = at; count = more + 1; row = row })
    → out ++ runs_text at (rows_in rest) ≡ text → printed ++ runs_text (at + (more + 1)) (rows_in skipped) ≡ text
runs_printed out printed text at more rest row later skipped some is_row is_later is_more is_skipped is_printed whole =
    ap (λ p. p ++ runs_text (at + (more + 1)) (rows_in skipped)) is_printed
    ∙ append_assoc out (row_line (record { at = at; count = more + 1; row = row })) _
    ∙ ap (λ t. out ++ t) (sym (runs_text-named at more rest row later skipped some is_row is_later is_more is_skipped))
    ∙ whole

-- at the end nothing is left to print
pub runs_ended : (out text : List ℕ) (at : ℕ) (rest : List ℕ) → length rest ≡ 0 → out ++ runs_text at (rows_in rest) ≡ text → out ≡ text
runs_ended out text at rest none whole =
    sym (append-nil out) ∙ sym (ap (λ rows. out ++ runs_text at rows) (rows_in-empty rest none)) ∙ whole
