-- Runs of equal rows, one run after the other.
use Rattle.std.proofs.Common.{◌≡◌, ℕ, zero, suc, ◌+◌, ◌-◌, ◌*◌, ◌/◌, ◌<◌, ◌≤◌, Bool, true, false, List, [], ◌∷◌, ◌++◌, length, take, drop, refl, ap, sym, ◌∙◌, subst, arith}
use Rattle.std.specs.Prelude.{bytes_eq, if◌then◌else◌}
use Rattle.std.proofs.lemmas.Slice.Eq.{bytes_eq-Decides}
use Rattle.std.proofs.lemmas.List.{drop-drop, length-drop}
use Rattle.report_model.specs.Report.{RowRun, add_row, runs_from, rows_of, rows_in}

-- how many rows at the front equal this one
unfoldable pub leading : List ℕ → List (List ℕ) → ℕ
leading row [] = 0
leading row (next ∷ rows) = if bytes_eq row next then suc (leading row rows) else 0

add_row-equal : (at : ℕ) (row : List ℕ) (run : RowRun) (runs : List RowRun) → bytes_eq row run.row ≡ true
    → add_row at row (run ∷ runs) ≡ record { at = at; count = run.count + 1; row = row } ∷ runs
add_row-equal at row run runs same = rw same refl

add_row-other : (at : ℕ) (row : List ℕ) (run : RowRun) (runs : List RowRun) → bytes_eq row run.row ≡ false
    → add_row at row (run ∷ runs) ≡ record { at = at; count = 1; row = row } ∷ run ∷ runs
add_row-other at row run runs other = rw other refl

pub leading-equal : (row next : List ℕ) (rows : List (List ℕ)) → bytes_eq row next ≡ true → leading row (next ∷ rows) ≡ suc (leading row rows)
unfolding leading
leading-equal row next rows same = rw same refl

pub leading-other : (row next : List ℕ) (rows : List (List ℕ)) → bytes_eq row next ≡ false → leading row (next ∷ rows) ≡ 0
unfolding leading
leading-other row next rows other = rw other refl

-- the runs of some rows: the rows at the front that equal the first, and then the runs of the
-- others
abbrev pub RunsFromLeading : List (List ℕ) → ℕ → List ℕ → ℕ → Type 0
RunsFromLeading rows at row n =
    runs_from at (row ∷ rows) ≡ record { at = at; count = n + 1; row = row } ∷ runs_from (at + (n + 1)) (drop n rows)

next_equal : (rows : List (List ℕ)) (at : ℕ) (row next : List ℕ) → bytes_eq row next ≡ true
    → RunsFromLeading rows (at + 1) next (leading next rows) → RunsFromLeading (next ∷ rows) at row (leading row (next ∷ rows))
next_equal rows at row next same later =
    let e : row ≡ next = (bytes_eq-Decides row next).0 same in
    let count : leading row rows ≡ leading next rows = ap (λ r. leading r rows) e in
    let place : at + 1 + (leading next rows + 1) ≡ at + (suc (leading row rows) + 1) = let c = count in omega (arith, c) in
    let number : leading next rows + 1 + 1 ≡ suc (leading row rows) + 1 = let c = count in omega (arith, c) in
    rw (leading-equal row next rows same) (
    ap (add_row at row) later
    ∙ add_row-equal at row (record { at = at + 1; count = leading next rows + 1; row = next }) _ same
    ∙ ap (λ n. record { at = at; count = n; row = row } ∷ runs_from (at + 1 + (leading next rows + 1)) (drop (leading next rows) rows)) number
    ∙ ap (λ n. record { at = at; count = suc (leading row rows) + 1; row = row } ∷ runs_from n (drop (leading next rows) rows)) place
    ∙ ap (λ n. record { at = at; count = suc (leading row rows) + 1; row = row } ∷ runs_from (at + (suc (leading row rows) + 1)) (drop n rows)) (sym count))

next_other : (rows : List (List ℕ)) (at : ℕ) (row next : List ℕ) → bytes_eq row next ≡ false
    → RunsFromLeading rows (at + 1) next (leading next rows) → RunsFromLeading (next ∷ rows) at row (leading row (next ∷ rows))
next_other rows at row next other later =
    rw (leading-other row next rows other) (
    ap (add_row at row) later
    ∙ add_row-other at row (record { at = at + 1; count = leading next rows + 1; row = next }) _ other
    ∙ ap (λ runs. record { at = at; count = 1; row = row } ∷ runs) (sym later))

pub runs_from-leading : (rows : List (List ℕ)) (at : ℕ) (row : List ℕ) → RunsFromLeading rows at row (leading row rows)
unfolding leading
runs_from-leading [] at row = refl
runs_from-leading (next ∷ rows) at row = by_test (runs_from-leading rows (at + 1) next) (bytes_eq row next) refl
  where
    by_test : RunsFromLeading rows (at + 1) next (leading next rows) → (b : Bool) → bytes_eq row next ≡ b → RunsFromLeading (next ∷ rows) at row (leading row (next ∷ rows))
    by_test later true same = next_equal rows at row next same later
    by_test later false other = next_other rows at row next other later

count_first : (n : ℕ) → 0 < n → (n + 31) / 32 ≡ suc ((n - 32 + 31) / 32)
count_first n some = omega arith

-- bytes that are not empty have a first row, and then the rows of the others
pub rows_in-first : (bytes : List ℕ) → 0 < length bytes → rows_in bytes ≡ take 32 bytes ∷ rows_in (drop 32 bytes)
rows_in-first bytes some =
    ap (λ k. rows_of k bytes) (count_first (length bytes) some)
    ∙ ap (λ n. take 32 bytes ∷ rows_of ((n + 31) / 32) (drop 32 bytes)) (sym (length-drop 32 bytes))

-- the rows after the first n
pub drop-rows_of : (n k : ℕ) (bytes : List ℕ) → drop n (rows_of k bytes) ≡ rows_of (k - n) (drop (32 * n) bytes)
drop-rows_of zero k bytes = let e : k ≡ k - 0 = omega arith in ap (λ m. rows_of m bytes) e
drop-rows_of (suc n) zero bytes = let e : 0 ≡ 0 - suc n = omega arith in ap (λ m. rows_of m (drop (32 * suc n) bytes)) e
drop-rows_of (suc n) (suc k) bytes =
    let less : k - n ≡ suc k - suc n = omega arith in
    let more : 32 + 32 * n ≡ 32 * suc n = omega arith in
    drop-rows_of n k (drop 32 bytes)
    ∙ ap (λ m. rows_of m (drop (32 * n) (drop 32 bytes))) less
    ∙ ap (rows_of (suc k - suc n)) (drop-drop (32 * n) 32 bytes)
    ∙ ap (λ m. rows_of (suc k - suc n) (drop m bytes)) more

count_later : (n more : ℕ) → (n + 31) / 32 - more ≡ (n - 32 * more + 31) / 32
count_later n more = omega arith

-- the rows of the bytes after n rows
pub rows_in-drop : (n : ℕ) (bytes : List ℕ) → drop n (rows_in bytes) ≡ rows_in (drop (32 * n) bytes)
rows_in-drop n bytes =
    drop-rows_of n ((length bytes + 31) / 32) bytes
    ∙ ap (λ m. rows_of m (drop (32 * n) bytes)) (count_later (length bytes) n)
    ∙ ap (λ m. rows_of ((m + 31) / 32) (drop (32 * n) bytes)) (sym (length-drop (32 * n) bytes))

pub leading-le : (row : List ℕ) (rows : List (List ℕ)) → leading row rows ≤ length rows
unfolding leading
leading-le row [] = omega arith
leading-le row (next ∷ rows) = by_test (leading-le row rows) (bytes_eq row next)
  where
    by_test : leading row rows ≤ length rows → (b : Bool) → (if b then suc (leading row rows) else 0) ≤ suc (length rows)
    by_test later true = let l = later in omega (arith, l)
    by_test later false = omega arith

length-rows_of : (n : ℕ) (bytes : List ℕ) → length (rows_of n bytes) ≡ n
length-rows_of zero bytes = refl
length-rows_of (suc n) bytes = ap suc (length-rows_of n (drop 32 bytes))

pub length-rows_in : (bytes : List ℕ) → length (rows_in bytes) ≡ (length bytes + 31) / 32
length-rows_in bytes = length-rows_of ((length bytes + 31) / 32) bytes
