-- Tests of tables, which are computed.
use Rattle.std.specs.Prelude.{ℕ, zero, suc, ◌+◌, ◌-◌, ◌*◌, ◌^◌, List, [], ◌∷◌, length, map, slice_index, true, false, Bool, cond, nat_eq}
use Rattle.code_model.specs.Binary.{product, reduced, shifted}
use Rattle.code_model.specs.Generator.{minimal_of}

-- each entry is the product of the one before by x; the first is a
unfoldable pub powers_pass : ℕ → ℕ → ℕ → List ℕ → Bool
powers_pass m f a [] = true
powers_pass m f a (x ∷ xs) = let rest = powers_pass m f (reduced m f (2 * a)) xs in cond (nat_eq x a) rest false

-- from the generator g for t wrong bits on, each number is the next generator
unfoldable pub generators_pass : ℕ → ℕ → ℕ → ℕ → List ℕ → Bool
generators_pass m f t g [] = true
generators_pass m f t g (x ∷ xs) =
    let rest = generators_pass m f (suc t) x xs in cond (nat_eq x (product g (minimal_of m f (2 * t + 1)))) rest false

-- the generator for t wrong bits, out of a list of all from t = 1 on, moved up to degree w
unfoldable pub modulus : ℕ → List ℕ → ℕ → ℕ → ℕ
modulus m generators w t = slice_index generators (t - 1) * 2 ^ (w - m * t)

-- each row, whose number is v of it, is eight steps further than a number of the list
unfoldable pub rows_pass : {A : Type 0} → (A → ℕ) → ℕ → ℕ → List ℕ → List A → Bool
rows_pass v w f earlier [] = true
rows_pass v w f [] (r ∷ rs) = false
rows_pass v w f (a ∷ earlier) (r ∷ rs) =
    let rest = rows_pass v w f earlier rs in cond (nat_eq (v r) (shifted w f 8 a)) rest false

-- each table is eight steps further than the one before, and has 256 rows
unfoldable pub tables_pass : {A : Type 0} → (A → ℕ) → ℕ → ℕ → List ℕ → List (List A) → Bool
tables_pass v w f earlier [] = true
tables_pass v w f earlier (rows ∷ tables) =
    let rest = tables_pass v w f (map v rows) tables in
    let more = cond (nat_eq (length rows) 256) rest false in
    cond (rows_pass v w f earlier rows) more false

-- n bytes from k on, at the top of a register
unfoldable pub top_bytes : ℕ → ℕ → ℕ → List ℕ
top_bytes w k zero = []
top_bytes w k (suc n) = k * 2 ^ (w - 8) ∷ top_bytes w (suc k) n

-- group i is that of the modulus f (t + i), and has four tables
unfoldable pub groups_pass : {A : Type 0} → (A → ℕ) → ℕ → (ℕ → ℕ) → ℕ → List (List (List A)) → Bool
groups_pass v w f t [] = true
groups_pass v w f t (tables ∷ groups) =
    let rest = groups_pass v w f (suc t) groups in
    let more = cond (nat_eq (length tables) 4) rest false in
    cond (tables_pass v w (f t) (top_bytes w 0 256) tables) more false
