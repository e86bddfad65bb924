-- The bytes of a table on flash.
use Rattle.std.proofs.Common.{◌≡◌, ◌<◌, ℕ, zero, suc, ◌+◌, ◌*◌, ◌/◌, ◌%◌, Bool, true, false, ◌==◌, if◌then◌else◌, List, [], ◌∷◌, ◌++◌, length, map, refl, ap, ap₂, ◌∙◌, arith}
use Rattle.std.specs.Prelude.{flat_map, All}
use Rattle.std.proofs.lemmas.List.Elements.{All-append}
use Rattle.nand_model.specs.Table.{packed_bytes, entries_of, written_code, state_read, table_bytes, states_in, read_again}

by_tests : (a b : Bool) → (if a then 2 else (if b then 0 else 3)) < 4
by_tests true b = omega arith
by_tests false true = omega arith
by_tests false false = omega arith

small_code : (s : ℕ) → written_code s < 4
small_code s = by_tests (s == 1) (s == 3)

entries : (a b c d : ℕ) → a < 4 → b < 4 → c < 4 → d < 4 → entries_of (a + 4 * b + 16 * c + 64 * d) ≡ a ∷ b ∷ c ∷ d ∷ []
entries a b c d ha hb hc hd =
    let e0 : (a + 4 * b + 16 * c + 64 * d) % 4 ≡ a = omega arith in
    let e1 : (a + 4 * b + 16 * c + 64 * d) / 4 % 4 ≡ b = omega arith in
    let e2 : (a + 4 * b + 16 * c + 64 * d) / 16 % 4 ≡ c = omega arith in
    let e3 : (a + 4 * b + 16 * c + 64 * d) / 64 % 4 ≡ d = omega arith in
    ap₂ (λ x y. x ∷ y) e0 (ap₂ (λ x y. x ∷ y) e1 (ap₂ (λ x y. x ∷ y) e2 (ap (λ x. x ∷ []) e3)))

-- a table of whole bytes comes back as it does state by state
pub table_back : (n : ℕ) (states : List ℕ) → length states ≡ 4 * n → states_in (table_bytes states) ≡ read_again states
table_back n [] h = refl
table_back zero (a ∷ states) h = absurd (omega (arith, h))
table_back (suc n) (a ∷ []) h = absurd (omega (arith, h))
table_back (suc n) (a ∷ b ∷ []) h = absurd (omega (arith, h))
table_back (suc n) (a ∷ b ∷ c ∷ []) h = absurd (omega (arith, h))
table_back (suc n) (a ∷ b ∷ c ∷ d ∷ states) h =
    ap (λ es. map state_read (es ++ flat_map entries_of (packed_bytes (map written_code states))))
    (entries (written_code a) (written_code b) (written_code c) (written_code d) (small_code a) (small_code b) (small_code c) (small_code d))
    ∙ ap (λ l. state_read (written_code a) ∷ state_read (written_code b) ∷ state_read (written_code c) ∷ state_read (written_code d) ∷ l) (table_back n states (omega (arith, h)))

pub length-table : (n : ℕ) (states : List ℕ) → length states ≡ 4 * n → length (table_bytes states) ≡ n
length-table zero [] h = refl
length-table (suc n) [] h = absurd (omega (arith, h))
length-table zero (a ∷ states) h = absurd (omega (arith, h))
length-table (suc n) (a ∷ []) h = absurd (omega (arith, h))
length-table (suc n) (a ∷ b ∷ []) h = absurd (omega (arith, h))
length-table (suc n) (a ∷ b ∷ c ∷ []) h = absurd (omega (arith, h))
length-table (suc n) (a ∷ b ∷ c ∷ d ∷ states) h = ap suc (length-table n states (omega (arith, h)))

one_byte : (x : ℕ) → x < 256 → All (λ byte. byte < 256) (x ∷ [])
one_byte x h zero d l = h
one_byte x h (suc k) d l = absurd (omega (arith, l))

pub no_bytes : All (λ byte. byte < 256) []
no_bytes k d l = absurd (omega (arith, l))

pub byte_before : (x : ℕ) (xs : List ℕ) → x < 256 → All (λ byte. byte < 256) xs → All (λ byte. byte < 256) (x ∷ xs)
byte_before x xs h rest = All-append (λ byte. byte < 256) (x ∷ []) xs (one_byte x h) rest

pub table-bytes : (states : List ℕ) → All (λ byte. byte < 256) (table_bytes states)
table-bytes [] = no_bytes
table-bytes (a ∷ []) = no_bytes
table-bytes (a ∷ b ∷ []) = no_bytes
table-bytes (a ∷ b ∷ c ∷ []) = no_bytes
table-bytes (a ∷ b ∷ c ∷ d ∷ states) =
    let ha = small_code a in let hb = small_code b in let hc = small_code c in let hd = small_code d in
    byte_before _ (packed_bytes (map written_code states)) (omega (arith, ha, hb, hc, hd)) (table-bytes states)
