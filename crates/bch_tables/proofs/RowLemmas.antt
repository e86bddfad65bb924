-- Each row of tables that pass their test is the remainder that it stands for: eight steps of
-- multiplication by x from a row of the table before.
use Rattle.std.proofs.Common.{◌≡◌, ℕ, zero, suc, ◌+◌, ◌-◌, ◌*◌, ◌^◌, ◌<◌, ◌≤◌, refl, sym, ap, ap₂, ◌∙◌, arith, List, [], ◌∷◌, length, get_or, map, true, false, Bool, cond}
use Rattle.std.specs.Prelude.{nat_eq}
use Rattle.std.proofs.lemmas.Bool.Decides.{nat_tests}
use Rattle.std.proofs.lemmas.Nat.{pow-add, pow_pos}
use Rattle.std.proofs.lemmas.List.{get_or-map}
use Rattle.std.proofs.Math.Nat.{pow-suc, mul-le-mul_right, mul-lt-mul_of_pos_right}
use Rattle.code_model.specs.Binary.{product, remainder, reduced, shifted, IsPrimitive}
use Rattle.code_model.specs.Generator.{minimal_of, generator_of}
use Rattle.code_model.proofs.BinaryLemmas.{remainder-small, remainder-lt}
use Rattle.code_model.proofs.RootLemmas.{generator-degree}
use Rattle.bch_register.proofs.RegisterLemmas.{reduced-remainder, remainder-shifted, below_twice}
use Rattle.gf2_poly.proofs.DegreeLemmas.{has_degree}
use Rattle.bch_tables.specs.Rows.{aligned, halves, AreRows, AreWideRows}
use Rattle.bch_tables.specs.Tests.{generators_pass, modulus, rows_pass, tables_pass, top_bytes, groups_pass}

-- ---- steps of multiplication by x
double_shift : (a n : ℕ) → 2 * a * 2 ^ n ≡ a * 2 ^ suc n
double_shift a n = let e = pow-suc 2 n in let t : 2 * a * 2 ^ n ≡ a * (2 ^ n * 2) = omega arith in t ∙ ap (λ x. a * x) (sym e)

shifted-remainder : (w f n a : ℕ) → 2 ^ w ≤ f → f < 2 * 2 ^ w → a < 2 ^ w → shifted w f n a ≡ remainder w f (a * 2 ^ n)
unfolding shifted
shifted-remainder w f zero a lo hi h = let e : a * 2 ^ 0 ≡ a = omega arith in sym (ap (remainder w f) e ∙ remainder-small w f a h)
shifted-remainder w f (suc n) a lo hi h =
    let one : reduced w f (2 * a) ≡ remainder w f (2 * a) = ap (λ x. reduced w f (2 * x)) (sym (remainder-small w f a h)) ∙ reduced-remainder w f a in
    ap (shifted w f n) one
    ∙ shifted-remainder w f n (remainder w f (2 * a)) lo hi (remainder-lt w f (2 * a) lo hi)
    ∙ remainder-shifted w f (2 * a) n lo hi
    ∙ ap (remainder w f) (double_shift a n)

byte_low : (v k : ℕ) → k < 256 → k * 2 ^ v < 2 ^ (v + 8)
byte_low v k h =
    let p : 2 ^ (v + 8) ≡ 2 ^ v * 2 ^ 8 = pow-add 2 v 8 in
    let m : k * 2 ^ v < 256 * 2 ^ v = mul-lt-mul_of_pos_right h (pow_pos v) in
    omega arith

-- ---- the test of the tables, where v is the number that a row holds
pub cond_parts : (s r : Bool) → cond s r false ≡ true → (s ≡ true) × (r ≡ true)
cond_parts true r t = (refl, t)
cond_parts false r t = cc

pub same_from_eq : (x a : ℕ) → nat_eq x a ≡ true → x ≡ a
same_from_eq x a e = grind (arith, nat_tests)

row_from_pass : {A : Type 0} (v : A → ℕ) (w f i : ℕ) (d : A) (earlier : List ℕ) (rows : List A) → rows_pass v w f earlier rows ≡ true → i < length rows
    → v (get_or rows i d) ≡ shifted w f 8 (get_or earlier i 0)
unfolding rows_pass
row_from_pass v w f i d earlier [] p h = absurd (omega arith)
row_from_pass v w f i d [] (r ∷ rs) p h = cc
row_from_pass v w f zero d (a ∷ earlier) (r ∷ rs) p h =
    same_from_eq _ _ (cond_parts (nat_eq (v r) (shifted w f 8 a)) (rows_pass v w f earlier rs) p).0
row_from_pass v w f (suc i) d (a ∷ earlier) (r ∷ rs) p h =
    row_from_pass v w f i d earlier rs (cond_parts (nat_eq (v r) (shifted w f 8 a)) (rows_pass v w f earlier rs) p).1 (omega arith)

get_or-top_bytes : (w k n i : ℕ) → i < n → get_or (top_bytes w k n) i 0 ≡ (k + i) * 2 ^ (w - 8)
unfolding top_bytes
get_or-top_bytes w k zero i h = absurd (omega arith)
get_or-top_bytes w k (suc n) zero h = let e : k ≡ k + 0 = omega arith in ap (λ x. x * 2 ^ (w - 8)) e
get_or-top_bytes w k (suc n) (suc i) h = let e : suc k + i ≡ k + suc i = omega arith in get_or-top_bytes w (suc k) n i (omega arith) ∙ ap (λ x. x * 2 ^ (w - 8)) e

-- the parts of a passed test of tables
tables_parts : {A : Type 0} (v : A → ℕ) (w f : ℕ) (earlier : List ℕ) (rows : List A) (tables : List (List A)) → tables_pass v w f earlier (rows ∷ tables) ≡ true
    → (rows_pass v w f earlier rows ≡ true) × (length rows ≡ 256) × (tables_pass v w f (map v rows) tables ≡ true)
unfolding tables_pass
tables_parts v w f earlier rows tables p =
    let one = cond_parts (rows_pass v w f earlier rows) (cond (nat_eq (length rows) 256) (tables_pass v w f (map v rows) tables) false) p in
    let two = cond_parts (nat_eq (length rows) 256) (tables_pass v w f (map v rows) tables) one.1 in
    (one.0, same_from_eq _ _ two.0, two.1)

-- row k of table j is 8 (j + 1) steps further than number k of the list
row_of_table : {A : Type 0} (v : A → ℕ) (w f j k a : ℕ) (d : A) (earlier : List ℕ) (tables : List (List A)) → 2 ^ w ≤ f → f < 2 * 2 ^ w
    → tables_pass v w f earlier tables ≡ true → j < length tables → k < 256 → a < 2 ^ w → get_or earlier k 0 ≡ a
    → v (get_or (get_or tables j []) k d) ≡ remainder w f (a * 2 ^ (8 + 8 * j))
row_of_table v w f j k a d earlier [] lo hi p h small low e = absurd (omega arith)
row_of_table v w f zero k a d earlier (rows ∷ tables) lo hi p h small low e =
    let parts = tables_parts v w f earlier rows tables p in
    let len = parts.1 in
    row_from_pass v w f k d earlier rows parts.0 (omega arith) ∙ ap (shifted w f 8) e ∙ shifted-remainder w f 8 a lo hi low
row_of_table v w f (suc j) k a d earlier (rows ∷ tables) lo hi p h small low e =
    let parts = tables_parts v w f earlier rows tables p in
    let len = parts.1 in
    let here : v (get_or rows k d) ≡ remainder w f (a * 2 ^ 8) = row_from_pass v w f k d earlier rows parts.0 (omega arith) ∙ ap (shifted w f 8) e ∙ shifted-remainder w f 8 a lo hi low in
    let next : get_or (map v rows) k 0 ≡ remainder w f (a * 2 ^ 8) = get_or-map v rows k d 0 (omega arith) ∙ here in
    let up : a * 2 ^ 8 * 2 ^ (8 + 8 * j) ≡ a * 2 ^ (8 + 8 * suc j) =
    (let q : 8 + 8 * suc j ≡ 8 + (8 + 8 * j) = omega arith in
    let m : a * 2 ^ 8 * 2 ^ (8 + 8 * j) ≡ a * (2 ^ 8 * 2 ^ (8 + 8 * j)) = omega arith in
    m ∙ ap (λ x. a * x) (sym (pow-add 2 8 (8 + 8 * j)) ∙ ap (λ i. 2 ^ i) (sym q))) in
    row_of_table v w f j k (remainder w f (a * 2 ^ 8)) d (map v rows) tables lo hi parts.2 (omega arith) small (remainder-lt w f (a * 2 ^ 8) lo hi) next
    ∙ remainder-shifted w f (a * 2 ^ 8) (8 + 8 * j) lo hi ∙ ap (remainder w f) up

group_from_pass : {A : Type 0} (v : A → ℕ) (w : ℕ) (f : ℕ → ℕ) (t i : ℕ) (groups : List (List (List A))) → groups_pass v w f t groups ≡ true → i < length groups
    → (tables_pass v w (f (t + i)) (top_bytes w 0 256) (get_or groups i []) ≡ true) × (length (get_or groups i []) ≡ 4)
unfolding groups_pass
group_from_pass v w f t i [] p h = absurd (omega arith)
group_from_pass v w f t zero (tables ∷ groups) p h =
    let e : t + 0 ≡ t = omega arith in
    let one = cond_parts (tables_pass v w (f t) (top_bytes w 0 256) tables) (cond (nat_eq (length tables) 4) (groups_pass v w f (suc t) groups) false) p in
    let two = cond_parts (nat_eq (length tables) 4) (groups_pass v w f (suc t) groups) one.1 in
    (ap (λ n. tables_pass v w (f n) (top_bytes w 0 256) tables) e ∙ one.0, same_from_eq _ _ two.0)
group_from_pass v w f t (suc i) (tables ∷ groups) p h =
    let e : t + suc i ≡ suc t + i = omega arith in
    let one = cond_parts (tables_pass v w (f t) (top_bytes w 0 256) tables) (cond (nat_eq (length tables) 4) (groups_pass v w f (suc t) groups) false) p in
    let two = cond_parts (nat_eq (length tables) 4) (groups_pass v w f (suc t) groups) one.1 in
    let rest = group_from_pass v w f (suc t) i groups two.1 (omega arith) in
    (ap (λ n. tables_pass v w (f n) (top_bytes w 0 256) (get_or groups i [])) e ∙ rest.0, rest.1)

-- ---- the moduli
generator_from_pass : (m f t i g : ℕ) (xs : List ℕ) → generators_pass m f t g xs ≡ true → g ≡ generator_of m f t → i < length xs → get_or xs i 0 ≡ generator_of m f (suc (t + i))
unfolding generators_pass generator_of
generator_from_pass m f t i g [] p e h = absurd (omega arith)
generator_from_pass m f t zero g (x ∷ xs) p e h =
    let z : suc t ≡ suc (t + 0) = omega arith in
    same_from_eq _ _ (cond_parts (nat_eq x (product g (minimal_of m f (2 * t + 1)))) (generators_pass m f (suc t) x xs) p).0
    ∙ ap (λ h. product h (minimal_of m f (2 * t + 1))) e ∙ ap (generator_of m f) z
generator_from_pass m f t (suc i) g (x ∷ xs) p e h =
    let z : suc (suc t + i) ≡ suc (t + suc i) = omega arith in
    let parts = cond_parts (nat_eq x (product g (minimal_of m f (2 * t + 1)))) (generators_pass m f (suc t) x xs) p in
    generator_from_pass m f (suc t) i x xs parts.1 (same_from_eq _ _ parts.0 ∙ ap (λ h. product h (minimal_of m f (2 * t + 1))) e) (omega arith)
    ∙ ap (generator_of m f) z

-- number t - 1 of a list of generators that passes its test
pub generator_is : (m f t : ℕ) (generators : List ℕ) → generators_pass m f 0 1 generators ≡ true → 0 < t → t ≤ length generators → get_or generators (t - 1) 0 ≡ generator_of m f t
unfolding generator_of
generator_is m f t generators pass pos few =
    let e : suc (0 + (t - 1)) ≡ t = omega arith in
    generator_from_pass m f 0 (t - 1) 1 generators pass refl (omega arith) ∙ ap (generator_of m f) e

modulus-aligned : (m f w t : ℕ) (generators : List ℕ) → generators_pass m f 0 1 generators ≡ true → 0 < t → t ≤ length generators → modulus m generators w t ≡ aligned m f w t
unfolding modulus
modulus-aligned m f w t generators pass pos few = ap (λ g. g * 2 ^ (w - m * t)) (generator_is m f t generators pass pos few)

-- the moved-up generator has the register's width
pub aligned-degree : (m f : ℕ) → IsPrimitive m f → (w t : ℕ) → m * t ≤ w → (2 ^ w ≤ aligned m f w t) × (aligned m f w t < 2 * 2 ^ w)
aligned-degree m f p w t room =
    let d = m * t in
    let s = w - m * t in
    let g = generator_of m f t in
    let h = has_degree d g (generator-degree m f p t) in
    let e : d + s ≡ w = omega arith in
    let p : 2 ^ w ≡ 2 ^ d * 2 ^ s = ap (λ i. 2 ^ i) (sym e) ∙ pow-add 2 d s in
    let lo : 2 ^ d * 2 ^ s ≤ g * 2 ^ s = mul-le-mul_right (2 ^ s) h.0 in
    let hi : g * 2 ^ s < 2 * 2 ^ d * 2 ^ s = mul-lt-mul_of_pos_right (below_twice d g h.1) (pow_pos s) in
    let q : 2 * 2 ^ d * 2 ^ s ≡ 2 * (2 ^ d * 2 ^ s) = omega arith in
    (omega arith, omega arith)

-- ---- what the rows hold
module _ (m f : ℕ) (p : IsPrimitive m f) (generators : List ℕ) (passed : generators_pass m f 0 1 generators ≡ true) where
  -- where groups of tables from the one for `from` wrong bits on pass their test
  rows_from_pass : {A : Type 0} (v : A → ℕ) (u t from i j k : ℕ) (d : A) (groups : List (List (List A))) → groups_pass v (u + 8) (modulus m generators (u + 8)) from groups ≡ true
      → from + i ≡ t → 0 < t → t ≤ length generators → m * t ≤ u + 8 → i < length groups → j < 4 → k < 256
      → v (get_or (get_or (get_or groups i []) j []) k d) ≡ remainder (u + 8) (aligned m f (u + 8) t) (k * 2 ^ (u + 8 + 8 * j))
  rows_from_pass v u t from i j k d groups pass e pos few room inside table small =
      let w = u + 8 in
      let g = aligned m f w t in
      let here : w - 8 ≡ u = omega arith in
      let z : 0 + k ≡ k = omega arith in
      let deg = aligned-degree m f p w t room in
      let group = group_from_pass v w (modulus m generators w) from i groups pass inside in
      let len = group.1 in
      let same : modulus m generators w (from + i) ≡ g = ap (modulus m generators w) e ∙ modulus-aligned m f w t generators passed pos few in
      let test : tables_pass v w g (top_bytes w 0 256) (get_or groups i []) ≡ true = ap (λ n. tables_pass v w n (top_bytes w 0 256) (get_or groups i [])) (sym same) ∙ group.0 in
      let first : get_or (top_bytes w 0 256) k 0 ≡ k * 2 ^ u = get_or-top_bytes w 0 256 k small ∙ ap₂ (λ n i. n * 2 ^ i) z here in
      let up : k * 2 ^ u * 2 ^ (8 + 8 * j) ≡ k * 2 ^ (u + 8 + 8 * j) =
      (let q : u + (8 + 8 * j) ≡ u + 8 + 8 * j = omega arith in
      let x : k * 2 ^ u * 2 ^ (8 + 8 * j) ≡ k * (2 ^ u * 2 ^ (8 + 8 * j)) = omega arith in
      x ∙ ap (λ y. k * y) (sym (pow-add 2 u (8 + 8 * j)) ∙ ap (λ i. 2 ^ i) q)) in
      row_of_table v w g j k (k * 2 ^ u) d (top_bytes w 0 256) (get_or groups i []) deg.0 deg.1 test (omega arith) small (byte_low u k small) first
      ∙ ap (remainder w g) up

  pub are_rows : (u t from : ℕ) (groups : List (List (List ℕ))) → groups_pass (λ n. n) (u + 8) (modulus m generators (u + 8)) from groups ≡ true
      → 0 < from → from ≤ t → t < from + length groups → t ≤ length generators → m * t ≤ u + 8 → AreRows (u + 8) (aligned m f (u + 8) t) (get_or groups (t - from) [])
  are_rows u t from groups pass pos low inside few room =
      let deg = aligned-degree m f p (u + 8) t room in
      record {
        low = deg.0;
        high = deg.1;
        rows = λ j k h small. rows_from_pass (λ n. n) u t from (t - from) j k 0 groups pass (omega arith) (omega arith) few room (omega arith) h small;
      }

  pub are_wide_rows : (u t from : ℕ) (groups : List (List (List (List ℕ)))) → groups_pass halves (u + 8) (modulus m generators (u + 8)) from groups ≡ true
      → 0 < from → from ≤ t → t < from + length groups → t ≤ length generators → m * t ≤ u + 8 → AreWideRows (u + 8) (aligned m f (u + 8) t) (get_or groups (t - from) [])
  are_wide_rows u t from groups pass pos low inside few room =
      let deg = aligned-degree m f p (u + 8) t room in
      record {
        low = deg.0;
        high = deg.1;
        rows = λ j k h small. rows_from_pass halves u t from (t - from) j k [] groups pass (omega arith) (omega arith) few room (omega arith) h small;
      }
