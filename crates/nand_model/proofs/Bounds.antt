-- What the test of a geometry says of its numbers.
use Rattle.std.proofs.Common.{◌≡◌, ℕ, ◌+◌, ◌*◌, ◌%◌, ◌≤◌, ◌⊎◌, inl, inr, Bool, true, false, arith, refl}
use Rattle.std.specs.Prelude.{◌&&◌, ◌||◌, not, ◌==◌, nat_le}
use Rattle.std.proofs.lemmas.Bool.{and_parts, and_from, leb-true, le-leb, eqb-true}
use Rattle.std.proofs.lemmas.Bool.Decides.{eqb_tells}
use Rattle.code_model.specs.Code.{code_512, parity_len}
use Rattle.nand_model.specs.declared.geometry.Geometry.{Geometry}
use Rattle.nand_model.specs.Layout.{steps_in, has_page_size, has_block_count, has_sizes, has_room, IsGeometry, threshold_in_force}

pub or_parts : (x y : Bool) → (x || y) ≡ true → (x ≡ true) ⊎ (y ≡ true)
or_parts true y h = inl refl
or_parts false y h = inr h

-- the bounds of a chip's numbers
pub record Bounds (page spare pages_per_block blocks t bbt threshold : ℕ) : Type 0 where
  pub pages : ((page ≡ 2048) × (spare ≡ 64)) ⊎ (((page ≡ 4096) × (spare ≡ 128)) ⊎ ((page ≡ 4096) × (spare ≡ 224)))
  pub block : (pages_per_block ≡ 64) ⊎ (pages_per_block ≡ 128)
  pub blocks_low : 8 ≤ blocks
  pub blocks_high : blocks ≤ 4096
  pub blocks_even : blocks % 4 ≡ 0
  pub t_low : 1 ≤ t
  pub t_high : t ≤ 16
  pub bbt_high : bbt ≤ 2
  pub threshold_high : threshold ≤ t
  pub threshold_low : 1 ≤ threshold
  pub room : steps_in (code_512 t) page * parity_len (code_512 t) + 2 ≤ spare

pair : (a b c d : ℕ) → ((a == b) && (c == d)) ≡ true → (a ≡ b) × (c ≡ d)
pair a b c d h = let p = and_parts (a == b) (c == d) h in (eqb-true a b p.0, eqb-true c d p.1)

page_sizes : (page spare : ℕ) → has_page_size page spare ≡ true → ((page ≡ 2048) × (spare ≡ 64)) ⊎ (((page ≡ 4096) × (spare ≡ 128)) ⊎ ((page ≡ 4096) × (spare ≡ 224)))
page_sizes page spare h =
    elim (or_parts (((page == 2048) && (spare == 64)) || ((page == 4096) && (spare == 128))) ((page == 4096) && (spare == 224)) h) [
      | inl first ↦ elim (or_parts ((page == 2048) && (spare == 64)) ((page == 4096) && (spare == 128)) first) [
        | inl a ↦ inl (pair page 2048 spare 64 a)
        | inr b ↦ inr (inl (pair page 4096 spare 128 b))
      ]
      | inr c ↦ inr (inr (pair page 4096 spare 224 c))
    ]

block_sizes : (n : ℕ) → ((n == 64) || (n == 128)) ≡ true → (n ≡ 64) ⊎ (n ≡ 128)
block_sizes n h =
    elim (or_parts (n == 64) (n == 128) h) [ inl a ↦ inl (eqb-true n 64 a) | inr b ↦ inr (eqb-true n 128 b) ]

-- the numbers of a geometry are within their bounds
pub bounds_of : (page spare pages_per_block blocks t bbt threshold : ℕ) → IsGeometry page spare pages_per_block blocks t bbt threshold
    → Bounds page spare pages_per_block blocks t bbt threshold
bounds_of page spare n blocks t bbt threshold h =
    let all = and_parts (has_sizes page spare n blocks t bbt threshold && has_room (code_512 t) page spare bbt) (nat_le 1 threshold) h in
    let sizes_room = and_parts (has_sizes page spare n blocks t bbt threshold) (has_room (code_512 t) page spare bbt) all.0 in
    let five = and_parts (has_page_size page spare && ((n == 64) || (n == 128)) && has_block_count blocks && (nat_le 1 t && nat_le t 16) && nat_le bbt 2) (nat_le threshold t) sizes_room.0 in
    let four = and_parts (has_page_size page spare && ((n == 64) || (n == 128)) && has_block_count blocks && (nat_le 1 t && nat_le t 16)) (nat_le bbt 2) five.0 in
    let three = and_parts (has_page_size page spare && ((n == 64) || (n == 128)) && has_block_count blocks) (nat_le 1 t && nat_le t 16) four.0 in
    let two = and_parts (has_page_size page spare && ((n == 64) || (n == 128))) (has_block_count blocks) three.0 in
    let one = and_parts (has_page_size page spare) ((n == 64) || (n == 128)) two.0 in
    let count = and_parts (nat_le 8 blocks && nat_le blocks 4096) (blocks % 4 == 0) two.1 in
    let range = and_parts (nat_le 8 blocks) (nat_le blocks 4096) count.0 in
    let strength = and_parts (nat_le 1 t) (nat_le t 16) three.1 in
    let room = and_parts (nat_le (steps_in (code_512 t) page * parity_len (code_512 t) + 2) spare) (not (bbt == 1) || nat_le (steps_in (code_512 t) page * parity_len (code_512 t) + 13) spare) sizes_room.1 in
    record {
      pages = page_sizes page spare one.0;
      block = block_sizes n one.1;
      blocks_low = leb-true 8 blocks range.0;
      blocks_high = leb-true blocks 4096 range.1;
      blocks_even = eqb-true (blocks % 4) 0 count.1;
      t_low = leb-true 1 t strength.0;
      t_high = leb-true t 16 strength.1;
      bbt_high = leb-true bbt 2 four.1;
      threshold_high = leb-true threshold t five.1;
      threshold_low = leb-true 1 threshold all.1;
      room = leb-true _ spare room.0;
    }

-- a threshold in force is from 1 to the code's strength
pub threshold_in_force-le : (t threshold : ℕ) → 1 ≤ t → threshold ≤ t → (1 ≤ threshold_in_force t threshold) × (threshold_in_force t threshold ≤ t)
threshold_in_force-le t threshold h k =
    elim (eqb_tells threshold 0) [
      | inl zeros ↦ rw zeros.0 (omega arith, omega arith)
      | inr others ↦ rw others.0 (omega arith, omega arith)
    ]

-- sizes that fit and have room make a geometry with the threshold in force
pub geometry_made : (page spare n blocks t bbt threshold : ℕ) → has_sizes page spare n blocks t bbt threshold ≡ true → has_room (code_512 t) page spare bbt ≡ true
    → IsGeometry page spare n blocks t bbt (threshold_in_force t threshold)
geometry_made page spare n blocks t bbt threshold sizes room =
    let five = and_parts (has_page_size page spare && ((n == 64) || (n == 128)) && has_block_count blocks && (nat_le 1 t && nat_le t 16) && nat_le bbt 2) (nat_le threshold t) sizes in
    let four = and_parts (has_page_size page spare && ((n == 64) || (n == 128)) && has_block_count blocks && (nat_le 1 t && nat_le t 16)) (nat_le bbt 2) five.0 in
    let three = and_parts (has_page_size page spare && ((n == 64) || (n == 128)) && has_block_count blocks) (nat_le 1 t && nat_le t 16) four.0 in
    let strength = and_parts (nat_le 1 t) (nat_le t 16) three.1 in
    let in_force = threshold_in_force-le t threshold (leb-true 1 t strength.0) (leb-true threshold t five.1) in
    and_from _ _ (and_from _ _ (and_from _ _ five.0 (le-leb _ t in_force.1)) room) (le-leb 1 _ in_force.0)

-- the bounds that each geometry keeps
pub bounds : (g : Geometry) → Bounds g.page g.spare g.pages_per_block g.blocks g.t g.bbt g.threshold
bounds g = bounds_of g.page g.spare g.pages_per_block g.blocks g.t g.bbt g.threshold g.in_bounds

-- the pages of a block and the bytes of a page
pub pages-some : (g : Geometry) → 1 ≤ g.pages_per_block
pages-some g = elim (bounds g).block [ inl e ↦ rw e (omega arith) | inr e ↦ rw e (omega arith) ]

pub pages-le : (g : Geometry) → g.pages_per_block ≤ 128
pages-le g = elim (bounds g).block [ inl e ↦ rw e (omega arith) | inr e ↦ rw e (omega arith) ]

pub page-some : (g : Geometry) → 1 ≤ g.page
page-some g =
    elim (bounds g).pages [ inl e ↦ omega (arith, e.0) | inr others ↦ elim others [ inl e ↦ omega (arith, e.0) | inr e ↦ omega (arith, e.0) ] ]
