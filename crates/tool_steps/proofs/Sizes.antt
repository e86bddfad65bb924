-- Blocks and pages of a device, and how many a range has.
use Rattle.std.proofs.Common.{◌≡◌, ℕ, suc, ◌+◌, ◌-◌, ◌*◌, ◌/◌, ◌%◌, ◌<◌, ◌≤◌, ◌⊎◌, inl, inr, Bool, true, false, List, length, min, sym, ap, ◌∙◌, arith}
use Rattle.std.proofs.Math.Nat.{mul_assoc, div-lt_iff_lt-mul, mul-le-mul_left, div-mul-le_self, div-eq_of_lt, add-div_right, mul-add-div_right, mod-lt, div-le_of_le-mul}
use Rattle.std.proofs.lemmas.Nat.{div-add-mod'}
use Rattle.std.proofs.lemmas.Bool.{cases_lt}
use Rattle.nand_model.proofs.Bounds.{bounds, page-some, pages-le, pages-some}
use Rattle.nand_model.specs.declared.geometry.Geometry.{Geometry}
use Rattle.command_model.specs.Command.{block_size, device_bytes, unit_count, unit_size, blocks_touched}
use Rattle.tool_steps.specs.Dumping.{blocks_for}
use Rattle.tool_steps.proofs.Scripts.{small_product}

pub page-low : (g : Geometry) → 2048 ≤ g.page
page-low g = elim (bounds g).pages [ inl e ↦ omega (arith, e.0) | inr others ↦ elim others [ inl e ↦ omega (arith, e.0) | inr e ↦ omega (arith, e.0) ] ]

pub page-high : (g : Geometry) → g.page ≤ 4096
page-high g = elim (bounds g).pages [ inl e ↦ omega (arith, e.0) | inr others ↦ elim others [ inl e ↦ omega (arith, e.0) | inr e ↦ omega (arith, e.0) ] ]

pub spare-high : (g : Geometry) → g.spare ≤ 224
spare-high g = elim (bounds g).pages [ inl e ↦ omega (arith, e.1) | inr others ↦ elim others [ inl e ↦ omega (arith, e.1) | inr e ↦ omega (arith, e.1) ] ]

pub unit_size-low : (g : Geometry) (oob : Bool) → 2048 ≤ unit_size g oob
unit_size-low g true = omega (arith, page-low g)
unit_size-low g false = page-low g

pub block_size-some : (g : Geometry) → 1 ≤ block_size g
block_size-some g =
    let one : 1 * g.page ≤ g.pages_per_block * g.page = grind (arith, pages-some g) in
    omega (arith, page-some g)

-- the block of an offset is one of the device
pub block_of_offset-lt : (g : Geometry) (blocks off : ℕ) → off < device_bytes g blocks → off / block_size g < blocks
block_of_offset-lt g blocks off h = (div-lt_iff_lt-mul (block_size-some g)).1 h

regrouped : (g : Geometry) (blocks : ℕ) → device_bytes g blocks ≡ (blocks * g.pages_per_block) * g.page
regrouped g blocks = sym (mul_assoc blocks g.pages_per_block g.page)

-- the page of an offset is one of the device
pub page_of_offset-lt : (g : Geometry) (blocks off : ℕ) → off < device_bytes g blocks → off / g.page < blocks * g.pages_per_block
page_of_offset-lt g blocks off h =
    let inside : off < (blocks * g.pages_per_block) * g.page = rw (← regrouped g blocks) h in
    (div-lt_iff_lt-mul (page-some g)).1 inside

pub device_pages-le : (g : Geometry) (blocks : ℕ) → blocks ≤ 32768 → blocks * g.pages_per_block ≤ 4194304
device_pages-le g blocks few = small_product blocks g.pages_per_block few (pages-le g)

-- two numbers of pieces of one size that end in so many pieces
few_pieces : (size n a b : ℕ) → 1 ≤ size → a + b ≤ n * size → a / size + b / size ≤ n
few_pieces size n a b some h = by_order (cases_lt n (a / size + b / size)) (div-mul-le_self a size) (div-mul-le_self b size)
  where
    by_order : (n < a / size + b / size) ⊎ (a / size + b / size ≤ n) → a / size * size ≤ a → b / size * size ≤ b → a / size + b / size ≤ n
    by_order (inr few) p q = few
    by_order (inl many) p q =
        let more : size * (n + 1) ≤ size * (a / size + b / size) = mul-le-mul_left size (omega arith) in
        absurd (omega (arith, some, more, h))

-- the pages of a range that ends in the device
pub range_in_device : (g : Geometry) (blocks off len : ℕ) → off + len ≤ device_bytes g blocks → off / g.page + len / g.page ≤ blocks * g.pages_per_block
range_in_device g blocks off len h = few_pieces g.page (blocks * g.pages_per_block) off len (page-some g) (rw (← regrouped g blocks) h)

-- the blocks of a range that ends in the device
pub blocks_in_device : (g : Geometry) (blocks off len : ℕ) → off + len ≤ device_bytes g blocks → off / block_size g + len / block_size g ≤ blocks
blocks_in_device g blocks off len h = few_pieces (block_size g) blocks off len (block_size-some g) h

-- the units of so many bytes
pub unit_count-few : (size n : ℕ) → 2048 ≤ size → n ≤ 4294967295 → (n + (size - 1)) / size ≤ 2097153
unit_count-few size n low few =
    let room : 2048 * 2097152 ≤ size * 2097152 = omega (arith, low) in
    div-le_of_le-mul size (omega (arith, room))

-- no block for no page
pub blocks_for-none : (g : Geometry) → blocks_for g 0 ≡ 0
blocks_for-none g = let h = pages-some g in div-eq_of_lt (omega (arith, h))

one_block : (p n : ℕ) → 1 ≤ n → n ≤ p → (n + (p - 1)) / p ≡ 1
one_block p n some few =
    let same : n + (p - 1) ≡ (n - 1) + p = omega arith in
    let none : (n - 1) / p ≡ 0 = div-eq_of_lt (omega arith) in
    ap (λ (k : ℕ). k / p) same ∙ add-div_right (n - 1) (omega arith) ∙ ap (λ (k : ℕ). k + 1) none

-- a block and then the others
pub blocks_for-suc : (g : Geometry) (n : ℕ) → 1 ≤ n → blocks_for g n ≡ suc (blocks_for g (n - min n g.pages_per_block))
blocks_for-suc g n some = by_order (cases_lt g.pages_per_block n) (pages-some g)
  where
    by_order : (g.pages_per_block < n) ⊎ (n ≤ g.pages_per_block) → 1 ≤ g.pages_per_block → blocks_for g n ≡ suc (blocks_for g (n - min n g.pages_per_block))
    by_order (inr few) p =
        let none : n - min n g.pages_per_block ≡ 0 = omega arith in
        one_block g.pages_per_block n some few ∙ ap suc (sym (ap (blocks_for g) none ∙ blocks_for-none g))
    by_order (inl many) p =
        let same : n + (g.pages_per_block - 1) ≡ ((n - g.pages_per_block) + (g.pages_per_block - 1)) + g.pages_per_block = omega arith in
        let left : n - min n g.pages_per_block ≡ n - g.pages_per_block = omega arith in
        let more : ((n - g.pages_per_block) + (g.pages_per_block - 1) + g.pages_per_block) / g.pages_per_block
        ≡ ((n - g.pages_per_block) + (g.pages_per_block - 1)) / g.pages_per_block + 1 = add-div_right ((n - g.pages_per_block) + (g.pages_per_block - 1)) p in
        let one : blocks_for g (n - g.pages_per_block) + 1 ≡ suc (blocks_for g (n - g.pages_per_block)) = omega arith in
        ap (λ (k : ℕ). k / g.pages_per_block) same ∙ more ∙ one ∙ ap (λ (k : ℕ). suc (blocks_for g k)) (sym left)

touched_from : (p q r n : ℕ) → 1 ≤ p → r < p → 1 ≤ n → (q * p + r + n + (p - 1)) / p - q ≡ suc ((n - min n (p - r) + (p - 1)) / p)
touched_from p q r n some below pages = by_order (cases_lt (p - r) n)
  where
    by_order : (p - r < n) ⊎ (n ≤ p - r) → (q * p + r + n + (p - 1)) / p - q ≡ suc ((n - min n (p - r) + (p - 1)) / p)
    by_order (inr few) =
        let same : q * p + r + n + (p - 1) ≡ q * p + (r + n + (p - 1)) = omega arith in
        let one : (r + n + (p - 1)) / p ≡ 1 = one_block p (r + n) (omega arith) (omega arith) in
        let none : n - min n (p - r) ≡ 0 = omega arith in
        let rest : (p - 1) / p ≡ 0 = div-eq_of_lt (omega arith) in
        let zeros : (n - min n (p - r) + (p - 1)) / p ≡ 0 = ap (λ (k : ℕ). k / p) (let e : n - min n (p - r) + (p - 1) ≡ p - 1 = omega (arith, none) in e) ∙ rest in
        let all : (q * p + r + n + (p - 1)) / p ≡ q + 1 = ap (λ (k : ℕ). k / p) same ∙ mul-add-div_right some q (r + n + (p - 1)) ∙ ap (λ (k : ℕ). q + k) one in
        omega (arith, all, zeros)
    by_order (inl many) =
        let later : ℕ = n - min n (p - r) in
        let same : q * p + r + n + (p - 1) ≡ q * p + (n - min n (p - r) + (p - 1) + p) = omega arith in
        let more : (n - min n (p - r) + (p - 1) + p) / p ≡ (n - min n (p - r) + (p - 1)) / p + 1 = add-div_right (n - min n (p - r) + (p - 1)) some in
        let all : (q * p + r + n + (p - 1)) / p ≡ q + ((n - min n (p - r) + (p - 1)) / p + 1) =
        ap (λ (k : ℕ). k / p) same ∙ mul-add-div_right some q (n - min n (p - r) + (p - 1) + p) ∙ ap (λ (k : ℕ). q + k) more in
        omega (arith, all)

-- the blocks that a range touches: the one of its first page, and the later ones
pub blocks_touched-suc : (g : Geometry) (n first : ℕ) → 1 ≤ n
    → blocks_touched g n first ≡ suc (blocks_for g (n - min n (g.pages_per_block - first % g.pages_per_block)))
blocks_touched-suc g n first some =
    let whole : first / g.pages_per_block * g.pages_per_block + first % g.pages_per_block ≡ first = div-add-mod' first g.pages_per_block in
    ap (λ (k : ℕ). (k + n + (g.pages_per_block - 1)) / g.pages_per_block - first / g.pages_per_block) (sym whole)
    ∙ touched_from g.pages_per_block (first / g.pages_per_block) (first % g.pages_per_block) n (pages-some g) (mod-lt first (pages-some g)) some

-- a page touches one block
pub blocks_touched-one : (g : Geometry) (first : ℕ) → blocks_touched g 1 first ≡ 1
blocks_touched-one g first =
    let below = mod-lt first (pages-some g) in
    let none : 1 - min 1 (g.pages_per_block - first % g.pages_per_block) ≡ 0 = omega (arith, below) in
    blocks_touched-suc g 1 first (omega arith) ∙ ap (λ (n : ℕ). suc (blocks_for g n)) none ∙ ap suc (blocks_for-none g)

-- data of at most a page fill one unit at most
pub unit_count-one : (g : Geometry) (bytes : List ℕ) → length bytes ≤ g.page → unit_count g false bytes ≤ 1
unit_count-one g bytes short = small g.page (length bytes) (page-some g) short
  where
    small : (page n : ℕ) → 1 ≤ page → n ≤ page → (n + (page - 1)) / page ≤ 1
    small page n some few =
        let below : (n + (page - 1)) / page < 2 = (div-lt_iff_lt-mul some).1 (omega arith) in
        omega arith
