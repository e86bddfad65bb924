-- Bounds of what a command costs.
use Rattle.std.proofs.Common.{◌≡◌, ℕ, zero, suc, ◌+◌, ◌-◌, ◌*◌, ◌/◌, ◌<◌, ◌≤◌, ◌^◌, Bool, true, false, cond, eqb, min, ◌⊎◌, inl, inr, refl, sym, ap, ◌∙◌, subst, arith}
use Rattle.std.proofs.Math.Nat.{mul-le-mul, mul-le-mul_left, mul-le-mul_right, div-mul-le_self, div-le_self, mul-add, mul_comm}
use Rattle.std.proofs.lemmas.Bool.{cases_lt}
use Rattle.nand_model.specs.declared.geometry.Geometry.{Geometry}
use Rattle.nand_model.proofs.Bounds.{bounds, pages-le, pages-some}
use Rattle.command_model.specs.Command.{count_or_rest, block_size}
use Rattle.plan_costs.specs.Room.{in_long}

pub page-low : (g : Geometry) → 2048 ≤ g.page
page-low g = elim (bounds g).pages [ inl e ↦ omega (arith, e.0) | inr others ↦ elim others [ inl e ↦ omega (arith, e.0) | inr e ↦ omega (arith, e.0) ] ]

pub page-high : (g : Geometry) → g.page ≤ 4096
page-high g = elim (bounds g).pages [ inl e ↦ omega (arith, e.0) | inr others ↦ elim others [ inl e ↦ omega (arith, e.0) | inr e ↦ omega (arith, e.0) ] ]

pub spare-high : (g : Geometry) → g.spare ≤ 224
spare-high g = elim (bounds g).pages [ inl e ↦ omega (arith, e.1) | inr others ↦ elim others [ inl e ↦ omega (arith, e.1) | inr e ↦ omega (arith, e.1) ] ]

-- the bytes of a block
pub block-low : (g : Geometry) → 2048 ≤ block_size g
block-low g = omega (arith, mul-le-mul_left g.pages_per_block (page-low g), pages-some g)

pub block-high : (g : Geometry) → block_size g ≤ 524288
block-high g = omega (arith, mul-le-mul_left g.pages_per_block (page-high g), pages-le g)

-- a quotient by a page or more
pub small_quotient : (n d : ℕ) → 2048 ≤ d → n < 2 ^ 64 → n / d < 2 ^ 53
small_quotient n d big fits =
    let whole : n / d * d ≤ n = div-mul-le_self n d in
    let less : n / d * 2048 ≤ n / d * d = mul-le-mul_left (n / d) big in
    omega (arith, whole, less, fits)

pub count-le : (count first all : ℕ) → count_or_rest count first all ≤ count + all
count-le count first all = by_test (eqb count 0)
  where
    by_test : (b : Bool) → cond b (all - first) count ≤ count + all
    by_test true = omega arith
    by_test false = omega arith

-- the pages of a device
pub device_pages : (blocks n : ℕ) → blocks < 2 ^ 32 → n ≤ 128 → blocks * n < 2 ^ 39
device_pages blocks n few small =
    let less : blocks * n ≤ blocks * 128 = mul-le-mul_left blocks small in
    omega (arith, less, few)

-- a product that stops at the greatest number twice
pub long_twice : (a b : ℕ) → in_long (in_long a * suc b) ≡ in_long (a * suc b)
long_twice a b = by_size (cases_lt (2 ^ 64 - 1) a)
  where
    both : (x y : ℕ) → 2 ^ 64 - 1 ≤ x → 2 ^ 64 - 1 ≤ y → in_long x ≡ in_long y
    both x y p q = omega (arith, p, q)

    by_size : (2 ^ 64 - 1 < a) ⊎ (a ≤ 2 ^ 64 - 1) → in_long (in_long a * suc b) ≡ in_long (a * suc b)
    by_size (inr small) = ap (λ n. in_long (n * suc b)) same
      where
        same : in_long a ≡ a
        same = omega (arith, small)
    by_size (inl big) =
        let cut : in_long a ≡ 2 ^ 64 - 1 = omega (arith, big) in
        let some : 1 ≤ suc b = omega arith in
        let one : (2 ^ 64 - 1) * 1 ≤ (2 ^ 64 - 1) * suc b = mul-le-mul_left (2 ^ 64 - 1) some in
        let other : a * 1 ≤ a * suc b = mul-le-mul_left a some in
        ap (λ n. in_long (n * suc b)) cut ∙ both ((2 ^ 64 - 1) * suc b) (a * suc b) (omega (arith, one)) (omega (arith, other, big))

-- the greatest cost of a nandtest
pub test_total : (runs pages : ℕ) (keep : Bool) →
    in_long (in_long runs * cond keep (pages + 3 + (pages + 1)) (pages + 3))
    ≡ in_long (runs * (pages + 3) + cond keep (runs * (pages + 1)) 0)
test_total runs pages true =
    ap (λ n. in_long (in_long runs * n)) whole ∙ long_twice runs (pages + 3 + pages)
    ∙ ap (λ n. in_long (runs * n)) (sym whole) ∙ ap in_long (mul-add runs (pages + 3) (pages + 1))
  where
    whole : pages + 3 + (pages + 1) ≡ suc (pages + 3 + pages)
    whole = omega arith
test_total runs pages false =
    ap (λ n. in_long (in_long runs * n)) whole ∙ long_twice runs (pages + 2)
    ∙ ap (λ n. in_long (runs * n)) (sym whole) ∙ ap in_long nothing
  where
    whole : pages + 3 ≡ suc (pages + 2)
    whole = omega arith

    nothing : runs * (pages + 3) ≡ runs * (pages + 3) + 0
    nothing = omega arith

-- a cost of several parts that stops at the greatest number
pub total_long : (cost base pages more : ℕ) →
    in_long (cost + in_long base + in_long ((pages + 2) * in_long more)) ≡ in_long (cost + base + (pages + 2) * more)
total_long cost base pages more =
    ap (λ n. in_long (cost + in_long base + n)) (turned (in_long more) ∙ long_twice more (pages + 1) ∙ sym (turned more))
    ∙ parts cost base ((pages + 2) * more)
  where
    turned : (n : ℕ) → in_long ((pages + 2) * n) ≡ in_long (n * suc (pages + 1))
    turned n = ap in_long (mul_comm (pages + 2) n ∙ ap (λ k. n * k) more_pages)
      where
        more_pages : pages + 2 ≡ suc (pages + 1)
        more_pages = omega arith

    parts : (a b c : ℕ) → in_long (a + in_long b + in_long c) ≡ in_long (a + b + c)
    parts a b c = omega arith
