-- The pages of a block are those from its first page up to the next block's.
use Rattle.std.proofs.Common.{◌≡◌, ◌≢◌, ◌⊎◌, ℕ, ◌+◌, ◌-◌, ◌*◌, ◌/◌, ◌<◌, ◌≤◌, arith, inl, inr, true}
use Rattle.std.specs.Prelude.{◌==◌, ◌&&◌, ◌%◌, nat_le, nat_lt}
use Rattle.std.proofs.lemmas.Bool.Decides.{eqb_tells, nat_tests}
use Rattle.std.proofs.lemmas.Bool.{eqb-true}
use Rattle.std.proofs.Math.Nat.{mul-le-mul_left}

-- a page of a block is one of these
inside : (pages block page : ℕ) → 0 < pages → page / pages ≡ block → (block * pages ≤ page) × (page < block * pages + pages)
inside pages block page some same = rw (← same) (omega arith, omega arith)

-- a page of another block is none of these
outside : (pages block page : ℕ) → 0 < pages → page / pages ≢ block → (page < block * pages) ⊎ (block * pages + pages ≤ page)
outside pages block page some other =
    let q = page / pages in
    let low : pages * (page / pages) ≤ page = omega arith in
    let high : page < pages * (page / pages) + pages = omega arith in
    let apart : (page / pages + 1 ≤ block) ⊎ (block + 1 ≤ page / pages) = grind arith in
    elim apart [
      | inl below ↦ inl (omega (arith, mul-le-mul_left pages below))
      | inr above ↦ inr (omega (arith, mul-le-mul_left pages above))
    ]

-- the test of a page's block is the test of its place
pub in_block : (pages block page : ℕ) → 0 < pages → (page / pages == block) ≡ (nat_le (block * pages) page && nat_lt page (block * pages + pages))
in_block pages block page some =
    elim (eqb_tells (page / pages) block) [
      | inl same ↦ let h = inside pages block page some same.1 in grind (arith, nat_tests)
      | inr other ↦ let h = outside pages block page some other.1 in grind (arith, nat_tests)
    ]

-- a page's number in its block is counted from the block's first page
pub place_in_block : (pages block page : ℕ) → 0 < pages → (page / pages == block) ≡ true → page - block * pages ≡ page % pages
place_in_block pages block page some same =
    let at : page / pages ≡ block = eqb-true (page / pages) block same in
    let whole : pages * (page / pages) + page % pages ≡ page = omega arith in
    let counted : pages * block + page % pages ≡ page = rw at at whole in
    omega arith
