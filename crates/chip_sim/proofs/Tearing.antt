-- The done bits of a tear, and the cells of an erased page.
use Rattle.std.proofs.Common.{◌≡◌, ℕ, zero, suc, ◌+◌, ◌^◌, ◌<◌, ◌≤◌, ◌∷◌, replicate, refl, ap, sym, arith, bit_or}
use Rattle.std.specs.Prelude.{◌%◌}
use Rattle.std.proofs.lemmas.Nat.{le_or_l, or_of_8}
use Rattle.nand_model.specs.Chip.{done_bits, map_from, torn_erased}
use Rattle.nand_model.specs.declared.tear.Tear.{Tear}

-- a byte of 0xFF stays so
all_ones : (n : ℕ) → bit_or 0xff (n % 0x100) ≡ 0xff
all_ones n =
    let low : 255 ≤ bit_or 255 (n % 256) = le_or_l 255 (n % 256) in
    let small : n % 256 < 2 ^ 8 = omega arith in
    let high : bit_or 255 (n % 256) < 2 ^ 8 = or_of_8 255 (n % 256) (omega arith) small in
    omega arith

erased_from : (f : ℕ → ℕ) (n i : ℕ) → map_from i (λ i byte. bit_or byte (f i % 0x100)) (replicate n 0xff) ≡ replicate n 0xff
erased_from f zero i = refl
erased_from f (suc n) i = rw (all_ones (f i)) (ap (λ xs. 0xff ∷ xs) (erased_from f n (i + 1)))

-- a torn erase of an erased page changes no cell
pub erased-page : (raw : ℕ) (tear : Tear) (q : ℕ) → replicate raw 0xff ≡ torn_erased (replicate raw 0xff) (done_bits raw tear q)
erased-page raw tear q = sym (erased_from (done_bits raw tear q) raw 0)
