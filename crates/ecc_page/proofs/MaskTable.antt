-- The table of masks, computed.
use Rattle.std.proofs.Common.{◌≡◌, ℕ, zero, suc, ◌+◌, ◌-◌, ◌*◌, ◌/◌, ◌<◌, ◌≤◌, List, [], ◌∷◌, length, get_or, take, refl, subst, arith}
use Rattle.code_model.specs.Binary.{bits_fold_of, bits_fold, product, times, power, remainder, reduced}
use Rattle.code_model.specs.Bits.{bits_of, bytes_of}
use Rattle.code_model.specs.Poly.{locator, with_root, with_root_from}
use Rattle.code_model.specs.Generator.{packed, conjugates, minimal_of, generator_of}
use Rattle.code_model.specs.Word.{number_from}
use Rattle.code_model.specs.Code.{code_512, mask_of, parity_of, parity_number, parity_len}
use Rattle.ecc_page.specs.declared.masks.TheConstants.{MASKS}

-- rows begin with the masks for t wrong bits, t + 1 and so on
AreMasks : ℕ → List (List ℕ) → Type 0
AreMasks t [] = Unit {0}
AreMasks t (row ∷ rows) = (take (parity_len (code_512 t)) row ≡ mask_of (code_512 t)) × AreMasks (suc t) rows

are_masks : AreMasks 1 MASKS
unfolding AreMasks mask_of parity_of parity_number bytes_of bits_of number_from generator_of minimal_of packed conjugates locator with_root with_root_from times remainder reduced product power bits_fold bits_fold_of
are_masks = (refl, (refl, (refl, (refl, (refl, (refl, (refl, (refl, (refl, (refl, (refl, (refl, (refl, (refl, (refl, (refl, tt))))))))))))))))

mask_at : (t i : ℕ) (rows : List (List ℕ)) → AreMasks t rows → i < length rows → take (parity_len (code_512 (t + i))) (get_or rows i []) ≡ mask_of (code_512 (t + i))
unfolding AreMasks
mask_at t i [] m h = absurd (omega arith)
mask_at t zero (row ∷ rows) m h =
    let e : t ≡ t + 0 = omega arith in
    subst (λ (n : ℕ). take (parity_len (code_512 n)) row ≡ mask_of (code_512 n)) e m.0
mask_at t (suc i) (row ∷ rows) m h =
    let e : suc t + i ≡ t + suc i = omega arith in
    subst (λ (n : ℕ). take (parity_len (code_512 n)) (get_or rows i []) ≡ mask_of (code_512 n)) e (mask_at (suc t) i rows m.1 (omega arith))

length-MASKS : length MASKS ≡ 16
length-MASKS = refl

pub mask_in_table : (t : ℕ) → 0 < t → t ≤ 16 → take ((13 * t + 7) / 8) (get_or MASKS (t - 1) []) ≡ mask_of (code_512 t)
mask_in_table t pos few =
    let e : 1 + (t - 1) ≡ t = omega arith in
    subst (λ (n : ℕ). take (parity_len (code_512 n)) (get_or MASKS (t - 1) []) ≡ mask_of (code_512 n)) e (mask_at 1 (t - 1) MASKS are_masks (omega (arith, length-MASKS)))
