-- The tables pass their tests.
use Rattle.std.proofs.Common.{◌≡◌, ℕ, ◌-◌, ◌*◌, ◌<◌, ◌≤◌, refl, sym, subst, arith, List, [], ◌∷◌, length, get_or, true}
use Rattle.code_model.specs.Binary.{bits_fold_of, bits_fold, product, reduced, shifted, remainder, times, power}
use Rattle.code_model.specs.Poly.{locator, with_root, with_root_from}
use Rattle.code_model.specs.Generator.{packed, conjugates, minimal_of}
use Rattle.code_model.proofs.Instances.{primitive_13}
use Rattle.bch_tables.specs.Rows.{aligned, halves, AreRows, AreWideRows}
use Rattle.bch_tables.specs.Tests.{powers_pass, generators_pass, modulus, rows_pass, tables_pass, top_bytes, groups_pass}
use Rattle.bch_tables.proofs.PowerLemmas.{power_entry}
use Rattle.bch_tables.proofs.RowLemmas.{are_rows, are_wide_rows}
use Rattle.gf13_tables.specs.declared.powers.TheConstants.{POWERS}
use Rattle.gf13_tables.specs.declared.rows.TheConstants.{NARROW, MIDDLE, WIDE}

powers-pass : powers_pass 13 0x201b 1 POWERS ≡ true
unfolding powers_pass reduced
powers-pass = refl

powers-length : length POWERS ≡ 16384
powers-length = refl

pub power_row : (i : ℕ) → i < 16384 → get_or POWERS i 0 ≡ power 13 0x201b 2 i
power_row i h = power_entry 13 0x201b primitive_13 POWERS i powers-pass (subst (λ (n : ℕ). i < n) (sym powers-length) h)

-- the generators for 1 to 16 wrong bits
generators : List ℕ
generators =
    0x201b ∷
    0x4d5154b ∷
    0xbaf5b2bded ∷
    0x14523043ab86ab ∷
    0x3d694bc056ac0d78b ∷
    0x7f3cc930e4f0dcb9b17d ∷
    0x80008086b4d380be68d2da5 ∷
    0x115f914e07b0c138741c5c4fb23 ∷
    0x2d8aa10efe51eb9ccab1b3e6b626e1 ∷
    0x65a4ef0d287c9a24ede0ab0157e0b37c9 ∷
    0x98b1f6997f81c8a478e9a773982762f4030b ∷
    0x1e4873256115a56784a6940a4c6e6d7e1205e051 ∷
    0x24c035897431417651457c1e8703f799e299b7557cd ∷
    0x6bbbe749962881a660537c15695aea1583d46221885329 ∷
    0x99815beb3fe430d048b8e16b3f03aaeebf13dc4a3b1caf2cd ∷
    0x1cbbe3f0dbec563b5fb20ff07f7aa45ff026fb378a601cdd0fdd1 ∷ []

generators-pass : generators_pass 13 0x201b 0 1 generators ≡ true
unfolding generators generators_pass minimal_of packed conjugates locator with_root with_root_from times remainder reduced product power bits_fold bits_fold_of
generators-pass = refl

generators-length : length generators ≡ 16
unfolding generators
generators-length = refl

narrow-pass : groups_pass (λ n. n) 64 (modulus 13 generators 64) 1 NARROW ≡ true
unfolding groups_pass tables_pass rows_pass top_bytes shifted reduced modulus generators
narrow-pass = refl

middle-pass : groups_pass (λ n. n) 128 (modulus 13 generators 128) 5 MIDDLE ≡ true
unfolding groups_pass tables_pass rows_pass top_bytes shifted reduced modulus generators
middle-pass = refl

wide-pass : groups_pass halves 256 (modulus 13 generators 256) 10 WIDE ≡ true
unfolding groups_pass tables_pass rows_pass top_bytes shifted reduced modulus generators
wide-pass = refl

narrow-groups : length NARROW ≡ 4
narrow-groups = refl

middle-groups : length MIDDLE ≡ 5
middle-groups = refl

wide-groups : length WIDE ≡ 7
wide-groups = refl

pub narrow_rows_are : (t : ℕ) → 0 < t → t ≤ 4 → AreRows 64 (aligned 13 0x201b 64 t) (get_or NARROW (t - 1) [])
narrow_rows_are t pos few =
    are_rows 13 0x201b primitive_13 generators generators-pass 56 t 1 NARROW narrow-pass (omega arith) pos (omega (arith, narrow-groups)) (omega (arith, generators-length)) (omega arith)

pub middle_rows_are : (t : ℕ) → 5 ≤ t → t ≤ 9 → AreRows 128 (aligned 13 0x201b 128 t) (get_or MIDDLE (t - 5) [])
middle_rows_are t low few =
    are_rows 13 0x201b primitive_13 generators generators-pass 120 t 5 MIDDLE middle-pass (omega arith) low (omega (arith, middle-groups)) (omega (arith, generators-length)) (omega arith)

pub wide_rows_are : (t : ℕ) → 10 ≤ t → t ≤ 16 → AreWideRows 256 (aligned 13 0x201b 256 t) (get_or WIDE (t - 10) [])
wide_rows_are t low few =
    are_wide_rows 13 0x201b primitive_13 generators generators-pass 248 t 10 WIDE wide-pass (omega arith) low (omega (arith, wide-groups)) (omega (arith, generators-length)) (omega arith)
