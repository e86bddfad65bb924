-- The tables pass their tests.
use Rattle.std.proofs.Common.{◌≡◌, ℕ, ◌-◌, ◌*◌, ◌<◌, ◌≤◌, refl, sym, ◌∙◌, subst, arith, List, [], ◌∷◌, length, get_or, map, true}
use Rattle.std.proofs.lemmas.List.{get_or-map}
use Rattle.code_model.specs.Binary.{bits_fold_of, bits_fold, product, reduced, shifted, remainder, times, power}
use Rattle.code_model.specs.Poly.{locator, with_root, with_root_from}
use Rattle.code_model.specs.Generator.{packed, conjugates, minimal_of, generator_of}
use Rattle.code_model.proofs.Instances.{primitive_14}
use Rattle.bch_tables.specs.Rows.{aligned, halves, AreRows, AreWideRows}
use Rattle.bch_tables.specs.Tests.{powers_pass, generators_pass, modulus, rows_pass, tables_pass, top_bytes, groups_pass}
use Rattle.bch_tables.proofs.PowerLemmas.{power_entry}
use Rattle.bch_tables.proofs.RowLemmas.{generator_is, are_rows, are_wide_rows}
use Rattle.gf14_tables.specs.declared.generators.TheConstants.{GENERATORS}
use Rattle.gf14_tables.specs.declared.powers.TheConstants.{POWERS}
use Rattle.gf14_tables.specs.declared.rows.TheConstants.{NARROW, MIDDLE, WIDE}

powers-pass : powers_pass 14 0x402b 1 POWERS ≡ true
unfolding powers_pass reduced
powers-pass = refl

powers-length : length POWERS ≡ 32768
powers-length = refl

pub power_row : (i : ℕ) → i < 32768 → get_or POWERS i 0 ≡ power 14 0x402b 2 i
power_row i h = power_entry 14 0x402b primitive_14 POWERS i powers-pass (subst (λ (n : ℕ). i < n) (sym powers-length) h)

-- the generators for 1 to 16 wrong bits
generators : List ℕ
generators = map halves GENERATORS

generators-pass : generators_pass 14 0x402b 0 1 generators ≡ true
unfolding generators generators_pass minimal_of packed conjugates locator with_root with_root_from times remainder reduced product power bits_fold bits_fold_of
generators-pass = refl

generators-length : length generators ≡ 16
unfolding generators
generators-length = refl

generator-rows : length GENERATORS ≡ 16
generator-rows = refl

pub generator_row : (t : ℕ) → 0 < t → t ≤ 16 → halves (get_or GENERATORS (t - 1) []) ≡ generator_of 14 0x402b t
unfolding generators
generator_row t pos few =
    sym (get_or-map halves GENERATORS (t - 1) [] 0 (omega (arith, generator-rows))) ∙ generator_is 14 0x402b t generators generators-pass pos (omega (arith, generators-length))

narrow-pass : groups_pass (λ n. n) 64 (modulus 14 generators 64) 1 NARROW ≡ true
unfolding groups_pass tables_pass rows_pass top_bytes shifted reduced modulus generators
narrow-pass = refl

middle-pass : groups_pass (λ n. n) 128 (modulus 14 generators 128) 5 MIDDLE ≡ true
unfolding groups_pass tables_pass rows_pass top_bytes shifted reduced modulus generators
middle-pass = refl

wide-pass : groups_pass halves 256 (modulus 14 generators 256) 10 WIDE ≡ true
unfolding groups_pass tables_pass rows_pass top_bytes shifted reduced modulus generators
wide-pass = refl

narrow-groups : length NARROW ≡ 4
narrow-groups = refl

middle-groups : length MIDDLE ≡ 5
middle-groups = refl

wide-groups : length WIDE ≡ 7
wide-groups = refl

pub narrow_rows_are : (t : ℕ) → 0 < t → t ≤ 4 → AreRows 64 (aligned 14 0x402b 64 t) (get_or NARROW (t - 1) [])
narrow_rows_are t pos few =
    are_rows 14 0x402b primitive_14 generators generators-pass 56 t 1 NARROW narrow-pass (omega arith) pos (omega (arith, narrow-groups)) (omega (arith, generators-length)) (omega arith)

pub middle_rows_are : (t : ℕ) → 5 ≤ t → t ≤ 9 → AreRows 128 (aligned 14 0x402b 128 t) (get_or MIDDLE (t - 5) [])
middle_rows_are t low few =
    are_rows 14 0x402b primitive_14 generators generators-pass 120 t 5 MIDDLE middle-pass (omega arith) low (omega (arith, middle-groups)) (omega (arith, generators-length)) (omega arith)

pub wide_rows_are : (t : ℕ) → 10 ≤ t → t ≤ 16 → AreWideRows 256 (aligned 14 0x402b 256 t) (get_or WIDE (t - 10) [])
wide_rows_are t low few =
    are_wide_rows 14 0x402b primitive_14 generators generators-pass 248 t 10 WIDE wide-pass (omega arith) low (omega (arith, wide-groups)) (omega (arith, generators-length)) (omega arith)
