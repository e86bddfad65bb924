-- Polynomials and parities that lib/bch gives, computed from the definitions.
use Rattle.std.proofs.Common.{◌≡◌, ◌/◌, ◌^◌, [], ◌∷◌, ◌++◌, refl, ap, replicate}
use Rattle.std.specs.Prelude.{Some, None}
use Rattle.code_model.specs.Binary.{bits_fold_of, bits_fold, product, reduced, remainder, times, power}
use Rattle.code_model.specs.Poly.{locator, with_root, with_root_from}
use Rattle.code_model.specs.Generator.{packed, conjugates, minimal_of, generator_of}
use Rattle.code_model.specs.Word.{number_from}
use Rattle.code_model.specs.Bits.{bits_of, bytes_of, xor_bytes}
use Rattle.code_model.specs.Code.{Code, code_512, code_1024, generator, parity_number, parity_of, mask_of, masked, is_code_word, put_before, words_at, found_or, nearest_from, nearest}

-- minimal polynomials over the field of 2^13 elements
pub minimal_1 : minimal_of 13 0x201b 1 ≡ 0x201b
unfolding generator_of minimal_of packed conjugates locator with_root with_root_from times remainder reduced product power bits_fold bits_fold_of
minimal_1 = refl

pub minimal_3 : minimal_of 13 0x201b 3 ≡ 0x26b1
unfolding generator_of minimal_of packed conjugates locator with_root with_root_from times remainder reduced product power bits_fold bits_fold_of
minimal_3 = refl

pub minimal_5 : minimal_of 13 0x201b 5 ≡ 0x2993
unfolding generator_of minimal_of packed conjugates locator with_root with_root_from times remainder reduced product power bits_fold bits_fold_of
minimal_5 = refl

pub minimal_7 : minimal_of 13 0x201b 7 ≡ 0x274f
unfolding generator_of minimal_of packed conjugates locator with_root with_root_from times remainder reduced product power bits_fold bits_fold_of
minimal_7 = refl

-- generators of the codes over 512 bytes
pub generator_512_1 : generator (code_512 1) ≡ 0x201b
unfolding generator_of minimal_of packed conjugates locator with_root with_root_from times remainder reduced product power bits_fold bits_fold_of
generator_512_1 = refl

pub generator_512_2 : generator (code_512 2) ≡ 0x4d5154b
unfolding generator_of minimal_of packed conjugates locator with_root with_root_from times remainder reduced product power bits_fold bits_fold_of
generator_512_2 = refl

pub generator_512_3 : generator (code_512 3) ≡ 0xbaf5b2bded
unfolding generator_of minimal_of packed conjugates locator with_root with_root_from times remainder reduced product power bits_fold bits_fold_of
generator_512_3 = refl

pub generator_512_4 : generator (code_512 4) ≡ 0x14523043ab86ab
unfolding generator_of minimal_of packed conjugates locator with_root with_root_from times remainder reduced product power bits_fold bits_fold_of
generator_512_4 = refl

pub generator_512_16 : generator (code_512 16) ≡ 0x1cbbe3f0dbec563b5fb20ff07f7aa45ff026fb378a601cdd0fdd1
unfolding generator_of minimal_of packed conjugates locator with_root with_root_from times remainder reduced product power bits_fold bits_fold_of
generator_512_16 = refl

-- generators of the codes over 1024 bytes
pub generator_1024_16 : generator (code_1024 16) ≡ 0x122f1755614a4c377fc816ca00bd3e8f407385c3f4ddef681c94db411
unfolding generator_of minimal_of packed conjugates locator with_root with_root_from times remainder reduced product power bits_fold bits_fold_of
generator_1024_16 = refl

-- their degrees
pub degree_512_16 : generator (code_512 16) / 2 ^ 208 ≡ 1
degree_512_16 = ap (λ g. g / 2 ^ 208) generator_512_16

pub degree_1024_16 : generator (code_1024 16) / 2 ^ 224 ≡ 1
degree_1024_16 = ap (λ g. g / 2 ^ 224) generator_1024_16

-- the code over 512 bytes for four wrong bits: the mask, and the stored parity of three steps
pub mask_512_4 : mask_of (code_512 4) ≡ 0x28 ∷ 0x13 ∷ 0xcc ∷ 0x39 ∷ 0x96 ∷ 0xac ∷ 0x7f ∷ []
unfolding xor_bytes mask_of masked parity_of parity_number bytes_of bits_of number_from generator_of minimal_of packed conjugates locator with_root with_root_from times remainder reduced product power bits_fold bits_fold_of
mask_512_4 = refl

pub stored_erased : masked (code_512 4) (parity_of (code_512 4) (replicate 512 0xff)) ≡ 0xff ∷ 0xff ∷ 0xff ∷ 0xff ∷ 0xff ∷ 0xff ∷ 0xff ∷ []
unfolding xor_bytes mask_of masked parity_of parity_number bytes_of bits_of number_from generator_of minimal_of packed conjugates locator with_root with_root_from times remainder reduced product power bits_fold bits_fold_of
stored_erased = refl

pub stored_last_fe : masked (code_512 4) (parity_of (code_512 4) (replicate 511 0xff ++ 0xfe ∷ [])) ≡ 0xba ∷ 0xdc ∷ 0xfb ∷ 0xc5 ∷ 0x47 ∷ 0x95 ∷ 0x4f ∷ []
unfolding xor_bytes mask_of masked parity_of parity_number bytes_of bits_of number_from generator_of minimal_of packed conjugates locator with_root with_root_from times remainder reduced product power bits_fold bits_fold_of
stored_last_fe = refl

pub stored_zeros : masked (code_512 4) (parity_of (code_512 4) (replicate 512 0)) ≡ 0x28 ∷ 0x13 ∷ 0xcc ∷ 0x39 ∷ 0x96 ∷ 0xac ∷ 0x7f ∷ []
unfolding xor_bytes mask_of masked parity_of parity_number bytes_of bits_of number_from generator_of minimal_of packed conjugates locator with_root with_root_from times remainder reduced product power bits_fold bits_fold_of
stored_zeros = refl

-- the mask of the code over 1024 bytes for four wrong bits
pub mask_1024_4 : mask_of (code_1024 4) ≡ 0xb7 ∷ 0x26 ∷ 0x90 ∷ 0x7d ∷ 0xb5 ∷ 0xed ∷ 0x61 ∷ []
unfolding xor_bytes mask_of masked parity_of parity_number bytes_of bits_of number_from generator_of minimal_of packed conjugates locator with_root with_root_from times remainder reduced product power bits_fold bits_fold_of
mask_1024_4 = refl

-- a code over two bytes, short enough to search
abbrev pub short : Code
short = record { degree = 5; modulus = 0x25; strength = 2; step_bytes = 2 }

pub nearest_two_off : nearest short (1 ∷ 0 ∷ 1 ∷ 1 ∷ 0 ∷ 1 ∷ 0 ∷ 1 ∷ 0 ∷ 0 ∷ 1 ∷ 1 ∷ 1 ∷ 1 ∷ 0 ∷ 0 ∷ 0 ∷ 1 ∷ 1 ∷ 0 ∷ 0 ∷ 1 ∷ 0 ∷ 1 ∷ 0 ∷ 1 ∷ []) ≡ Some (1 ∷ 0 ∷ 1 ∷ 0 ∷ 0 ∷ 1 ∷ 0 ∷ 1 ∷ 0 ∷ 0 ∷ 1 ∷ 1 ∷ 1 ∷ 1 ∷ 0 ∷ 0 ∷ 0 ∷ 1 ∷ 1 ∷ 0 ∷ 1 ∷ 1 ∷ 0 ∷ 1 ∷ 0 ∷ 1 ∷ [], 2)
unfolding nearest nearest_from found_or words_at put_before is_code_word number_from generator_of minimal_of packed conjugates locator with_root with_root_from times remainder reduced product power bits_fold bits_fold_of
nearest_two_off = refl

pub nearest_none : nearest short (1 ∷ 0 ∷ 1 ∷ 0 ∷ 0 ∷ 1 ∷ 0 ∷ 1 ∷ 0 ∷ 0 ∷ 1 ∷ 1 ∷ 1 ∷ 1 ∷ 0 ∷ 0 ∷ 0 ∷ 1 ∷ 1 ∷ 0 ∷ 1 ∷ 1 ∷ 0 ∷ 0 ∷ 1 ∷ 0 ∷ []) ≡ None
unfolding nearest nearest_from found_or words_at put_before is_code_word number_from generator_of minimal_of packed conjugates locator with_root with_root_from times remainder reduced product power bits_fold bits_fold_of
nearest_none = refl
