use Rattle.std.proofs.Common.{◌≡◌, ℕ, ◌^◌, refl, true, lit<, lit≤}
use Rattle.code_model.specs.Binary.{reduced, shifted, none_is_one, IsPrimitive, times}
use Rattle.code_model.proofs.FieldLemmas.{primitive_from_tests, times_zero-cancel}
use Rattle.code_model.proofs.BinaryLemmas.{times-lt, times_comm, times_assoc, times-xor_right, times-zero, times-one}
use Rattle.std.proofs.lemmas.Nat.{xor_lt}
use Rattle.code_model.specs.Poly.{IsDomain}

back_13 : shifted 13 0x201b 8191 1 ≡ 1
unfolding shifted reduced
back_13 = refl

never_13 : none_is_one 13 0x201b 8190 2 ≡ true
unfolding none_is_one reduced
never_13 = refl

pub primitive_13 : IsPrimitive 13 0x201b
primitive_13 = primitive_from_tests 13 0x201b (lit≤ tt) (lit< tt) (lit< tt) back_13 never_13

back_14 : shifted 14 0x402b 16383 1 ≡ 1
unfolding shifted reduced
back_14 = refl

never_14 : none_is_one 14 0x402b 16382 2 ≡ true
unfolding none_is_one reduced
never_14 = refl

pub primitive_14 : IsPrimitive 14 0x402b
primitive_14 = primitive_from_tests 14 0x402b (lit≤ tt) (lit< tt) (lit< tt) back_14 never_14

-- the laws that polynomials over the field use
pub domain_from_primitive : (m f : ℕ) → IsPrimitive m f → IsDomain (2 ^ m) (times m f)
domain_from_primitive m f p = record {
  sum_lt = λ a b h k. xor_lt m a b h k;
  mul_lt = λ a b. times-lt m f a b p.low p.high;
  mul_comm = times_comm m f;
  mul_assoc = λ a b c. times_assoc m f a b c p.low p.high;
  mul_xor = λ a b c. times-xor_right m f a b c p.low p.high;
  mul_zero = times-zero m f;
  mul_one = times-one m f;
  mul_cancel = times_zero-cancel m f p;
}

pub domain_13 : IsDomain 8192 (times 13 0x201b)
domain_13 = domain_from_primitive 13 0x201b primitive_13

pub domain_14 : IsDomain 16384 (times 14 0x402b)
domain_14 = domain_from_primitive 14 0x402b primitive_14
