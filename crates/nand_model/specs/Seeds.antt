-- Numbers from a seed: SplitMix64, modulo 2^64.
use Rattle.std.specs.Prelude.{◌≡◌, ℕ, ◌+◌, ◌*◌, ◌/◌, ◌%◌, ◌^◌, bit_xor, refl}

-- n XOR (n >> k)
abbrev pub xor_shifted : ℕ → ℕ → ℕ
xor_shifted k n = bit_xor n (n / 2 ^ k)

-- the number of a seed and an index
abbrev pub split_mix : ℕ → ℕ → ℕ
split_mix seed index =
    xor_shifted 31 (xor_shifted 27 (xor_shifted 30 ((seed + (index + 1) * 0x9e3779b97f4a7c15) % 2 ^ 64)
    * 0xbf58476d1ce4e5b9 % 2 ^ 64) * 0x94d049bb133111eb % 2 ^ 64)

-- its low 8 bits
abbrev pub seed_byte : ℕ → ℕ → ℕ
seed_byte seed index = split_mix seed index % 256

pub split_mix-0-0 : split_mix 0 0 ≡ 0xe220a8397b1dcdaf
split_mix-0-0 = refl

pub split_mix-0-1 : split_mix 0 1 ≡ 0x6e789e6aa1b965f4
split_mix-0-1 = refl

pub split_mix-0-2 : split_mix 0 2 ≡ 0x06c45d188009454f
split_mix-0-2 = refl
