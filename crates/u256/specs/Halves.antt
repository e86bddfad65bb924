-- Numbers of 256 bits by their halves of 128.
use Rattle.std.specs.Prelude.{ℕ, ◌≡◌, ◌+◌, ◌*◌, ◌/◌, ◌%◌, ◌^◌, ◌<◌}
use Rattle.std.proofs.Common.{ap₂, arith}
use Rattle.u256.specs.declared.number.U256.TheInside.{Inside}

high_back : (h l : ℕ) → l < 2 ^ 128 → (h * 2 ^ 128 + l) / 2 ^ 128 ≡ h
high_back h l s = omega arith

low_back : (h l : ℕ) → l < 2 ^ 128 → (h * 2 ^ 128 + l) % 2 ^ 128 ≡ l
low_back h l s = omega arith

of_halves : ℕ → ℕ → Inside
of_halves h l = record { high = h; low = l }

-- the halves of a number, from the number
pub halves_back : (n : Inside) → (n.high < 2 ^ 128) × (n.low < 2 ^ 128) → record { high = (n.high * 2 ^ 128 + n.low) / 2 ^ 128; low = (n.high * 2 ^ 128 + n.low) % 2 ^ 128 } ≡ n
unfolding of_halves
halves_back n s = ap₂ of_halves (high_back n.high n.low s.1) (low_back n.high n.low s.1)
