use Rattle.std.proofs.Common.{◌≡◌, ◌<◌, ◌/◌, ◌%◌, ◌^◌, ◌-◌, ◌+◌, ◌*◌, get_or, ℕ}
use Rattle.bch_register.proofs.word.put_parity.Given as goal

abbrev pub invariant-loop-i : goal.invariant-loop-i
invariant-loop-i l = (k : ℕ) → k < l.i → get_or l.out k 0 ≡ l.number / 2 ^ (248 - 8 * (32 - l.len + k)) % 256
