use Rattle.std.proofs.Common.{◌≡◌, ◌++◌, take, drop}
use Rattle.code_model.specs.Bits.{xor_bytes}
use Rattle.bch_quick.proofs.masks.put_mask.Given as goal

abbrev pub invariant-loop-i : goal.invariant-loop-i
invariant-loop-i l = l.parity ≡ xor_bytes (take l.i l.fn.parity) (take l.i l.mask) ++ drop l.i l.fn.parity
