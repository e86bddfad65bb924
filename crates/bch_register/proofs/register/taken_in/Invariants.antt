use Rattle.std.proofs.Common.{◌≡◌, ◌*◌, ◌^◌}
use Rattle.std.specs.Prelude.{bit_xor}
use Rattle.code_model.specs.Binary.{remainder}
use Rattle.bch_register.specs.Division.{with_top}
use Rattle.bch_register.proofs.register.taken_in.Given as goal

abbrev pub invariant-loop : goal.invariant-loop
invariant-loop l = l.register ≡ remainder 256 (with_top l.modulus) (bit_xor l.fn.register (l.byte * 2 ^ 248) * 2 ^ l.counter)
