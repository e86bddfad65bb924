use Rattle.std.proofs.Common.{◌≡◌, ◌*◌, ◌^◌, take}
use Rattle.code_model.specs.Binary.{remainder}
use Rattle.code_model.specs.Bits.{bits_of}
use Rattle.code_model.specs.Word.{number_from}
use Rattle.bch_register.specs.Division.{with_top}
use Rattle.bch_register.proofs.register.divide.Given as goal

abbrev pub invariant-loop-byte : goal.invariant-loop-byte
invariant-loop-byte l = l.register ≡ remainder 256 (with_top l.modulus) (number_from 0 (bits_of (take l.byte-index l.bytes)) * 2 ^ 256)
