use Rattle.std.proofs.Common.{◌≡◌, take}
use Rattle.code_model.specs.Bits.{bits_of}
use Rattle.code_model.specs.Word.{number_from}
use Rattle.bch_register.proofs.word.number_of.Given as goal

abbrev pub invariant-loop-byte : goal.invariant-loop-byte
invariant-loop-byte l = l.number ≡ number_from 0 (bits_of (take l.byte-index l.bytes))
