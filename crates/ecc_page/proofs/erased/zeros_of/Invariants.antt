use Rattle.std.proofs.Common.{◌≡◌, take}
use Rattle.std.specs.List.{count_by}
use Rattle.code_model.specs.Bits.{bits_of}
use Rattle.ecc_page.specs.Erased.{is_zero}
use Rattle.ecc_page.proofs.erased.zeros_of.Given as goal

abbrev pub invariant-loop-byte : goal.invariant-loop-byte
invariant-loop-byte l = l.zeros ≡ count_by is_zero (bits_of (take l.byte-index l.bytes))
