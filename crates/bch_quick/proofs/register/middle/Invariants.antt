use Rattle.std.proofs.Common.{◌≡◌, ◌*◌, ◌^◌, ℕ, take}
use Rattle.code_model.specs.Binary.{remainder}
use Rattle.code_model.specs.Bits.{bits_of}
use Rattle.code_model.specs.Word.{number_from}
use Rattle.bch_tables.specs.Rows.{AreRows}
use Rattle.bch_quick.proofs.register.middle.Given as goal

abbrev pub invariant-loop-i : goal.invariant-loop-i
invariant-loop-i l = (f : ℕ) → AreRows 128 f l.rows → l.register ≡ remainder 128 f (number_from 0 (bits_of (take (4 * l.i) l.body)) * 2 ^ 128)
