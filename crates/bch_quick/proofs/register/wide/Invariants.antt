use Rattle.std.proofs.Common.{◌≡◌, ◌<◌, ◌*◌, ◌^◌, ℕ, take}
use Rattle.code_model.specs.Binary.{remainder}
use Rattle.code_model.specs.Bits.{bits_of}
use Rattle.code_model.specs.Word.{number_from}
use Rattle.bch_tables.specs.Rows.{AreWideRows}
use Rattle.bch_quick.proofs.register.wide.Given as goal

abbrev pub invariant-loop-i : goal.invariant-loop-i
invariant-loop-i l = record {
  value : (f : ℕ) → AreWideRows 256 f l.rows → l.register ≡ remainder 256 f (number_from 0 (bits_of (take (4 * l.i) l.body)) * 2 ^ 256);
  small : l.register < 2 ^ 256;
}
