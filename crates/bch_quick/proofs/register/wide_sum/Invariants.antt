use Rattle.std.proofs.Common.{◌≡◌, ◌*◌, ◌%◌, ◌^◌, ℕ}
use Rattle.code_model.specs.Binary.{remainder}
use Rattle.bch_tables.specs.Rows.{AreWideRows}
use Rattle.bch_quick.proofs.register.wide_sum.Given as goal

abbrev pub invariant-loop-j : goal.invariant-loop-j
invariant-loop-j l = (f : ℕ) → AreWideRows 256 f l.rows → l.sum ≡ remainder 256 f (l.top % 2 ^ (8 * l.j) * 2 ^ 256)
