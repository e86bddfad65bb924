use Rattle.std.proofs.Common.{◌≡◌, ◌<◌, ◌+◌, ℕ, get_or, length}
use Rattle.bch_solver.proofs.locator.locator_of.Given as goal

abbrev pub invariant-loop-l : goal.invariant-loop-l
invariant-loop-l l = record {
  long : length l.coefficients ≡ 17;
  done : (k : ℕ) → k < l.l → get_or l.coefficients k 0 ≡ get_or l.row (16 + k) 0;
}
