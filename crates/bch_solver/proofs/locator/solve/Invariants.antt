use Rattle.std.proofs.Common.{◌≡◌, ◌<◌, ℕ, [], get_or, length}
use Rattle.bch_solver.specs.Rows.{IsTable, Holds, syndrome_at}
use Rattle.bch_solver.proofs.locator.solve.Given as goal

abbrev pub invariant-loop-degree : goal.invariant-loop-degree
invariant-loop-degree g l = record {
  rows_long : length l.rows ≡ 17;
  pivots_long : length l.pivots ≡ 17;
  inverses_long : length l.inverses ≡ 17;
  table : IsTable g.F.BinaryField.DEGREE g.F.BinaryField.MODULUS l.rows l.pivots l.inverses l.degree;
  in_range : (k : ℕ) → k < l.degree → get_or l.pivots k 0 < l.count;
  holds : (k : ℕ) → k < l.degree → Holds g.F.BinaryField.DEGREE g.F.BinaryField.MODULUS (syndrome_at l.syndromes) 16 (get_or l.rows k []);
}
