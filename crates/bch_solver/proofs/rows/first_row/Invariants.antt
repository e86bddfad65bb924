use Rattle.std.proofs.Common.{◌≡◌, ◌<◌, ◌≤◌, ◌+◌, ℕ, get_or, length}
use Rattle.bch_solver.proofs.rows.first_row.Given as goal

abbrev pub invariant-loop-j : goal.invariant-loop-j
invariant-loop-j g l = record {
  long : length l.row ≡ 33;
  done : (k : ℕ) → k < l.j → get_or l.row k 0 ≡ get_or l.syndromes (l.degree + k) 0;
  rest : (k : ℕ) → l.j ≤ k → get_or l.row k 0 ≡ 0;
}
