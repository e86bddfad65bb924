use Rattle.std.proofs.Common.{◌^◌, ◌≡◌, ◌<◌, ℕ, [], get_or}
use Rattle.bch_solver.specs.Rows.{AllBelow, HasMonic, Holds}
use Rattle.bch_solver.proofs.rows.reduce_all.Given as goal

abbrev pub invariant-loop-k : goal.invariant-loop-k
invariant-loop-k g l = record {
  small : AllBelow (2 ^ g.F.BinaryField.DEGREE) l.target;
  monic : HasMonic l.count l.target;
  gone : (k : ℕ) → k < l.k → get_or l.target (get_or l.pivots k 0) 0 ≡ 0;
  kept : (s : ℕ → ℕ) (t : ℕ) → t < 17 → ((k : ℕ) → k < l.count → Holds g.F.BinaryField.DEGREE g.F.BinaryField.MODULUS s t (get_or l.rows k [])) → Holds g.F.BinaryField.DEGREE g.F.BinaryField.MODULUS s t l.initial.target → Holds g.F.BinaryField.DEGREE g.F.BinaryField.MODULUS s t l.target;
}
