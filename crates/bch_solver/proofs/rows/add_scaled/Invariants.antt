use Rattle.std.proofs.Common.{◌^◌, ◌≡◌, ◌<◌, ◌≤◌, ℕ, get_or}
use Rattle.std.specs.Prelude.{bit_xor}
use Rattle.code_model.specs.Binary.{times}
use Rattle.bch_solver.proofs.rows.add_scaled.Given as goal

abbrev pub invariant-loop-i : goal.invariant-loop-i
invariant-loop-i g l = record {
  done : (k : ℕ) → k < l.i → get_or l.target k 0 ≡ bit_xor (get_or l.initial.target k 0) (times g.F.BinaryField.DEGREE g.F.BinaryField.MODULUS l.factor (get_or l.source k 0));
  rest : (k : ℕ) → l.i ≤ k → get_or l.target k 0 ≡ get_or l.initial.target k 0;
  small : (k : ℕ) → get_or l.target k 0 < 2 ^ g.F.BinaryField.DEGREE;
}
