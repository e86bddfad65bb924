use Rattle.std.proofs.Common.{◌≡◌, ◌<◌, ◌^◌, ℕ, ◌-◌, ◌≤◌, length, get_or}
use Rattle.std.specs.Prelude.{bit_xor}
use Rattle.code_model.specs.Binary.{times}
use Rattle.bch_solver.proofs.residue.moved_up.Given as goal

abbrev pub invariant-loop-i : goal.invariant-loop-i
invariant-loop-i g l = record {
  long : length l.next ≡ 17;
  first : get_or l.next 0 0 ≡ times g.F.BinaryField.DEGREE g.F.BinaryField.MODULUS l.lead (get_or l.locator.coefficients 0 0);
  done : (k : ℕ) → 0 < k → k < l.i → get_or l.next k 0 ≡ bit_xor (get_or l.residue (k - 1) 0) (times g.F.BinaryField.DEGREE g.F.BinaryField.MODULUS l.lead (get_or l.locator.coefficients k 0));
  rest : (k : ℕ) → l.i ≤ k → get_or l.next k 0 ≡ 0;
  small : (k : ℕ) → get_or l.next k 0 < 2 ^ g.F.BinaryField.DEGREE;
}
