use Rattle.std.proofs.Common.{◌≡◌, ◌<◌, ◌/◌, ◌^◌, ◌-◌}
use Rattle.code_model.specs.Binary.{product}
use Rattle.gf2_poly.proofs.poly.Poly.mul.Given as goal

abbrev pub invariant-loop-i : goal.invariant-loop-i
invariant-loop-i l = record {
  value : l.sum ≡ product (l.left / 2 ^ (256 - l.i)) l.right;
  small : l.sum < 2 ^ 256;
}
