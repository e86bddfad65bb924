use Rattle.std.proofs.Common.{◌≡◌, ◌<◌, ◌/◌, ◌^◌, ◌-◌}
use Rattle.code_model.specs.Binary.{remainder}
use Rattle.gf2_poly.proofs.poly.Poly.remainder.Given as goal

abbrev pub invariant-loop-i : goal.invariant-loop-i
invariant-loop-i l = record {
  value : l.rest ≡ remainder l.degree l.divisor (l.dividend / 2 ^ (256 - l.i));
  small : l.rest < 2 ^ l.degree;
}
