use Rattle.std.proofs.Common.{◌≡◌, ◌<◌, ◌%◌, ◌^◌}
use Rattle.std.specs.Prelude.{MatchOption}
use Rattle.code_model.specs.Binary.{HasDegree}
use Rattle.gf2_poly.proofs.poly.Poly.degree.Given as goal

abbrev pub invariant-loop-n : goal.invariant-loop-n
invariant-loop-n l = MatchOption l.degree (l.bits % 2 ^ l.n ≡ 0) (λ degree. (degree < l.n) × HasDegree degree (l.bits % 2 ^ l.n))
