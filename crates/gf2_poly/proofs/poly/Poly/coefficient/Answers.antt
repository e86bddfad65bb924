use Rattle.std.proofs.Common.{◌<◌, ◌^◌, ℕ, arith, subst}
use Rattle.std.proofs.lemmas.Bool.Decides.{nat_tests}
use Rattle.std.proofs.lemmas.Nat.Bits.{bit_at_above}
use Rattle.gf2_poly.proofs.poly.Poly.coefficient.Goals as goal

pub returns-else-n-lt256 : goal.returns-else-n-lt256
returns-else-n-lt256 c =
    let n = c.args.n in
    let small : c.args.self.now < 2 ^ 256 = subst (λ (x : ℕ). x < 2 ^ 256) c.self.view_is c.self.invariant in
    let none = bit_at_above c.args.self.now 256 n small c.if-n-lt256.false in
    (grind (arith, nat_tests), grind (arith, nat_tests))
