use Rattle.std.proofs.Common.{◌≡◌}
use Rattle.turnstile.specs.Passes.{IsPassOf}
use Rattle.turn_tests.proofs.tests.write_all.Given as goal

abbrev pub invariant-loop : goal.invariant-loop
invariant-loop g l = record {
  of : IsPassOf l.fn.turnstile l.pass;
  number : l.pass.number ≡ l.fn.pass.number;
}
