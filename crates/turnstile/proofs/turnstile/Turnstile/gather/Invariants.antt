use Rattle.std.proofs.Common.{◌≡◌, length, map, ◌++◌}
use Rattle.turnstile.specs.Seats.{Keeps}
use Rattle.turnstile.specs.Passes.{AreOf, own}
use Rattle.turnstile.proofs.turnstile.Turnstile.gather.Given as goal

abbrev pub invariant-loop-pass : goal.invariant-loop-pass
invariant-loop-pass g l = record {
  table : l.seat.table_id ≡ l.fn.self.table;
  keeps : Keeps l.fn.self.tag l.seat.me;
  all : l.seat.me.0.passes ++ map own l.passes ≡ map own l.fn.passes;
  rest : AreOf l.fn.self l.passes;
}

abbrev pub decreases-loop-pass : goal.decreases-loop-pass
decreases-loop-pass g l = length l.passes
