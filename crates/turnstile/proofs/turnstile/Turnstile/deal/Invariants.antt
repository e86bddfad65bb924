use Rattle.std.proofs.Common.{◌≡◌, ◌-◌, []}
use Rattle.turnstile.specs.Turns.{idle_view, new_passes}
use Rattle.turnstile.specs.Passes.{new_standings}
use Rattle.turnstile.proofs.turnstile.Turnstile.deal.Given as goal

abbrev pub invariant-loop-number : goal.invariant-loop-number
invariant-loop-number g l = record {
  table : l.seat.table_id ≡ l.fn.self.table;
  me : l.seat.me ≡ (idle_view l.fn.self.tag (new_passes l.number (l.fn.passes - l.number)), []);
  list : l.list ≡ new_standings l.fn.self 0 l.number;
  last : l.last ≡ l.fn.passes - 1;
}
