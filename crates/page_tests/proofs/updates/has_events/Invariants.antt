use Rattle.std.proofs.Common.{◌≡◌}
use Rattle.bbt_flash.specs.Update.{update_sizes}
use Rattle.page_tests.proofs.updates.has_events.Given as goal

-- the sizes stay
abbrev pub invariant-loop-event : goal.invariant-loop-event
invariant-loop-event l = update_sizes l.update ≡ l.g
