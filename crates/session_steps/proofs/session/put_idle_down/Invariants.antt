use Rattle.std.proofs.Common.{◌≡◌, ◌≤◌, ◌+◌, ◌++◌, replicate, vec_len, vec_capacity}
use Rattle.session_steps.specs.Standing.{nothing_written}
use Rattle.session_steps.proofs.session.put_idle_down.Given as goal

abbrev pub invariant-loop : goal.invariant-loop
invariant-loop l = (l.outcomes.items ≡ l.initial.outcomes.items ++ replicate l.counter nothing_written)
    × (vec_len l.outcomes + l.initial.idle ≤ vec_capacity l.outcomes + l.counter)
