use Rattle.std.proofs.Common.{◌+◌}
use Rattle.std.specs.Prelude.{option_map, unwrap_or}
use Rattle.chip_sim.proofs.LogLemmas.{Counts}
use Rattle.chip_sim.proofs.flip_log.count_flips.Given as goal

abbrev pub invariant-loop-next : goal.invariant-loop-next
invariant-loop-next l = Counts l.flips l.fn.last l.next l.from l.to l.count

abbrev pub decreases-loop-next : goal.decreases-loop-next
decreases-loop-next l = unwrap_or (option_map (λ p. p + 1) l.next) 0
