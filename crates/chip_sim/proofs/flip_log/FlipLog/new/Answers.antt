use Rattle.std.proofs.Common.{rules}
use Rattle.chip_sim.proofs.LogLemmas.{flips_of-none}
use Rattle.chip_sim.proofs.flip_log.FlipLog.new.Goals as goal

pub returns-clause-flips : goal.returns-clause-flips
returns-clause-flips c p = flips_of-none c.new.result.items _ c.args.pages p (c.in_ok-vec.ensures.items_if_clones_equal (λ y h. search rules))
