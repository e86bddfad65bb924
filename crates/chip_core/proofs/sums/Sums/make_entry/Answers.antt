use Rattle.std.proofs.Common.{ap, ◌∙◌}
use Rattle.chip_core.specs.Sums.{stats_in}
use Rattle.chip_core.proofs.Summing.{added_found, stats_kept}
use Rattle.chip_core.proofs.sums.Sums.make_entry.Goals as goal

pub returns-in_ok-push-clause-there : goal.returns-in_ok-push-clause-there
returns-in_ok-push-clause-there c = rw c.in_ok-push.ensures.items (added_found c.self.inside.entries.items _)

pub returns-in_ok-push-clause-stats : goal.returns-in_ok-push-clause-stats
returns-in_ok-push-clause-stats c = ap stats_in c.in_ok-push.ensures.items ∙ stats_kept c.self.inside.entries.items c.args.dev ∙ ap stats_in c.self.view_is
