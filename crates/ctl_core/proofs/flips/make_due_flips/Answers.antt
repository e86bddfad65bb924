use Rattle.std.proofs.Common.{sym, subst}
use Rattle.std.specs.Prelude.{All}
use Rattle.ctl_core.specs.Flips.{CanFlip}
use Rattle.ctl_core.proofs.flips.make_due_flips.Goals as goal

pub make_flips-requires-clause-there : goal.make_flips-requires-clause-there
make_flips-requires-clause-there g c = subst (λ cs. All (CanFlip cs) c.args.faults.now.flips) (sym c.reserve_for.ensures.same) c.requires.there
