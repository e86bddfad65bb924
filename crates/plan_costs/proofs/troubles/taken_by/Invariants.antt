use Rattle.std.proofs.Common.{◌≡◌, min, take}
use Rattle.std.specs.List.{sum_by}
use Rattle.plan_costs.specs.Room.{in_long}
use Rattle.plan_costs.proofs.troubles.taken_by.Given as goal

abbrev pub invariant-loop-gap : goal.invariant-loop-gap
invariant-loop-gap l = l.taken ≡ in_long (sum_by (λ gap. min gap l.marks) (take l.gap-index l.gaps))
