use Rattle.std.proofs.Common.{◌≡◌, ◌-◌, map, take}
use Rattle.plan_costs.specs.Room.{positive}
use Rattle.plan_costs.proofs.troubles.gaps_less.Given as goal

abbrev pub invariant-loop-gap : goal.invariant-loop-gap
invariant-loop-gap l = l.left.items ≡ positive (map (λ gap. gap - l.marks) (take l.gap-index l.gap-items))
