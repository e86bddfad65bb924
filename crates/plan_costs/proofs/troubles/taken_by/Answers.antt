use Rattle.std.proofs.Common.{◌≡◌, ◌∙◌, sym, ap, min, arith}
use Rattle.std.specs.List.{sum_by}
use Rattle.plan_costs.specs.Room.{in_long}
use Rattle.plan_costs.proofs.Steps.{none_taken}
use Rattle.plan_costs.proofs.troubles.taken_by.Goals as goal

pub returns-else-marks-ne0 : goal.returns-else-marks-ne0
returns-else-marks-ne0 c =
    let none : c.args.marks ≡ 0 = omega arith in
    sym (ap (λ m. in_long (sum_by (λ gap. min gap m) c.args.gaps.now)) none ∙ ap in_long (none_taken c.args.gaps.now))
