use Rattle.plan_grammar.specs.Canonical.{controller_lines}
use Rattle.plan_print.proofs.Parts.{some_lines, goes_on}
use Rattle.plan_print.proofs.hardware.put_controllers.Goals as goal

pub loop-chips-preserved : goal.loop-chips-preserved
loop-chips-preserved c =
    goes_on (some_lines controller_lines) _ _ _ _ _ _ c.loop-chips.invariant c.in-Some.ensures.steps
    c.in_ok-put_controller.ensures
