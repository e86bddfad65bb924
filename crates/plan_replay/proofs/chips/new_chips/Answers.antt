use Rattle.plan_replay.proofs.Buses.{few_new}
use Rattle.plan_replay.proofs.chips.new_chips.Goals as goal

pub lab_chips-requires : goal.lab_chips-requires
lab_chips-requires c =
    few_new c.args.plan.now c.args.controller c.in_ok-chips.chips c.was_read.ensures c.requires c.in_ok-chips.ensures
