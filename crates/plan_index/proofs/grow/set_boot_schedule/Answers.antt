use Rattle.plan_index.specs.Boots.{with_schedule_line}
use Rattle.plan_index.proofs.LastItems.{last_set}
use Rattle.plan_index.proofs.grow.set_boot_schedule.Goals as goal

pub returns-in-Some : goal.returns-in-Some
returns-in-Some c = last_set (with_schedule_line c.args.schedule) c.args.boots.now c.in-Some.boot.now c.in-Some.ensures.item.1
