use Rattle.plan_text.proofs.WasRead.{small_of}
use Rattle.plan_text.proofs.plan.Plan.of.Goals as goal

pub all_commands-requires : goal.all_commands-requires
all_commands-requires c = small_of c.args.draft c.requires
