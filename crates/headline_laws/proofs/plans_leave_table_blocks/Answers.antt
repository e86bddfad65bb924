use Rattle.headline_laws.proofs.TableBlocks.{blocks_left, plan_blocks_left}
use Rattle.headline_laws.proofs.plans_leave_table_blocks.Goals as goal

pub returns-clause-chip : goal.returns-clause-chip
returns-clause-chip c = blocks_left

pub returns-clause-plan : goal.returns-clause-plan
returns-clause-plan c = plan_blocks_left
