use Rattle.headline_laws.proofs.TableBlocks.{plan_blocks_left}
use Rattle.nandlab.proofs.answer.plan_read.Goals as goal

pub returns-in-Ok-clause-table_blocks : goal.returns-in-Ok-clause-table_blocks
returns-in-Ok-clause-table_blocks c = plan_blocks_left _ c.in-Ok.ensures.limits
