use Rattle.std.proofs.Common.{arith}
use Rattle.bbt_image.proofs.Pages.{body-long}
use Rattle.bbt_image.proofs.header.table_at.Goals as goal

pub returns-else-g-eq1-clause-within : goal.returns-else-g-eq1-clause-within
returns-else-g-eq1-clause-within c = let room = body-long c.args.g.now in omega arith
