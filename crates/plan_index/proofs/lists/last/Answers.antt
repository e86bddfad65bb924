use Rattle.std.proofs.Common.{◌-◌, sym, arith}
use Rattle.plan_index.proofs.LastItems.{last_of_at}
use Rattle.plan_index.proofs.lists.last.Goals as goal

pub returns-else-count-eq0 : goal.returns-else-count-eq0
returns-else-count-eq0 g c = sym (last_of_at c.args.list.now (c.len-count.result - 1) c.get.result.now (omega arith) c.get.ensures)
