use Rattle.std.proofs.Common.{refl}
use Rattle.plan_index.proofs.marks.ChipMarks.add_weak.Goals as goal

pub returns-in-Program : goal.returns-in-Program
returns-in-Program c = c.add_weak_page.ensures c.args.weak.now c.in-Program.is refl

pub returns-in-Erase : goal.returns-in-Erase
returns-in-Erase c = c.add_weak_block.ensures c.args.weak.now c.in-Erase.is refl
