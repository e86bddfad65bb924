use Rattle.nand_model.proofs.Bounds.{pages-le}
use Rattle.tool_steps.proofs.bound.most.Goals as goal

pub trouble_cost-requires : goal.trouble_cost-requires
trouble_cost-requires c = pages-le c.args.g.now
