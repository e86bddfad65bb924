use Rattle.tool_steps.proofs.Ends.{command_ends, command_ends_at_last}
use Rattle.tool_steps.proofs.bound.cost.Goals as goal

pub returns-clause-ends : goal.returns-clause-ends
returns-clause-ends c = command_ends c.args.g.now c.args.command.now c.requires.runs

pub returns-clause-ends_at_last : goal.returns-clause-ends_at_last
returns-clause-ends_at_last c = command_ends_at_last c.args.g.now c.args.command.now c.requires.runs
