use Rattle.std.proofs.Common.{◌++◌, arith}
use Rattle.tool_steps.specs.Dumping.{counts_with, dump_end}
use Rattle.tool_steps.proofs.Dumps.{ended_turn, later_left-none}
use Rattle.tool_steps.proofs.dumping.Dumping.leave_block.Goals as goal

pub returns-then-at-eq0-clause-turn : goal.returns-then-at-eq0-clause-turn
returns-then-at-eq0-clause-turn c =
    let counts = counts_with c.args.counts (c.args.self.now.dump ++ c.args.part.now) in
    ended_turn c.ended.result (dump_end counts) _ _ c.ended.ensures.turn (later_left-none c.args.g.now c.args.at counts (omega (arith, c.if-at-eq0.true)))
