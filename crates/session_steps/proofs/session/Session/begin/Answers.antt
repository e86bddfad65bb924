use Rattle.tool_steps.specs.Work.{left_of}
use Rattle.session_steps.proofs.Mirrors.{starts_with_op}
use Rattle.session_steps.proofs.session.Session.begin.Goals as goal

pub unreachable-requires : goal.unreachable-requires
unreachable-requires c = starts_with_op c.args.g.now c.args.command.now (left_of c.in_ok-tool.tool) c.in_ok-op.field-0 c.requires.fits c.requires.asks c.in_ok-tool.ensures
    c.in_ok-op.ensures.step c.in-Done.is
