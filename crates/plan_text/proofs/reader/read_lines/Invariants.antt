use Rattle.std.proofs.Common.{length}
use Rattle.plan_text.specs.Reading.{IsReadUpTo}
use Rattle.plan_text.proofs.reader.read_lines.Given as goal

abbrev pub invariant-loop-rest : goal.invariant-loop-rest
invariant-loop-rest l = IsReadUpTo l.fn.bytes l.draft l.rest l.line

abbrev pub decreases-loop-rest : goal.decreases-loop-rest
decreases-loop-rest l = length l.rest
