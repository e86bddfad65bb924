use Rattle.std.proofs.Common.{length}
use Rattle.bus_script.proofs.Lines.{ReadUpTo}
use Rattle.bus_script.proofs.reader.read_lines.Given as goal

abbrev pub invariant-loop-rest : goal.invariant-loop-rest
invariant-loop-rest l = ReadUpTo l.fn.bytes l.script l.rest l.line

abbrev pub decreases-loop-rest : goal.decreases-loop-rest
decreases-loop-rest l = length l.rest
