use Rattle.std.proofs.Common.{◌≡◌, ◌+◌, ◌-◌, ◌≤◌, length, drop}
use Rattle.lab_text.specs.Text.{line_length}
use Rattle.lab_text.proofs.lines.line_end.Given as goal

-- the bytes so far belong to the line, and are no more than a line has
abbrev pub invariant-loop-end : goal.invariant-loop-end
invariant-loop-end l = record {
  begun : l.from ≤ l.end;
  within : l.end ≤ length l.bytes;
  short : l.end ≤ l.from + 65536;
  same : l.from + line_length (drop l.from l.bytes) ≡ l.end + line_length (drop l.end l.bytes);
}

abbrev pub decreases-loop-end : goal.decreases-loop-end
decreases-loop-end l = length l.bytes - l.end
