use Rattle.std.proofs.Common.{◌≡◌, ◌-◌, ◌<◌, ◌≤◌, length}
use Rattle.std.specs.Io.KnownBytes.{prepend_known}
use Rattle.lab_outside.proofs.reading.read_to_end.Given as goal

abbrev pub invariant-loop-bytes : goal.invariant-loop-bytes
invariant-loop-bytes g l = record {
  asks : 0 < length l.piece.items;
  within : length l.bytes ≤ l.limit;
  count : g.S.Source.faults l.initial.source ≤ g.S.Source.faults l.source;
  calm : g.S.Source.faults l.source ≡ g.S.Source.faults l.initial.source;
  moved : g.S.Source.left l.initial.source ≡ prepend_known l.bytes (g.S.Source.left l.source);
}

abbrev pub decreases-loop-bytes : goal.decreases-loop-bytes
decreases-loop-bytes g l = l.limit - length l.bytes
