use Rattle.std.proofs.Common.{◌≡◌, ◌-◌, ◌≤◌, length, take}
use Rattle.std.specs.Io.KnownBytes.{append_known}
use Rattle.lab_outside.proofs.writing.write_all.Given as goal

abbrev pub invariant-loop-written : goal.invariant-loop-written
invariant-loop-written g l = record {
  in_text : l.written ≤ length l.bytes;
  count : g.K.Sink.faults l.initial.sink ≤ g.K.Sink.faults l.sink;
  held : g.K.Sink.held l.sink ≡ append_known (g.K.Sink.held l.initial.sink) (take l.written l.bytes);
}

abbrev pub decreases-loop-written : goal.decreases-loop-written
decreases-loop-written g l = length l.bytes - l.written
