use Rattle.std.proofs.Common.{◌≡◌, take}
use Rattle.std.specs.Prelude.{flat_map}
use Rattle.bus_script.specs.Answer.{event_line}
use Rattle.bus_script.proofs.text.run_text.Given as goal

-- the lines of the events so far
abbrev pub invariant-loop-n : goal.invariant-loop-n
invariant-loop-n l = l.out ≡ flat_map event_line (take l.n l.run.events)
