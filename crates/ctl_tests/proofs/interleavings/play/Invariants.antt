use Rattle.std.proofs.Common.{◌≡◌, true}
use Rattle.ctl_core.specs.Past.{course_of, takes_turns}
use Rattle.ctl_tests.proofs.interleavings.play.Given as goal

-- sessions may take turns
abbrev pub invariant-loop-n : goal.invariant-loop-n
invariant-loop-n g l = takes_turns (course_of g.F.Flash.fault_model g.F.Flash.state l.core) ≡ true
