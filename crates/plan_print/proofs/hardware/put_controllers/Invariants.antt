use Rattle.std.proofs.Common.{◌≡◌, ◌++◌}
use Rattle.std.specs.VecDeque.Iter.{deque_iter_rest}
use Rattle.std.specs.Prelude.{flat_map}
use Rattle.plan_grammar.specs.Canonical.{controller_lines}
use Rattle.plan_print.specs.Lines.{text_of}
use Rattle.plan_print.proofs.hardware.put_controllers.Given as goal

-- the text so far and what is left make the whole
abbrev pub invariant-loop-chips : goal.invariant-loop-chips
invariant-loop-chips l =
    l.out ++ text_of (flat_map controller_lines (deque_iter_rest l.chips-iterator))
    ≡ l.initial.out ++ text_of (flat_map controller_lines l.controllers)
