use Rattle.std.proofs.Common.{◌≡◌, ◌++◌}
use Rattle.std.specs.VecDeque.Iter.{deque_iter_rest}
use Rattle.std.specs.Prelude.{flat_map}
use Rattle.plan_grammar.specs.Canonical.{chip_lines}
use Rattle.plan_print.specs.Lines.{text_of}
use Rattle.plan_print.proofs.hardware.put_controller.Given as goal

-- the text so far and what is left make the whole
abbrev pub invariant-loop-chip : goal.invariant-loop-chip
invariant-loop-chip l =
    l.out ++ text_of (flat_map chip_lines (deque_iter_rest l.chip-iterator))
    ≡ l.initial.out ++ text_of (flat_map chip_lines l.chips)
