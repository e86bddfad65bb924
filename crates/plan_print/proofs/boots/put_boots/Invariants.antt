use Rattle.std.proofs.Common.{◌≡◌, ◌++◌}
use Rattle.std.specs.VecDeque.Iter.{deque_iter_rest}
use Rattle.std.specs.Prelude.{flat_map}
use Rattle.plan_grammar.specs.Canonical.{boot_lines}
use Rattle.plan_print.specs.Lines.{text_of}
use Rattle.plan_print.proofs.boots.put_boots.Given as goal

-- the text so far and what is left make the whole
abbrev pub invariant-loop-boot : goal.invariant-loop-boot
invariant-loop-boot l =
    l.out ++ text_of (flat_map boot_lines (deque_iter_rest l.boot-iterator))
    ≡ l.initial.out ++ text_of (flat_map boot_lines l.boots)
