use Rattle.std.proofs.Common.{◌≡◌, ◌++◌}
use Rattle.std.specs.Prelude.{flat_map}
use Rattle.std.specs.VecDeque.Iter.{deque_iter_rest}
use Rattle.plan_grammar.specs.Devices.{bad_in, bad_blocks}
use Rattle.plan_text.proofs.chips.bad_blocks.Given as goal

-- the blocks so far and what is left make the whole
abbrev pub invariant-loop-detail : goal.invariant-loop-detail
invariant-loop-detail l = l.bad ++ flat_map bad_in (deque_iter_rest l.detail-iterator) ≡ bad_blocks l.chip
