use Rattle.std.proofs.Common.{◌≡◌, ◌++◌}
use Rattle.std.specs.VecDeque.Iter.{deque_iter_rest}
use Rattle.plan_text.proofs.chips.put_blocks.Given as goal

-- the blocks so far and what is left make the whole
abbrev pub invariant-loop-block : goal.invariant-loop-block
invariant-loop-block l = l.out ++ deque_iter_rest l.block-iterator ≡ l.initial.out ++ l.blocks
