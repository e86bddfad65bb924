use Rattle.std.proofs.Common.{◌≡◌, ◌+◌, ◌-◌, ◌≤◌, ◌^◌}
use Rattle.std.specs.VecDeque.Iter.{deque_iter_rest}
use Rattle.plan_grammar.specs.Devices.{pieces_length}
use Rattle.plan_costs.specs.Room.{in_long}
use Rattle.plan_store.proofs.data.pieces_len.Given as goal

-- the bytes so far and those of the pieces that are left are all of them
abbrev pub invariant-loop-piece : goal.invariant-loop-piece
invariant-loop-piece l =
    (l.len ≤ 2 ^ 64 - 1) × (in_long (l.len + pieces_length (deque_iter_rest l.piece-iterator)) ≡ in_long (pieces_length l.pieces))
