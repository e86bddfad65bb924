use Rattle.std.proofs.Common.{◌≡◌, ◌++◌}
use Rattle.std.specs.VecDeque.Iter.{deque_iter_rest}
use Rattle.std.specs.Prelude.{flat_map}
use Rattle.plan_grammar.specs.Forms.{piece_bytes}
use Rattle.plan_grammar.specs.Devices.{data_bytes}
use Rattle.plan_text.proofs.payload.data_bytes.Given as goal

-- the bytes so far and what is left make the whole
abbrev pub invariant-loop-piece : goal.invariant-loop-piece
invariant-loop-piece l = l.bytes ++ flat_map piece_bytes (deque_iter_rest l.piece-iterator) ≡ data_bytes l.payload
