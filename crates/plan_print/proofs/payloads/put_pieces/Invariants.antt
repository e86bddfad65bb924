use Rattle.std.proofs.Common.{◌≡◌, ◌++◌}
use Rattle.std.specs.VecDeque.Iter.{deque_iter_rest}
use Rattle.std.specs.Prelude.{map}
use Rattle.plan_grammar.specs.Canonical.{piece_text}
use Rattle.plan_print.specs.Lines.{behind_blanks}
use Rattle.plan_print.proofs.payloads.put_pieces.Given as goal

-- the text so far and what is left make the whole
abbrev pub invariant-loop-piece : goal.invariant-loop-piece
invariant-loop-piece l =
    l.out ++ behind_blanks (map piece_text (deque_iter_rest l.piece-iterator))
    ≡ l.initial.out ++ behind_blanks (map piece_text l.pieces)
