use Rattle.std.proofs.Common.{◌≡◌, ◌++◌}
use Rattle.std.specs.Prelude.{flat_map}
use Rattle.std.specs.VecDeque.Iter.{deque_iter_rest}
use Rattle.plan_grammar.specs.Devices.{weak_in, weak_places}
use Rattle.plan_text.proofs.chips.weak_places.Given as goal

-- the places so far and what is left make the whole
abbrev pub invariant-loop-detail : goal.invariant-loop-detail
invariant-loop-detail l = l.places ++ flat_map weak_in (deque_iter_rest l.detail-iterator) ≡ weak_places l.chip
