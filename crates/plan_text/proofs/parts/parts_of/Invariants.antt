use Rattle.std.proofs.Common.{◌≡◌, ◌+◌, length, map}
use Rattle.std.specs.Prelude.{All}
use Rattle.std.specs.VecDeque.Iter.{deque_iter_rest}
use Rattle.plan_model.specs.Plan.{parts_from}
use Rattle.plan_grammar.specs.Meaning.{chip_plan}
use Rattle.plan_text.specs.Boot.{HasPartsWithin, parts_of, with_parts}
use Rattle.plan_text.proofs.parts.parts_of.Given as goal

-- the partitions so far and what is left make the whole
abbrev pub invariant-loop-chip : goal.invariant-loop-chip
invariant-loop-chip l = record {
  whole : with_parts l.parts (parts_from l.number (map chip_plan (deque_iter_rest l.chip-iterator)))
      ≡ record { first = l.first; parts = parts_of l.chips };
  within : All HasPartsWithin (deque_iter_rest l.chip-iterator);
  count : l.number + length (deque_iter_rest l.chip-iterator) ≡ length l.chips;
}
