use Rattle.std.proofs.Common.{◌≡◌}
use Rattle.plan_words.proofs.Growing.{with_items}
use Rattle.bus_script.specs.Script.{cycles, with_cycles}
use Rattle.bus_script.proofs.reader.add_cycles.Given as goal

-- the cycles so far and the words that are left make the whole
abbrev pub invariant-loop-word : goal.invariant-loop-word
invariant-loop-word l = record {
  can : (goal.iterator-loop-word).can_next l.word-iterator;
  finite : (goal.iterator-loop-word).is_finite l.word-iterator;
  whole : with_cycles l.fn.so_far (cycles l.fn.words) ≡ with_items l.found (cycles l.word-iterator);
}
