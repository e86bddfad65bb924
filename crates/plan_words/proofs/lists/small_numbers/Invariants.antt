use Rattle.std.proofs.Common.{◌≡◌}
use Rattle.plan_grammar.specs.Forms.{small_numbers}
use Rattle.plan_words.proofs.Growing.{with_items}
use Rattle.plan_words.proofs.lists.small_numbers.Given as goal

-- the items so far and the words that are left make the whole
abbrev pub invariant-loop-word : goal.invariant-loop-word
invariant-loop-word l = record {
  can : (goal.iterator-loop-word).can_next l.word-iterator;
  finite : (goal.iterator-loop-word).is_finite l.word-iterator;
  whole : small_numbers l.fn.words ≡ with_items l.found (small_numbers l.word-iterator);
}
