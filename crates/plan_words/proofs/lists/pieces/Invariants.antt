use Rattle.std.proofs.Common.{◌≡◌}
use Rattle.plan_grammar.specs.Forms.{pieces}
use Rattle.plan_words.proofs.Growing.{with_items}
use Rattle.plan_words.proofs.lists.pieces.Given as goal

-- the items so far and the words that are left make the whole
abbrev pub invariant-loop-word : goal.invariant-loop-word
invariant-loop-word l = record {
  can : (goal.iterator-loop-word).can_next l.word-iterator;
  finite : (goal.iterator-loop-word).is_finite l.word-iterator;
  whole : pieces l.fn.words ≡ with_items l.found (pieces l.word-iterator);
}
