use Rattle.std.proofs.Common.{◌≡◌, length}
use Rattle.plan_grammar.specs.Forms.{parts_between, spans_from}
use Rattle.plan_words.proofs.Growing.{with_items}
use Rattle.plan_words.proofs.tears.spans.Given as goal

-- the spans so far and the texts that are left make the whole
abbrev pub invariant-loop-first : goal.invariant-loop-first
invariant-loop-first l =
    spans_from 0 (parts_between 44 l.fn.text)
    ≡ with_items l.found (spans_from l.end (parts_between 44 l.rest))

abbrev pub decreases-loop-first : goal.decreases-loop-first
decreases-loop-first l = length (parts_between 44 l.rest)
