use Rattle.std.proofs.Common.{◌≡◌, ◌∷◌, ◌++◌}
use Rattle.std.specs.Prelude.{flat_map}
use Rattle.std.specs.VecDeque.Iter.{deque_iter_rest}
use Rattle.plan_grammar.specs.Canonical.{span_text}
use Rattle.plan_print.proofs.forms.put_spans.Given as goal

-- the text so far and what is left make the whole
abbrev pub invariant-loop-span : goal.invariant-loop-span
invariant-loop-span l =
    l.out ++ flat_map (λ span. 44 ∷ span_text span) (deque_iter_rest l.span-iterator)
    ≡ l.initial.out ++ flat_map (λ span. 44 ∷ span_text span) (deque_iter_rest l.initial.span-iterator)
