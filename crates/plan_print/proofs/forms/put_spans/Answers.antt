use Rattle.std.proofs.Common.{◌∙◌, ◌++◌, ◌∷◌, ap, sym}
use Rattle.std.specs.Prelude.{flat_map}
use Rattle.std.specs.VecDeque.Iter.{deque_iter_rest}
use Rattle.std.proofs.lemmas.List.{nil_from_length}
use Rattle.plan_grammar.specs.Canonical.{span_text}
use Rattle.plan_print.proofs.Parts.{behind_separators, ends, joined_put}
use Rattle.plan_print.proofs.forms.put_spans.Goals as goal

pub returns : goal.returns
returns c =
    let begun = c.put_span.new.out in
    let left = deque_iter_rest c.loop-span.span-iterator in
    let none = nil_from_length left c.in-None.ensures.steps.0 in
    let all = ends (behind_separators 44 span_text) _ c.loop-span.out left c.loop-span.invariant none in
    joined_put 44 span_text c.args.out.now begun c.loop-span.out c.in-Some.first.now
    (deque_iter_rest c.next.new.self) c.args.spans.now c.in_ok-put_span.ensures
    (all ∙ ap (λ it. begun ++ flat_map (λ span. 44 ∷ span_text span) (deque_iter_rest it))
    c.into_iter-span-iterator.ensures.into_iter_gives)
    (sym c.iter-others.ensures.rest ∙ c.in-Some.ensures.steps)
