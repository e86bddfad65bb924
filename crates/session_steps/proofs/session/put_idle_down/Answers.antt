use Rattle.std.proofs.Common.{◌≡◌, ◌+◌, ◌++◌, ◌∷◌, [], replicate, ap, sym, ◌∙◌, arith, append-nil, append_assoc}
use Rattle.std.proofs.lemmas.List.{replicate_more}
use Rattle.session_steps.specs.Standing.{nothing_written}
use Rattle.session_steps.proofs.session.put_idle_down.Goals as goal

pub loop-init : goal.loop-init
loop-init c = (sym (append-nil c.args.outcomes.now.items), omega (arith, c.requires))

pub push_reserved-requires : goal.push_reserved-requires
push_reserved-requires c = omega (arith, c.loop.invariant.1, c.loop-test.true)

pub loop-preserved : goal.loop-preserved
loop-preserved c = (
  c.push_reserved.ensures.items
      ∙ ap (λ xs. xs ++ nothing_written ∷ []) c.loop.invariant.0
      ∙ append_assoc c.args.outcomes.now.items (replicate c.loop.counter nothing_written) (nothing_written ∷ [])
      ∙ ap (λ ys. c.args.outcomes.now.items ++ ys) (replicate_more c.loop.counter nothing_written),
  omega (arith, c.loop.invariant.1, c.push_reserved.ensures.len, c.push_reserved.ensures.capacity),
)

pub returns : goal.returns
returns c =
    let all : c.loop.counter ≡ c.args.idle = omega (arith, c.loop-test.false, c.loop.auto.counter-end) in
    c.loop.invariant.0 ∙ ap (λ n. c.args.outcomes.now.items ++ replicate n nothing_written) all
