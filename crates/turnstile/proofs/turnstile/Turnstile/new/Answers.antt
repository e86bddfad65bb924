use Rattle.std.proofs.Common.{◌∷◌, [], ◌++◌, ap, sym, subst, ◌∙◌, arith}
use Rattle.atomic_table.specs.Table.{opening}
use Rattle.turnstile.specs.Turns.{Stands, first_view}
use Rattle.turnstile.proofs.Steps.{opens}
use Rattle.turnstile.proofs.turnstile.Turnstile.new.Goals as goal

pub new-requires-2 : goal.new-requires-2
new-requires-2 g c =
    let t = g.T.Tagged in
    let items = c.push_reserved.ensures.items ∙ ap (λ l. l ++ c.args.value ∷ []) c.in_ok-slots.ensures.items in
    subst (λ xs. Stands t.tag t.history t.names (t.tag c.of.result.value) c.args.passes
    (opening (0 ∷ 0 ∷ 0 ∷ []) xs (first_view (t.tag c.of.result.value) c.args.passes))) (sym items)
    (opens t.tag t.history t.names _ _ c.args.value (ap t.tag (sym c.of.ensures)) c.requires.fresh (omega arith))
