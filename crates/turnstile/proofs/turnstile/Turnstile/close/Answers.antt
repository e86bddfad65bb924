use Rattle.std.proofs.Common.{map, length, ap, sym, subst, ◌∙◌}
use Rattle.turnstile.specs.Turns.{AllHaveSeen}
use Rattle.turnstile.specs.Passes.{own}
use Rattle.turnstile.proofs.Steps.{gives_back}
use Rattle.turnstile.proofs.Dealing.{all_saw, length_own}
use Rattle.turnstile.proofs.turnstile.Turnstile.close.Goals as goal

pub returns-clause-tag : goal.returns-clause-tag
returns-clause-tag g c =
    let t = g.T.Tagged in
    let me = c.gather-seat.ensures.all in
    let many = ap (λ lock. lock.passes) (sym c.self.view_is) in
    let all = ap (λ m. length m.0.passes) me ∙ length_own c.args.passes ∙ c.requires.all ∙ many in
    let back = gives_back t.tag t.history t.names _ _ _ _ _ _ _ c.close_with-closed.ensures.values.2
    c.take-value.ensures.value all (ap (λ m. m.0.turn) me) in
    back.0 ∙ ap (λ lock. lock.tag) c.self.view_is

pub returns-clause-saw : goal.returns-clause-saw
returns-clause-saw g c =
    let t = g.T.Tagged in
    let history = t.history c.take-value.result in
    let me = c.gather-seat.ensures.all in
    let many = ap (λ lock. lock.passes) (sym c.self.view_is) in
    let all = ap (λ m. length m.0.passes) me ∙ length_own c.args.passes ∙ c.requires.all ∙ many in
    let back = gives_back t.tag t.history t.names _ _ _ _ _ _ _ c.close_with-closed.ensures.values.2
    c.take-value.ensures.value all (ap (λ m. m.0.turn) me) in
    let start = t.tag c.self.inside.table.shared.key.start.value in
    all_saw c.args.self t.names _ c.args.passes
    (subst (λ tag. AllHaveSeen (t.names tag) history (map own c.args.passes)) (ap (λ lock. lock.tag) c.self.view_is)
    (subst (λ ps. AllHaveSeen (t.names start) history ps) (ap (λ m. m.0.passes) me) back.1))
