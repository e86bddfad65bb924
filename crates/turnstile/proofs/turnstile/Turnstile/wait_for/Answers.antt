use Rattle.std.proofs.Common.{rules, arith, ap, ◌∙◌}
use Rattle.turnstile.proofs.Steps.{looks}
use Rattle.turnstile.proofs.turnstile.Turnstile.wait_for.Goals as goal

pub load-found-requires : goal.load-found-requires
load-found-requires g c =
    let t = g.T.Tagged in
    let has = c.requires.ticket in
    let same = c.loop.invariant.1 in (
      search rules,
      omega arith,
      looks t.tag t.history t.names _ _ _ _ _ has.ticket (ap (λ m. m.0.ticket) same ∙ has.drawn_is)
          (ap (λ m. m.0.turn) same ∙ has.waits) (ap (λ m. m.1) same ∙ has.empty),
    )
