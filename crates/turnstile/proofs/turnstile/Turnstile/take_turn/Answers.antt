use Rattle.turnstile.proofs.Turning.{has_ticket, works, is_at_work, is_marked, has_turned}
use Rattle.turnstile.proofs.turnstile.Turnstile.take_turn.Goals as goal

pub wait_for-requires-clause-ticket : goal.wait_for-requires-clause-ticket
wait_for-requires-clause-ticket g c =
    let t = g.T.Tagged in
    has_ticket t.tag t.history t.names g.A.Act.does _ _ _ _ _ c.requires.rests.1 c.draw-ticket.ensures.drew

pub mark-requires-clause-work : goal.mark-requires-clause-work
mark-requires-clause-work g c =
    let t = g.T.Tagged in
    is_at_work t.tag t.history t.names g.A.Act.does _ _ _ _ _ _
    (works t.tag t.history t.names g.A.Act.does _ _ _ _ _ _ _ _ _ _ c.requires.rests.1 c.draw-ticket.ensures.drew
    c.wait_for.ensures.served c.work-front.ensures.worked)

pub serve_next-requires-clause-marked : goal.serve_next-requires-clause-marked
serve_next-requires-clause-marked g c =
    let t = g.T.Tagged in
    is_marked t.tag t.history t.names g.A.Act.does _ _ _ _ _ _
    (works t.tag t.history t.names g.A.Act.does _ _ _ _ _ _ _ _ _ _ c.requires.rests.1 c.draw-ticket.ensures.drew
    c.wait_for.ensures.served c.work-front.ensures.worked)
    _ c.mark.ensures.marked

pub returns-clause-turned : goal.returns-clause-turned
returns-clause-turned g c =
    let t = g.T.Tagged in
    has_turned t.tag t.history t.names g.A.Act.does _ _ _ _ _ _
    (works t.tag t.history t.names g.A.Act.does _ _ _ _ _ _ _ _ _ _ c.requires.rests.1 c.draw-ticket.ensures.drew
    c.wait_for.ensures.served c.work-front.ensures.worked)
    _ c.mark.ensures.marked _ c.serve_next.ensures.passed
