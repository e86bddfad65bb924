use Rattle.std.proofs.Common.{rules, arith}
use Rattle.turnstile.proofs.Steps.{serves}
use Rattle.turnstile.proofs.turnstile.Turnstile.serve_next.Goals as goal

pub fetch_add-served-requires : goal.fetch_add-served-requires
fetch_add-served-requires g c =
    let t = g.T.Tagged in
    let w = c.requires.marked in
    (search rules, omega arith, serves t.tag t.history t.names _ _ _ _ _ w.value w.holds w.tagged w.turn w.backed)
