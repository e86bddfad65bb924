use Rattle.std.proofs.Common.{rules, arith}
use Rattle.turnstile.proofs.Steps.{draws}
use Rattle.turnstile.proofs.turnstile.Turnstile.draw.Goals as goal

pub fetch_add-requires : goal.fetch_add-requires
fetch_add-requires g c =
    let t = g.T.Tagged in
    let idle = c.requires.idle in
    (search rules, omega arith, draws t.tag t.history t.names _ _ _ _ _ idle.0 idle.1 c.requires.backed)
