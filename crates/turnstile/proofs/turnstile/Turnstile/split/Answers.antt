use Rattle.std.proofs.Common.{rules, arith}
use Rattle.turnstile.proofs.Steps.{splits}
use Rattle.turnstile.proofs.turnstile.Turnstile.split.Goals as goal

pub split_seat-requires : goal.split_seat-requires
split_seat-requires g c =
    let t = g.T.Tagged in
    let idle = c.requires.idle in
    (search rules, omega arith, splits t.tag t.history t.names _ _ _ _ idle.0 idle.1)
