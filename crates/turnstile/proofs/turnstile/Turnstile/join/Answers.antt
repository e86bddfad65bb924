use Rattle.std.proofs.Common.{rules, arith, ap}
use Rattle.turnstile.proofs.Steps.{joins}
use Rattle.turnstile.proofs.turnstile.Turnstile.join.Goals as goal

pub join_seat-requires : goal.join_seat-requires
join_seat-requires g c =
    let m = c.into_seat.ensures.me in (
      search rules,
      search rules,
      ap (λ m. m.1) m.me,
      omega arith,
      joins g.T.Tagged.tag g.T.Tagged.history g.T.Tagged.names _ _ _ _ _ _ c.requires.keeps.some
          (ap (λ m. m.0.ticket) m.me) (ap (λ m. m.0.turn) m.me),
    )
