use Rattle.std.proofs.Common.{rules, arith}
use Rattle.turnstile.proofs.Steps.{marks}
use Rattle.turnstile.proofs.turnstile.Turnstile.mark.Goals as goal

pub store-requires : goal.store-requires
store-requires g c =
    let t = g.T.Tagged in
    let w = c.requires.work in (
      search rules,
      omega arith,
      marks t.tag t.history t.names _ _ _ _ _ _ w.value w.before w.pass w.holds w.tagged w.turn w.one w.appended
          w.front_is,
    )
