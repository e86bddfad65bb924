use Rattle.std.proofs.Common.{◌≡◌, ◌∷◌, [], ◌++◌, map, append_assoc, ap, sym, subst, ◌∙◌}
use Rattle.turnstile.specs.Passes.{AreOf, own}
use Rattle.turnstile.proofs.Dealing.{begins, goes_on, of_head, of_tail, all_are_of}
use Rattle.turnstile.proofs.turnstile.Turnstile.gather.Goals as goal

pub loop-pass-init : goal.loop-pass-init
loop-pass-init g c =
    let lock = c.args.self.now in
    let p = c.in-Some.first in
    let ps = c.take_first.new.self in
    let taken : c.args.passes ≡ p ∷ ps = c.in-Some.ensures.taken in
    let of = subst (λ l. AreOf lock l) taken (all_are_of lock c.args.passes c.requires) in
    let head = of_head lock p ps of in
    let now = begins lock p _ head c.into_seat-seat.ensures.me in
    record {
      table = c.into_seat-seat.ensures.table ∙ head.table;
      keeps = now.0;
      all = ap (λ l. l ++ map own ps) now.1 ∙ ap (λ l. map own l) (sym taken);
      rest = of_tail lock p ps of;
    }

pub join-requires-clause-of : goal.join-requires-clause-of
join-requires-clause-of g c =
    let lock = c.args.self.now in
    of_head lock c.in-Some-take_first.pass c.take_first-in-loop-pass.new.self
    (subst (λ l. AreOf lock l) c.in-Some-take_first.ensures.taken c.loop-pass.invariant.rest)

pub loop-pass-preserved : goal.loop-pass-preserved
loop-pass-preserved g c =
    let lock = c.args.self.now in
    let p = c.in-Some-take_first.pass in
    let ps = c.take_first-in-loop-pass.new.self in
    let taken : c.loop-pass.passes ≡ p ∷ ps = c.in-Some-take_first.ensures.taken in
    let inv = c.loop-pass.invariant in
    let now = goes_on lock p _ _ inv.keeps c.join.ensures.joined in
    record {
      table = c.join.ensures.table ∙ inv.table;
      keeps = now.0;
      all = ap (λ l. l ++ map own ps) now.1 ∙ append_assoc c.loop-pass.seat.me.0.passes (own p ∷ []) (map own ps)
          ∙ ap (λ l. c.loop-pass.seat.me.0.passes ++ map own l) (sym taken) ∙ inv.all;
      rest = of_tail lock p ps (subst (λ l. AreOf lock l) taken inv.rest);
    }
