use Rattle.std.proofs.Common.{◌≡◌, sym, ◌∙◌, ap, subst}
use Rattle.turnstile.specs.Passes.{AreAllPasses, new_standings}
use Rattle.turnstile.proofs.Dealing.{new_are_of, came_back}
use Rattle.turn_tests.proofs.tests.run.Goals as goal

pub write_beside-requires : goal.write_beside-requires
write_beside-requires g c =
    let made = c.into_vec.ensures ∙ c.in_ok-turnstile.ensures.passes in
    (c.type_bounds.sync-R, new_are_of c.in_ok-turnstile.turnstile c.args.passes _ made)

pub close-requires : goal.close-requires
close-requires g c =
    let lock = c.in_ok-turnstile.turnstile in
    let many = ap (λ k. new_standings lock 0 k) (sym c.in_ok-turnstile.ensures.many) in
    let made : c.into_vec.result.items ≡ new_standings lock 0 lock.passes =
    c.into_vec.ensures ∙ c.in_ok-turnstile.ensures.passes ∙ many in
    let after = c.in_ok-after.ensures in
    subst (λ l. AreAllPasses lock l) (sym c.from_vec.ensures)
    (came_back lock _ _ made after.len after.of after.number)
