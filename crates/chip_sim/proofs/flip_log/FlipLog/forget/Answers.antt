use Rattle.std.proofs.Common.{◌∙◌}
use Rattle.std.specs.Vec.{with_items}
use Rattle.std.proofs.lemmas.List.{with_items_is}
use Rattle.chip_sim.proofs.LogLemmas.{flips_of-cleared, linked-cleared}
use Rattle.chip_sim.proofs.flip_log.FlipLog.forget.Goals as goal

pub invariant_of-self : goal.invariant_of-self
invariant_of-self c =
    let new = c.clear_places.new.places in
    let same = with_items_is c.self.inside.last new (c.clear_places.auto.places ∙ c.deref_mut.ensures.len) in
    linked-cleared c.self.inside.flips.items c.self.inside.last.items (with_items c.self.inside.last new).items c.args.first c.args.end
    (rw (same, ← c.deref_mut.ensures.value) c.clear_places.ensures) c.self.invariant

pub returns-clause-flips : goal.returns-clause-flips
returns-clause-flips c p =
    let new = c.clear_places.new.places in
    let same = with_items_is c.self.inside.last new (c.clear_places.auto.places ∙ c.deref_mut.ensures.len) in
    rw (← c.self.view_is) (flips_of-cleared c.self.inside.flips.items c.self.inside.last.items (with_items c.self.inside.last new).items c.args.first c.args.end
    (rw (same, ← c.deref_mut.ensures.value) c.clear_places.ensures) p)
