use Rattle.std.proofs.Common.{◌≡◌, ◌<◌, ◌∙◌, ap, arith, length, slice_index_or, None}
use Rattle.std.proofs.lemmas.List.{get_or_default, length-map}
use Rattle.chip_sim.specs.FlipLog.{bits_at, bits_up_to}
use Rattle.chip_sim.proofs.LogLemmas.{flips_of-put, linked-put}
use Rattle.chip_sim.proofs.flip_log.FlipLog.put.Goals as goal

pub invariant_of-self : goal.invariant_of-self
invariant_of-self c =
    let flips = c.self.inside.flips.items in
    let last = c.self.inside.last.items in
    let there : c.args.page < length c.self.inside.last.items =
    omega (arith, c.requires.page, length-map last (bits_at (bits_up_to flips)), ap (λ v. length v.flips) c.self.view_is) in
    let before : c.index-before.result.now ≡ slice_index_or c.self.inside.last.items c.args.page None =
    c.index-before.ensures ∙ get_or_default last c.args.page c.index-before.result.now None there in
    let many : c.len.result ≡ length c.self.inside.flips.items = omega (arith, c.len.ensures, c.self.inside.flips.ok.0) in
    rw (c.push_reserved.ensures.items, before, many) (linked-put flips last c.self.invariant c.args.page c.args.bit there)

pub returns-clause-flips : goal.returns-clause-flips
returns-clause-flips c p =
    let flips = c.self.inside.flips.items in
    let last = c.self.inside.last.items in
    let there : c.args.page < length c.self.inside.last.items =
    omega (arith, c.requires.page, length-map last (bits_at (bits_up_to flips)), ap (λ v. length v.flips) c.self.view_is) in
    let before : c.index-before.result.now ≡ slice_index_or c.self.inside.last.items c.args.page None =
    c.index-before.ensures ∙ get_or_default last c.args.page c.index-before.result.now None there in
    let many : c.len.result ≡ length c.self.inside.flips.items = omega (arith, c.len.ensures, c.self.inside.flips.ok.0) in
    rw (c.push_reserved.ensures.items, before, many, ← c.self.view_is) (flips_of-put flips last c.self.invariant c.args.page c.args.bit there p)
