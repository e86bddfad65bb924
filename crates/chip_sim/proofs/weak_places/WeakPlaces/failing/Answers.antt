use Rattle.std.proofs.Common.{◌∙◌, arith, sym}
use Rattle.std.proofs.lemmas.List.{get_or_read}
use Rattle.nand_model.specs.Chip.{Call}
use Rattle.fault_plan.specs.WeakPlaces.{call_at}
use Rattle.chip_sim.proofs.Weakness.{fails_not_yet, fails_worn, found_at, none_weak, strong-fails}
use Rattle.chip_sim.proofs.weak_places.WeakPlaces.failing.Goals as goal

pub returns-in_err-place : goal.returns-in_err-place
returns-in_err-place c =
    let call : Call = call_at c.args.kind c.args.at in
    let none = none_weak 0 c.self.inside.list call (sym (c.self.invariant.found call) ∙ sym c.in_err-place.ensures) in
    λ raw. rw (c.from_residual.ensures, ← c.self.view_is) (sym (strong-fails raw c.self.inside.list c.self.inside.calls.items call none))

pub get-weak-requires : goal.get-weak-requires
get-weak-requires c =
    let call : Call = call_at c.args.kind c.args.at in
    (found_at c.in_ok-place.place c.self.inside.list c.self.inside.calls.items call c.self.invariant.same_length c.self.invariant.apart
    (sym (c.self.invariant.found call) ∙ sym c.in_ok-place.ensures)).inside

pub index-requires : goal.index-requires
index-requires c =
    let call : Call = call_at c.args.kind c.args.at in
    let found = found_at c.in_ok-place.place c.self.inside.list c.self.inside.calls.items call c.self.invariant.same_length c.self.invariant.apart
    (sym (c.self.invariant.found call) ∙ sym c.in_ok-place.ensures) in
    omega (arith, found.inside, c.self.invariant.same_length, c.self.inside.calls.ok.0)

pub returns-then-weak-index : goal.returns-then-weak-index
returns-then-weak-index c =
    let call : Call = call_at c.args.kind c.args.at in
    let found = found_at c.in_ok-place.place c.self.inside.list c.self.inside.calls.items call c.self.invariant.same_length c.self.invariant.apart
    (sym (c.self.invariant.found call) ∙ sym c.in_ok-place.ensures) in
    let read = get_or_read c.self.inside.calls.items _ _ (omega (arith, found.inside, c.self.invariant.same_length)) c.index.ensures 0 in
    λ raw. rw (← c.self.view_is)
    (fails_worn c.self.inside.list c.self.inside.calls.items call c.in_ok-place.place c.get-weak.result.now _ found c.get-weak.ensures read c.if-weak-index.true raw)

pub returns-else-weak-index : goal.returns-else-weak-index
returns-else-weak-index c =
    let call : Call = call_at c.args.kind c.args.at in
    let found = found_at c.in_ok-place.place c.self.inside.list c.self.inside.calls.items call c.self.invariant.same_length c.self.invariant.apart
    (sym (c.self.invariant.found call) ∙ sym c.in_ok-place.ensures) in
    let read = get_or_read c.self.inside.calls.items _ _ (omega (arith, found.inside, c.self.invariant.same_length)) c.index.ensures 0 in
    λ raw. rw (← c.self.view_is)
    (fails_not_yet c.self.inside.list c.self.inside.calls.items call c.in_ok-place.place c.get-weak.result.now _ found c.get-weak.ensures read c.if-weak-index.false raw)
