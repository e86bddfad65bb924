use Rattle.std.proofs.Common.{◌≡◌, ◌+◌, ◌∙◌, List, ap, arith, min, sym}
use Rattle.std.proofs.lemmas.List.{get_or_read}
use Rattle.nand_model.specs.Chip.{Call, WeakCount, weak_after_call}
use Rattle.fault_plan.specs.WeakPlaces.{call_at}
use Rattle.chip_sim.proofs.Weakness.{counts_there, found_at, none_weak, strong-counts}
use Rattle.chip_sim.proofs.weak_places.WeakPlaces.count.Goals as goal

pub get-requires : goal.get-requires
get-requires c =
    let call : Call = call_at c.args.kind c.args.at in
    (found_at c.in-Some.place c.self.inside.list c.self.inside.calls.items call c.self.invariant.same_length c.self.invariant.apart
    (sym (c.self.invariant.found call) ∙ sym c.in-Some.ensures)).inside

pub index_mut-calls-requires : goal.index_mut-calls-requires
index_mut-calls-requires c =
    let call : Call = call_at c.args.kind c.args.at in
    let found = found_at c.in-Some.place c.self.inside.list c.self.inside.calls.items call c.self.invariant.same_length c.self.invariant.apart
    (sym (c.self.invariant.found call) ∙ sym c.in-Some.ensures) in
    omega (arith, found.inside, c.self.invariant.same_length, c.self.inside.calls.ok.0)

pub returns-in-Some : goal.returns-in-Some
returns-in-Some c =
    let call : Call = call_at c.args.kind c.args.at in
    let found = found_at c.in-Some.place c.self.inside.list c.self.inside.calls.items call c.self.invariant.same_length c.self.invariant.apart
    (sym (c.self.invariant.found call) ∙ sym c.in-Some.ensures) in
    let before = c.index_mut-calls.result.now in
    let read = get_or_read c.self.inside.calls.items _ _ (omega (arith, found.inside, c.self.invariant.same_length)) c.index_mut-calls.ensures.value 0 in
    let counted : c.min.result ≡ min (c.index_mut-calls.result.now + 1) c.get.result.now.after =
    omega (arith, c.min.ensures, c.saturating_add.ensures, c.get.type_inv) in
    counts_there c.self.inside.list c.self.inside.calls.items call c.in-Some.place c.get.result.now _ c.min.result found c.get.ensures read counted
    ∙ ap (λ (places : List WeakCount). weak_after_call places call) c.self.view_is

pub returns-in_default : goal.returns-in_default
returns-in_default c =
    let call : Call = call_at c.args.kind c.args.at in
    let none = none_weak 0 c.self.inside.list call (sym (c.self.invariant.found call) ∙ sym c.in_default.ensures) in
    sym (ap (λ (places : List WeakCount). weak_after_call places call) (sym c.self.view_is)
    ∙ strong-counts c.self.inside.list c.self.inside.calls.items call none ∙ c.self.view_is)
