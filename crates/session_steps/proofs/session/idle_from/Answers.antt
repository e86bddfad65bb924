use Rattle.std.proofs.Common.{◌≡◌, ◌+◌, ◌-◌, drop, length, sym, ◌∙◌, ap, arith}
use Rattle.std.specs.Prelude.{◌≤◌}
use Rattle.std.proofs.lemmas.List.{length-drop}
use Rattle.std.proofs.Math.ListN.{drop_of_length-le}
use Rattle.session_steps.specs.Standing.{idle_first}
use Rattle.session_steps.proofs.Idle.{idle-found, idle-more, idle-few}
use Rattle.session_steps.proofs.session.idle_from.Goals as goal

pub loop-place-init : goal.loop-place-init
loop-place-init c = omega arith

pub returns-then-has_operation-clause-idle : goal.returns-then-has_operation-clause-idle
returns-then-has_operation-clause-idle c =
    let none = idle-found c.args.commands.now c.loop-place.place c.get.result.now c.get.ensures
    (sym c.has_operation.ensures.asked ∙ c.if-has_operation.true) in
    omega (arith, none, c.loop-place.invariant, c.loop-place.auto.place)

pub loop-place-preserved : goal.loop-place-preserved
loop-place-preserved c =
    let more = idle-more c.args.commands.now c.loop-place.place c.get.result.now c.get.ensures
    (sym c.has_operation.ensures.asked ∙ c.if-has_operation.false) in
    omega (arith, more, c.loop-place.invariant)

pub returns-clause-idle : goal.returns-clause-idle
returns-clause-idle c =
    let past : length c.args.commands.now ≤ c.loop-place.place = omega (arith, c.loop-place-test.false, c.len-place-end.ensures) in
    let none : idle_first (drop c.loop-place.place c.args.commands.now) ≡ 0 = ap idle_first (drop_of_length-le c.args.commands.now past) in
    let few = idle-few (drop c.args.from c.args.commands.now) in
    let long = length-drop c.args.from c.args.commands.now in
    omega (arith, none, few, long, c.loop-place.invariant, past, c.saturating_sub.ensures, c.len.ensures)
