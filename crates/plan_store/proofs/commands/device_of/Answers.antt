use Rattle.std.proofs.Common.{◌≡◌, Option, Some, None, Result, Err, sym, ap, ◌∙◌, arith}
use Rattle.std.specs.Prelude.{slice_get}
use Rattle.std.specs.Option.{option_copied}
use Rattle.std.proofs.lemmas.Bool.{ne_eqb, eq-eqb}
use Rattle.std.proofs.lemmas.Result.{err_from_is_err_and}
use Rattle.plan_grammar.specs.declared.kind.PlanKind.{PlanKind}
use Rattle.plan_grammar.specs.declared.kind.PlanKind.TheVariants.{UnknownDevice}
use Rattle.plan_grammar.specs.Devices.{Device}
use Rattle.plan_store.proofs.Named.{device_absent, device_elsewhere, device_here, refused_so}
use Rattle.plan_store.proofs.commands.device_of.Goals as goal

pub returns-in_err-size : goal.returns-in_err-size
returns-in_err-size c = λ plan e.
    let p = err_from_is_err_and c.from_residual.result c.from_residual.ensures.1 in
    let none = ap (λ ss. slice_get ss c.args.dev) (sym e) ∙ sym c.size_at.ensures ∙ ap option_copied c.in_err-size.ensures.ok_part in
    rw (p.1, p.2) (device_absent plan c.args.controller c.args.dev none
    ∙ ap Err (sym (refused_so c.size_at.result UnknownDevice c.in_err-size.field-0.0 c.in_err-size.ensures.ok_part c.in_err-size.ensures.value)))

pub returns-then-size-controller : goal.returns-then-size-controller
returns-then-size-controller c = λ plan e.
    let some = ap (λ ss. slice_get ss c.args.dev) (sym e) ∙ sym c.size_at.ensures ∙ ap option_copied c.in_ok-size.ensures.ok_part in
    device_elsewhere plan c.args.controller c.args.dev c.in_ok-size.size.now some
    (ne_eqb c.in_ok-size.size.now.controller c.args.controller (λ same. omega (arith, same, c.if-size-controller.true)))

pub returns : goal.returns
returns c = λ plan e.
    let some = ap (λ ss. slice_get ss c.args.dev) (sym e) ∙ sym c.size_at.ensures ∙ ap option_copied c.in_ok-size.ensures.ok_part in
    let own : c.in_ok-size.size.now.controller ≡ c.args.controller = omega (arith, c.if-size-controller.false) in
    device_here plan c.args.controller c.args.dev c.in_ok-size.size.now some (eq-eqb c.in_ok-size.size.now.controller c.args.controller own)
