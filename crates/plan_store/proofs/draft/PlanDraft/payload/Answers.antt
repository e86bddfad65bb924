use Rattle.std.proofs.Common.{◌≡◌, ◌+◌, Some, None, sym, ap, ◌∙◌, subst, arith}
use Rattle.std.specs.Prelude.{slice_get}
use Rattle.plan_grammar.specs.declared.lines.PlanLines.{PlanLines}
use Rattle.plan_grammar.specs.Devices.{data_named}
use Rattle.plan_store.proofs.Named.{payload_found, payload_none}
use Rattle.plan_store.proofs.draft.PlanDraft.payload.Goals as goal

pub returns-in_err-at : goal.returns-in_err-at
returns-in_err-at c =
    rw c.from_residual.ensures (sym (subst (λ (plan : PlanLines). data_named plan c.args.name.now ≡ None) c.self.view_is
    (payload_none c.self.inside.lines.payloads c.args.name.now 0 (sym (c.in_err-at.ensures c.self.inside.lines.payloads c.self.invariant.payloads)))))

pub get-requires : goal.get-requires
get-requires c =
    let f = payload_found c.self.inside.lines.payloads c.args.name.now 0 c.in_ok-at.at.now
    (sym (c.in_ok-at.ensures c.self.inside.lines.payloads c.self.invariant.payloads)) in
    omega (arith, f.2, f.3)

pub returns : goal.returns
returns c =
    let f = payload_found c.self.inside.lines.payloads c.args.name.now 0 c.in_ok-at.at.now
    (sym (c.in_ok-at.ensures c.self.inside.lines.payloads c.self.invariant.payloads)) in
    let at : 0 + f.0 ≡ f.0 = omega arith in
    subst (λ (plan : PlanLines). Some c.get.result.now ≡ data_named plan c.args.name.now) c.self.view_is
    (sym c.get.ensures ∙ ap (slice_get c.self.inside.lines.payloads) (f.2 ∙ at) ∙ f.4 ∙ sym f.5)
