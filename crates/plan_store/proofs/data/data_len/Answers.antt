use Rattle.std.proofs.Common.{ap, ◌∙◌}
use Rattle.std.specs.Option.{option_map}
use Rattle.plan_index.specs.declared.data.DataPlace.{DataPlace}
use Rattle.plan_store.proofs.Named.{length_found}
use Rattle.plan_store.proofs.data.data_len.Goals as goal

pub returns-in_err-at : goal.returns-in_err-at
returns-in_err-at c = λ plan s.
    rw c.from_residual.ensures (ap (option_map (λ (at : DataPlace). at.len)) (c.in_err-at.ensures plan.payloads s) ∙ length_found plan.payloads c.args.name.now 0)

pub returns : goal.returns
returns c = λ plan s.
    ap (option_map (λ (at : DataPlace). at.len)) (c.in_ok-at.ensures plan.payloads s) ∙ length_found plan.payloads c.args.name.now 0
