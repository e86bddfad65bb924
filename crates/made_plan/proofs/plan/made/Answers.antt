use Rattle.std.proofs.Common.{◌≡◌, ◌∙◌, ℕ, List, subst}
use Rattle.plan_grammar.specs.declared.kind.PlanKind.{PlanKind}
use Rattle.plan_grammar.specs.declared.lines.PlanLines.{PlanLines}
use Rattle.plan_grammar.specs.Grammar.{IsPlan, IsRefused}
use Rattle.plan_grammar.specs.Canonical.{canonical_text}
use Rattle.plan_grammar.proofs.OneReading.{one_plan, never_both}
use Rattle.plan_text.specs.Reading.{IsRefusalOf}
use Rattle.made_plan.specs.Made.{made_lines}
use Rattle.made_plan.proofs.IsPlan.{made_is_plan}
use Rattle.made_plan.proofs.plan.made.Goals as goal

-- the text is read as the plan
read_as : (n : ℕ) (bytes : List ℕ) (plan : PlanLines) → bytes ≡ canonical_text (made_lines n) → IsPlan bytes plan → plan ≡ made_lines n
read_as n bytes plan same h =
    one_plan (canonical_text (made_lines n)) plan (made_lines n) (subst (λ (bs : List ℕ). IsPlan bs plan) same h) (made_is_plan n)

-- and never refused
not_refused : (n : ℕ) (bytes : List ℕ) (at : ℕ) (kind : PlanKind) → bytes ≡ canonical_text (made_lines n) → IsRefused bytes at kind → ⊥
not_refused n bytes at kind same h =
    never_both (canonical_text (made_lines n)) (made_lines n) at kind (made_is_plan n) (subst (λ (bs : List ℕ). IsRefused bs at kind) same h)

pub returns-in-Ok : goal.returns-in-Ok
returns-in-Ok c =
    read_as c.args.n c.as_slice.result.now c.in-Ok.plan (c.as_slice.ensures ∙ c.in_ok-text.ensures) c.in-Ok.ensures.plan

pub unreachable-requires : goal.unreachable-requires
unreachable-requires c =
    let refusal = c.in-Err-Refused in
    not_refused c.args.n c.as_slice.result.now refusal.field-0-0 refusal.field-0-1 (c.as_slice.ensures ∙ c.in_ok-text.ensures)
    (subst (IsRefusalOf c.as_slice.result.now) refusal.field-0-is refusal.ensures.refused)
