-- Laws of plans.
use Rattle.std.specs.Prelude.{◌≡◌, ℕ, ◌≤◌, ◌⊎◌, List, length, All}
use Rattle.lab_text.specs.Text.{longest_line}
use Rattle.plan_grammar.specs.declared.kind.PlanKind.{PlanKind}
use Rattle.plan_grammar.specs.declared.lines.PlanLines.{PlanLines}
use Rattle.plan_grammar.specs.Limits.{most_bytes}
use Rattle.plan_grammar.specs.Grammar.{IsPlan, IsRefused}
use Rattle.plan_grammar.specs.Canonical.{canonical_lines, canonical_text}

-- bytes are a plan or are refused
abbrev pub HasReading : Type 0
HasReading = (bytes : List ℕ) →
    ((plan : PlanLines) × IsPlan bytes plan) ⊎ ((at : ℕ) × (kind : PlanKind) × IsRefused bytes at kind)

-- they are one plan at most
abbrev pub OnePlan : Type 0
OnePlan = (bytes : List ℕ) (one other : PlanLines) → IsPlan bytes one → IsPlan bytes other → one ≡ other

-- they are refused at one line at most, for one kind
abbrev pub OneRefusal : Type 0
OneRefusal =
    (bytes : List ℕ) (at : ℕ) (kind : PlanKind) (at' : ℕ) (kind' : PlanKind) → IsRefused bytes at kind →
    IsRefused bytes at' kind' → (at ≡ at') × (kind ≡ kind')

-- and never both
abbrev pub NeverBoth : Type 0
NeverBoth = (bytes : List ℕ) (plan : PlanLines) (at : ℕ) (kind : PlanKind) → IsPlan bytes plan →
    IsRefused bytes at kind → ⊥

-- the canonical text of a plan is within the limits of texts
pub record FitsText (plan : PlanLines) : Type 0 where
  pub text : length (canonical_text plan) ≤ most_bytes
  pub lines : All (λ bytes. length bytes ≤ longest_line) (canonical_lines plan)

-- the canonical text is read as the same plan
abbrev pub ReadsAgain : Type 0
ReadsAgain = (bytes : List ℕ) (plan : PlanLines) → IsPlan bytes plan → FitsText plan → IsPlan (canonical_text plan) plan
