-- What is known where rules were kept.
use Rattle.std.proofs.Common.{◌≡◌, ℕ, Bool, true, false, ◌&&◌, ◌||◌, List, [], ◌∷◌, Option, Some, None, Result, Ok, Err, refl, subst}
use Rattle.std.specs.BTreeMap.{BTreeMap}
use Rattle.plan_costs.specs.declared.troubles.DeviceTroubles.{DeviceTroubles}
use Rattle.plan_costs.specs.declared.costs.CostIndex.{CostIndex}
use Rattle.plan_costs.specs.Costs.{AreCosts, KnowsBoot}
use Rattle.plan_grammar.specs.declared.kind.PlanKind.{PlanKind}
use Rattle.plan_grammar.specs.declared.kind.PlanKind.TheVariants.{WrongPlace}
use Rattle.plan_grammar.specs.declared.lines.PlanLines.{PlanLines}
use Rattle.plan_grammar.specs.declared.lines.ChipLines.{ChipLines}
use Rattle.plan_grammar.specs.declared.lines.BootLines.{BootLines}
use Rattle.plan_grammar.specs.Rules.{◌>>=◌, rule, there, is_empty, last_of}
use Rattle.std.proofs.lemmas.Bool.{and_parts}
use Rattle.plan_grammar.specs.Hardware.{is_hardware, has_chip, last_chips, last_chip, open_chip}
use Rattle.plan_grammar.specs.Faults.{last_boot, open_boot}
use Rattle.plan_grammar.specs.Sessions.{running_boot}

abbrev good : {A : Type 0} → A → Result A PlanKind
good x = Ok x

abbrev bad : {A : Type 0} → PlanKind → Result A PlanKind
bad kind = Err kind

not_both : {A : Type 0} (x : A) (kind : PlanKind) → bad {A = A} kind ≡ good x → ⊥
not_both x kind e = cc e

-- a step was kept, and what followed it
pub step_kept : {A B : Type 0} (r : Result A PlanKind) (f : A → Result B PlanKind) (x : B) → (r >>= f) ≡ Ok x →
    (y : A) × (r ≡ Ok y) × (f y ≡ Ok x)
step_kept (Ok y) f x e = (y, refl, e)
step_kept (Err kind) f x e = absurd (not_both x kind e)

-- a rule was kept, and what followed it
pub rule_kept : {B : Type 0} (b : Bool) (kind : PlanKind) (f : Unit {0} → Result B PlanKind) (x : B) → (rule b kind >>= f) ≡ Ok x →
    (b ≡ true) × (f tt ≡ Ok x)
rule_kept true kind f x e = (refl, e)
rule_kept false kind f x e = absurd (not_both x kind e)

pub rule_true : (b : Bool) (kind : PlanKind) (u : Unit {0}) → rule b kind ≡ Ok u → b ≡ true
rule_true true kind u e = refl
rule_true false kind u e = absurd (not_both u kind e)

pub there_found : {A : Type 0} (o : Option A) (kind : PlanKind) (x : A) → there o kind ≡ Ok x → o ≡ Some x
there_found None kind x e = absurd (not_both x kind e)
there_found (Some y) kind x e = let same : good y ≡ good x = e in cc same

pub empty_is : {A : Type 0} (xs : List A) → is_empty xs ≡ true → xs ≡ []
empty_is [] e = refl
empty_is (x ∷ xs) e = absurd (cc e)

-- the last chip, and where it stands
pub record LastChip (plan : PlanLines) (chip : ChipLines) : Type 0 where
  pub chips : List ChipLines
  pub controller_is : last_of plan.controllers ≡ Some chips
  pub chip_is : last_of chips ≡ Some chip

pub last_found : (plan : PlanLines) (chip : ChipLines) → last_chip plan ≡ Ok chip → LastChip plan chip
unfolding last_chip
last_found plan chip e =
    let step = step_kept (last_chips plan) (λ chips. there (last_of chips) WrongPlace) chip e in
    record {
      chips = step.0;
      controller_is = there_found (last_of plan.controllers) WrongPlace step.0 step.1;
      chip_is = there_found (last_of step.0) WrongPlace chip step.2;
    }

-- the last chip has no partition, where its lines may stand
pub open_found : (plan : PlanLines) (chip : ChipLines) → open_chip plan ≡ Ok chip → LastChip plan chip × (chip.parts ≡ [])
unfolding open_chip
open_found plan chip e =
    let first = rule_kept (is_hardware plan) WrongPlace (λ u. last_chip plan >>= λ (c : ChipLines). rule (is_empty c.parts) WrongPlace >>= λ u. Ok c) chip e in
    let second = step_kept (last_chip plan) (λ (c : ChipLines). rule (is_empty c.parts) WrongPlace >>= λ u. Ok c) chip first.1 in
    let third = rule_kept (is_empty second.0.parts) WrongPlace (λ u. Ok second.0) chip second.2 in
    let same : second.0 ≡ chip = let whole : good second.0 ≡ good chip = third.1 in cc whole in (
      last_found plan chip (subst (λ (c : ChipLines). last_chip plan ≡ Ok c) same second.1),
      subst (λ (c : ChipLines). c.parts ≡ []) same (empty_is second.0.parts third.0),
    )

-- the boot whose faults may stand here is the last
pub open_boot_found : (plan : PlanLines) (boot : BootLines) → open_boot plan ≡ Ok boot → last_of plan.boots ≡ Some boot
unfolding open_boot
open_boot_found plan boot e =
    let first = step_kept (last_boot plan) (λ (b : BootLines). rule (is_empty b.sessions) WrongPlace >>= λ u. Ok b) boot e in
    let second = rule_kept (is_empty first.0.sessions) WrongPlace (λ u. Ok first.0) boot first.2 in
    let same : first.0 ≡ boot = let whole : good first.0 ≡ good boot = second.1 in cc whole in
    there_found (last_of plan.boots) WrongPlace boot (subst (λ (b : BootLines). last_boot plan ≡ Ok b) same first.1)

-- the boot to which sessions, commands and a schedule may be added is the last
pub running_boot_found : (plan : PlanLines) (boot : BootLines) → running_boot plan ≡ Ok boot → last_of plan.boots ≡ Some boot
unfolding running_boot
running_boot_found plan boot e =
    let first = step_kept (last_boot plan) (λ (b : BootLines). rule (is_empty b.schedule) WrongPlace >>= λ u. Ok b) boot e in
    let second = rule_kept (is_empty first.0.schedule) WrongPlace (λ u. Ok first.0) boot first.2 in
    let same : first.0 ≡ boot = let whole : good first.0 ≡ good boot = second.1 in cc whole in
    there_found (last_of plan.boots) WrongPlace boot (subst (λ (b : BootLines). last_boot plan ≡ Ok b) same first.1)

-- lines of hardware stand before the first boot
pub hardware_none : (plan : PlanLines) → is_hardware plan ≡ true → plan.boots ≡ []
hardware_none plan e = empty_is plan.boots (and_parts (is_empty plan.payloads) (is_empty plan.boots) e).1

-- so does a controller
pub beginning_none : (plan : PlanLines) → (plan.begun && is_hardware plan && (is_empty plan.controllers || has_chip plan)) ≡ true → plan.boots ≡ []
beginning_none plan e =
    hardware_none plan (and_parts plan.begun (is_hardware plan) (and_parts (plan.begun && is_hardware plan) (is_empty plan.controllers || has_chip plan) e).0).1

-- and a line of a chip
pub open_none : (plan : PlanLines) (chip : ChipLines) → open_chip plan ≡ Ok chip → plan.boots ≡ []
unfolding open_chip
open_none plan chip e =
    let first = rule_kept (is_hardware plan) WrongPlace (λ u. last_chip plan >>= λ (c : ChipLines). rule (is_empty c.parts) WrongPlace >>= λ u. Ok c) chip e in
    hardware_none plan first.0

knows_begun : (plan : PlanLines) (o : Option BootLines) (devices : BTreeMap ℕ DeviceTroubles) → KnowsBoot plan o devices →
    KnowsBoot (record plan { begun = true }) o devices
knows_begun plan None devices k = k
knows_begun plan (Some boot) devices k = k

-- the header costs nothing
pub costs_begun : (plan : PlanLines) (index : CostIndex) → AreCosts plan index → AreCosts (record plan { begun = true }) index
costs_begun plan index s = record { cost_is = s.cost_is; few = s.few; boot = knows_begun plan (last_of plan.boots) index.devices s.boot }
