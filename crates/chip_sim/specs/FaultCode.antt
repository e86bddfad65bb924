-- A code for what the faults of a simulated chip depend on, by which a proof tells its values
-- apart.
use Rattle.std.specs.Prelude.{◌≡◌, ℕ, Bool, true, false, ◌⊎◌, List, refl}
use Rattle.std.proofs.Common.{inl, inr}
use Rattle.std.specs.Coded.{Coded, code_by, coded_ℕ, coded_bool, coded_list, coded×, coded⊎}
use base.Stored.{coded_unit}
use Rattle.nand_model.specs.Chip.{SimFaults}
use Rattle.nand_model.specs.declared.tear.Tear.{Tear}
use Rattle.nand_model.specs.declared.tear.Tear.TheVariants.{Nothing, Everything, Seed, Spans}
use Rattle.nand_model.specs.declared.words.Weak.{Weak}
use Rattle.nand_model.specs.declared.words.WeakKind.{WeakKind}
use Rattle.nand_model.specs.declared.words.WeakKind.TheVariants.{Program, Erase}

-- a tear as a sum of its cases
abbrev TearCases : Type 0
TearCases = Unit {0} ⊎ (Unit {0} ⊎ (ℕ ⊎ List (ℕ × ℕ)))

-- the case of a tear
abbrev tear_cases : Tear → TearCases
tear_cases Nothing = inl tt
tear_cases Everything = inr (inl tt)
tear_cases (Seed n) = inr (inr (inl n))
tear_cases (Spans spans) = inr (inr (inr spans))

-- the tear of a case
abbrev tear_of_cases : TearCases → Tear
tear_of_cases (inl _) = Nothing
tear_of_cases (inr (inl _)) = Everything
tear_of_cases (inr (inr (inl n))) = Seed n
tear_of_cases (inr (inr (inr spans))) = Spans spans

pub tear_back : (tear : Tear) → tear_of_cases (tear_cases tear) ≡ tear
tear_back Nothing = refl
tear_back Everything = refl
tear_back (Seed n) = refl
tear_back (Spans spans) = refl

-- a code of tears
abbrev coded_tear : Coded Tear
coded_tear =
    code_by TearCases (coded⊎ coded_unit (coded⊎ coded_unit (coded⊎ coded_ℕ (coded_list (coded× coded_ℕ coded_ℕ))))) tear_cases tear_of_cases tear_back

-- a weak place of programs
abbrev is_program : WeakKind → Bool
is_program Program = true
is_program Erase = false

-- the kind of a weak place by this test
abbrev kind_of : Bool → WeakKind
kind_of true = Program
kind_of false = Erase

pub kind_back : (kind : WeakKind) → kind_of (is_program kind) ≡ kind
kind_back Program = refl
kind_back Erase = refl

-- a code of kinds of weak places
abbrev coded_kind : Coded WeakKind
coded_kind = code_by Bool coded_bool is_program kind_of kind_back

-- a code of weak places
abbrev coded_weak : Coded Weak
coded_weak =
    code_by (WeakKind × (ℕ × (ℕ × Tear))) (coded× coded_kind (coded× coded_ℕ (coded× coded_ℕ coded_tear))) (λ w. (w.kind, (w.at, (w.after, w.tear))))
    (λ p. record { kind = p.0; at = p.1.0; after = p.1.1.0; tear = p.1.1.1 }) (λ _. refl)

-- the bytes of a page, and the weak places with their counts
abbrev pub sim_fault_code : Coded SimFaults
sim_fault_code =
    code_by (ℕ × List (Weak × ℕ)) (coded× coded_ℕ (coded_list (coded× coded_weak coded_ℕ))) (λ w. (w.raw, w.weak)) (λ p. record { raw = p.0; weak = p.1 }) (λ _. refl)
