-- The fault model of a flash that was told which of its calls to come fail.
use Rattle.std.specs.Prelude.{ℕ, ◌/◌, ◌%◌, Bool, true, false, ◌==◌, Option, Some, None, refl}
use Rattle.std.specs.Coded.{Coded, code_by, coded_ℕ, coded_bool, coded×}
use Rattle.nand_model.specs.Chip.{Call, ProgramCall, EraseCall, ChipState, DoneBits, FaultModel, SimFaults, done_bits}
use Rattle.nand_model.specs.declared.tear.Tear.{Tear}
use Rattle.nand_model.specs.declared.tear.Tear.TheVariants.{Nothing, Everything}
use Rattle.chip_tests.specs.declared.failures.Failures.{Failures}

-- whether the next of these calls fails, where the lowest bit tells of it
abbrev pub is_told : ℕ → Bool
is_told calls = calls % 2 == 1

-- what a failed call does: all of its bits, or none
abbrev pub told_tear : Bool → Tear
told_tear true = Everything
told_tear false = Nothing

-- the done bits of a call, where it fails
abbrev pub told_failure : Bool → Bool → Option DoneBits
told_failure true does_all = Some (done_bits 0 (told_tear does_all))
told_failure false does_all = None

-- which call fails next
abbrev pub told_fails : Failures → Call → Option DoneBits
told_fails f (ProgramCall page) = told_failure (is_told f.programs) f.does_all
told_fails f (EraseCall block) = told_failure (is_told f.erases) f.does_all

-- what is told once a call is behind
abbrev pub told_after : Failures → Call → Failures
told_after f (ProgramCall page) = record f { programs = f.programs / 2 }
told_after f (EraseCall block) = record f { erases = f.erases / 2 }

-- the fault model of a flash that was told
abbrev pub told_faults : FaultModel Failures
told_faults = record { fails = told_fails; after_call = told_after }

-- a code of failures
abbrev pub told_fault_code : Coded Failures
told_fault_code =
    code_by (ℕ × (ℕ × Bool)) (coded× coded_ℕ (coded× coded_ℕ coded_bool)) (λ f. (f.programs, (f.erases, f.does_all)))
    (λ p. record { programs = p.0; erases = p.1.0; does_all = p.1.1 }) (λ _. refl)

-- the sizes and pages of a simulated chip, with these failures to come and these faults
abbrev pub told_of : ChipState SimFaults → Failures → ℕ → ChipState Failures
told_of s failures faults =
    record {
      geometry = s.geometry;
      pages = s.pages;
      fault_state = failures;
      faults = faults;
    }
