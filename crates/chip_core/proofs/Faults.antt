-- How a chip's count of faults goes on: it rises with each failed event, up to the end of its type.
use Rattle.std.proofs.Common.{◌≡◌, ℕ, ◌+◌, ◌-◌, ◌^◌, ◌≤◌, ◌⊎◌, inl, inr, Bool, true, false, if◌then◌else◌, List, Option, Some, None, refl, arith}
use Rattle.std.proofs.Math.Nat.{min-eq_left, min-eq_right}
use Rattle.std.proofs.lemmas.Bool.{cases_lt}
use Rattle.std.specs.Prelude.{◌||◌}
use Rattle.nand_model.specs.Chip.{ChipState, Complete, DoneBits, EraseCall, EraseEvent, FaultModel, PageEvent, ProgramCall, ProgramEvent, ReadEvent, counted, erase_block, failure_of, happens, program_page, saturating_increment}
use Rattle.nand_model.specs.Counts.{HasRisen}
use Rattle.nand_model.specs.Path.{answer_to, good_or_failed, is_failure}

-- a count that did not fall, or that stands at the end of its type
abbrev pub HasNotFallen : ℕ → ℕ → Type 0
HasNotFallen before now = (before ≤ now) ⊎ (now ≡ 2 ^ 64 - 1)

-- one fault more
increment : (n : ℕ) → (saturating_increment n ≡ n + 1) ⊎ (saturating_increment n ≡ 2 ^ 64 - 1)
increment n =
    elim (cases_lt (n + 1) (2 ^ 64 - 1)) [
      | inl below ↦ let within : n + 1 ≤ 2 ^ 64 - 1 = omega arith in inl (min-eq_left within)
      | inr past ↦ inr (min-eq_right past)
    ]

-- a count with one fault more where an event failed
abbrev pub count_after : Bool → ℕ → ℕ
count_after failed n = if failed then saturating_increment n else n

pub rises : (before now : ℕ) → HasNotFallen before now → HasRisen before (saturating_increment now)
rises before now (inl more) = elim (increment now) [ inl one ↦ inl (rw one (omega arith)) | inr end ↦ inr end ]
rises before now (inr last) = elim (increment now) [
  | inl one ↦ let past : 2 ^ 64 - 1 ≤ now + 1 = omega arith in inr (min-eq_right past)
  | inr end ↦ inr end
]

not_fallen : (before now : ℕ) → HasRisen before now → HasNotFallen before now
not_fallen before now (inl more) = inl (omega arith)
not_fallen before now (inr last) = inr last

-- a count stays risen, and rises with a failed event
pub risen_after : (before now : ℕ) (was is : Bool) → (was ≡ true → HasRisen before now) → HasNotFallen before now → (was || is) ≡ true
    → HasRisen before (count_after is now)
risen_after before now was true risen grown either = rises before now grown
risen_after before now true false risen grown either = risen refl
risen_after before now false false risen grown either = cc

pub not_fallen_after : (before now : ℕ) (is : Bool) → HasNotFallen before now → HasNotFallen before (count_after is now)
not_fallen_after before now true grown = not_fallen before (saturating_increment now) (rises before now grown)
not_fallen_after before now false grown = grown

module _ {W : Type 0} (model : FaultModel W) (s : ChipState W) where
  program-counts : (page : ℕ) (image : List ℕ) (failure : Option DoneBits)
      → (counted model failure (program_page model s page image failure)).faults ≡ count_after (is_failure (good_or_failed failure)) s.faults
  program-counts page image None = refl
  program-counts page image (Some done) = refl

  erase-counts : (block : ℕ) (failure : Option DoneBits)
      → (counted model failure (erase_block model s block failure)).faults ≡ count_after (is_failure (good_or_failed failure)) s.faults
  erase-counts block None = refl
  erase-counts block (Some done) = refl

  -- an event is counted exactly where it failed
  pub faults_after : (e : PageEvent) → (happens model s (Complete e)).faults ≡ count_after (is_failure (answer_to model s e)) s.faults
  faults_after (ReadEvent page) = refl
  faults_after (ProgramEvent page image) = program-counts page image (failure_of model s (ProgramCall page))
  faults_after (EraseEvent block) = erase-counts block (failure_of model s (EraseCall block))
