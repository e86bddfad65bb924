-- What the answers of a replay add up to.
use Rattle.std.specs.Prelude.{◌≡◌, ℕ, List, [], ◌++◌, map, flat_map, sum_by}
use Rattle.nand_model.specs.Chip.{ChipState, SimFaults}
use Rattle.nand_model.specs.declared.words.Note.{Note}
use Rattle.plan_model.specs.Plan.{PlanData}
use Rattle.headline_model.specs.Headline.{IsReplayOf}
use Rattle.made_plan.specs.Summary.{all_notes, bad_at_end, sums_of}
use Rattle.made_plan.specs.declared.summary.Sums.{Sums}
use Rattle.plan_replay.specs.Boots.{EndBoot, ends_of, notes_of}
use Rattle.plan_replay.specs.declared.controller.EndedController.{EndedController}
use Rattle.made_replay.specs.declared.replay.Totals.{Totals}

-- the notes of controllers, one after the other
abbrev pub notes_joined : List EndedController → List Note
notes_joined ends = flat_map (λ (notes : List Note). notes) (map notes_of ends)

-- the bad blocks of all chips that controllers left
abbrev pub bad_left : List EndedController → ℕ
bad_left ends = sum_by (λ (ended : EndedController). ended.bad) ends

-- all controllers went through boot n from these states to those, whatever its text is; their notes
-- were added to the sums, and so many blocks are bad then
pub record AddsUpBoot (plan : PlanData) (n : ℕ) (starts after : List (List (ChipState SimFaults)))
    (before sums : Sums) (bad : ℕ) : Type 0 where
  pub text : List ℕ
  pub ended : EndBoot plan n starts after [] text
  pub sums_are : (earlier : List Note) → before ≡ sums_of earlier
      → sums ≡ sums_of (earlier ++ notes_joined (ends_of ended.through))
  pub bad_are : bad ≡ bad_left (ends_of ended.through)

-- the totals are those of the plan's replay, the one whose report this text is
pub record AreTotalsOf (plan : PlanData) (totals : Totals) : Type 0 where
  pub report : List ℕ
  pub replay : IsReplayOf plan report
  pub sums_are : totals.sums ≡ sums_of (all_notes plan replay.courses)
  pub bad_are : totals.bad_blocks ≡ bad_at_end plan replay.courses
