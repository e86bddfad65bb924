-- The statistics of a controller's devices leave room for another page.
use Rattle.std.proofs.Common.{◌≡◌, ◌≤◌, ◌*◌, ◌^◌, ◌<◌, arith, ℕ, length, Option, Some, None, refl, ap, sym, ◌∙◌, subst}
use Rattle.std.specs.Prelude.{slice_get, IfSome}
use Rattle.nand_iface.specs.declared.flash.Flash.{Ghosts}
use Rattle.nand_model.specs.declared.words.Op.{Op}
use Rattle.nand_model.specs.declared.words.Stats.{Stats}
use Rattle.chip_paths.specs.Operation.{Known}
use Rattle.chip_paths.specs.ChipRun.{ChipRun}
use Rattle.statistics_laws.proofs.Courses.{counts_small}
use Rattle.chip_paths.specs.Stage.{stage_statistics}
use Rattle.chip_core.specs.Begin.{read_device}
use Rattle.chip_core.specs.Sums.{AreSmall}
use Rattle.ctl_core.specs.declared.board.Board.{Board}
use Rattle.ctl_core.specs.declared.board.Slot.{Slot}
use Rattle.ctl_core.specs.Board.{slot_state, slot_states, IsOnCourse}
use Rattle.run_model.specs.Statistics.{statistics_known}
use Rattle.ctl_core.specs.SlotState.{SlotState}
use Rattle.ctl_core.specs.Past.{Past, course_of, starts_of}
use Rattle.ctl_core.proofs.LastStates.{statistics_by}
use Rattle.ctl_core.proofs.Limits.{few_turns}
use Rattle.ctl_core.proofs.Positions.{at_mapped, mapped_length}
use Rattle.ctl_core.proofs.Turns.{chip_there}

-- what a device has counted at most
record HasAtMost (most : ℕ) (stats : Stats) : Type 0 where
  corrected : stats.corrected ≤ most
  failed : stats.failed ≤ most

-- what holds of all holds of one that is there
for_some : {A : Type 0} (P : A → Type 0) (o : Option A) → ((x : A) → P x) → IfSome o P
for_some P None h = tt
for_some P (Some x) h = h x

module _ {F C : Type 0} {flash : Ghosts F} (past : Past F) (board : Board F C flash) (on : IsOnCourse past board) where
  counted_by : (k : ℕ) (c : ChipRun flash.FaultState) (dev : ℕ) → slice_get (course_of flash.fault_model flash.state past).chips k ≡ Some c
      → (o : Option Known) → c.known ≡ o
      → HasAtMost (128 * length past.turns) (statistics_known o dev)
  counted_by k c dev at None is = record { corrected = omega arith; failed = omega arith }
  counted_by k c dev at (Some known) is =
      let counts = counts_small flash.fault_model past.boot (starts_of flash.state past) past.attaches past.turns k c known at is dev in
      record { corrected = counts.0; failed = counts.1 }

  few_counts : 128 * length past.turns < 2 ^ 63
  few_counts =
      let turns = few_turns past board on in
      let started : length (starts_of flash.state past) ≡ length past.started = mapped_length flash.state past.started in
      omega (arith, turns, started, on.conditions.cheap, on.conditions.few)

  -- the statistics of each device of a chip in a slot are small
  sums_small : (k : ℕ) (slot : Slot F C flash) → slice_get board.slots.items k ≡ Some slot → (dev : ℕ) → AreSmall (stage_statistics (slot_state slot).stage dev)
  sums_small k slot at dev =
      let c = chip_there flash.fault_model past.boot (starts_of flash.state past) (course_of flash.fault_model flash.state past)
      (slot_states board) board.events board.dark board.notes.notes board.sessions.items
      on.stands k (slot_state slot) (at_mapped slot_state board.slots.items k slot at) in
      let same : statistics_known c.0.known dev ≡ stage_statistics (slot_state slot).stage dev =
      sym (statistics_by past.boot.partitions c.0 c.0.known c.0.pending dev) ∙ ap (λ (x : SlotState flash.FaultState). stage_statistics x.stage dev) c.2 in
      let most = subst (HasAtMost (128 * length past.turns)) same (counted_by k c.0 dev c.1 c.0.known refl) in
      record { corrected = omega (arith, most.corrected, few_counts); failed = omega (arith, most.failed, few_counts) }

  -- so a read can begin
  pub read_fits : (k : ℕ) (slot : Slot F C flash) (op : Op) → slice_get board.slots.items k ≡ Some slot
      → IfSome (read_device op) (λ dev. AreSmall (stage_statistics (slot_state slot).stage dev))
  read_fits k slot op at = for_some (λ dev. AreSmall (stage_statistics (slot_state slot).stage dev)) (read_device op) (sums_small k slot at)
