-- An attach that is not over.
use Rattle.std.specs.Prelude.{◌≡◌, ◌≤◌, Bool, ◌&&◌, ◌==◌, length, Option, IfSome}
use Rattle.std.proofs.Props.{props}
use Rattle.nand_model.specs.Chip.{ChipState, Complete, FaultModel, PageEvent, happens}
use Rattle.nand_model.specs.Counts.{HasRisen}
use Rattle.nand_model.specs.Path.{answer_to}
use Rattle.nand_model.specs.Sizes.{raw_len}
use Rattle.nand_model.specs.declared.geometry.Geometry.{Geometry}
use Rattle.nand_model.specs.declared.words.Fairness.{Fairness}
use Rattle.chip_paths.specs.Attach.{Attaching}
use Rattle.chip_paths.specs.Stage.{failure_told, path_after}
use Rattle.bbt_flash.specs.Attach.{attach_left, attach_sizes}
use Rattle.bbt_flash.specs.Copies.{places_in}
use Rattle.chip_core.specs.Events.{ProgramsAtMost, ProgramsAtMost-prop}
use Rattle.chip_core.specs.Quiet.{unquiet_count}
use Rattle.chip_core.specs.declared.attach_run.AttachRun.{AttachRun}
use Rattle.chip_core.specs.declared.attach_run.Finding.{Finding}

-- an attach of a chip of these sizes, with room for a page and for the states of its note, and with
-- a bound on the pages that it still programs
pub record RunFits (g : Geometry) (run : AttachRun) : Type 0 where
  pub sizes : attach_sizes run.attach ≡ g
  pub cells : length run.cells ≡ raw_len g
  pub states : length run.states ≡ g.blocks
  pub few : run.programs ≤ 6
  pub programs : ProgramsAtMost run.programs (attach_left run.attach)

pub RunFits-prop : (g : Geometry) (run : AttachRun) → IsProp (RunFits g run)
RunFits-prop g run = let bound = ProgramsAtMost-prop run.programs (attach_left run.attach) in hlevel (props, bound)

-- an attach knows how many blocks of its chip are not quiet
abbrev pub Watches : {W : Type 0} → ChipState W → AttachRun → Type 0
Watches s run = run.watch.unquiet ≡ unquiet_count s.geometry s.pages

-- whether all events so far and the next one find the chip quiet
abbrev pub quiet_to_next : AttachRun → Bool
quiet_to_next run = run.watch.so_far && (run.watch.unquiet == 0)

-- an event of an attach is done: the chip is as after it, the attach goes on by its answer, and a
-- failure is told and counted
pub record AttachAdvances {W : Type 0} (model : FaultModel W) (before after : ChipState W) (old new : AttachRun)
    (failure : Option Fairness) (e : PageEvent) : Type 0 where
  pub state : after ≡ happens model before (Complete e)
  pub left : attach_left new.attach ≡ path_after (answer_to model before e) (attach_left old.attach)
  pub quiet : new.watch.so_far ≡ quiet_to_next old
  pub told : failure ≡ failure_told model before e
  pub risen : IfSome failure (λ fairness. HasRisen before.faults after.faults)

-- what an attach found, as the definition has it
abbrev pub attaching_found : Finding → Attaching
attaching_found finding =
    record {
      table = finding.states;
      origin = finding.origin;
      version = finding.version;
      places = places_in finding.places;
      copies = finding.copies;
    }
