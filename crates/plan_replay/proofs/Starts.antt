-- A controller can be started on its part of a boot.
use Rattle.std.proofs.Common.{◌<◌, ℕ, List, length}
use Rattle.nand_model.specs.Chip.{ChipState, SimFaults}
use Rattle.ctl_core.specs.Start.{CanStart}
use Rattle.plan_grammar.specs.declared.lines.PlanLines.{PlanLines}
use Rattle.plan_grammar.specs.Meaning.{plan_of}
use Rattle.plan_laws.specs.Ready.{HaveSizes, IsReady, chips_at, part_at}
use Rattle.plan_laws.proofs.Ready.{are_ready}
use Rattle.plan_text.specs.Plan.{IsOfBytes}

pub can_start : (plan : PlanLines) (n c : ℕ) (starts : List (ChipState SimFaults)) → IsOfBytes plan → n < length (plan_of plan).boots
    → c < length (plan_of plan).controllers → HaveSizes (chips_at (plan_of plan) c) starts
    → CanStart (part_at (plan_of plan) n c) starts
can_start plan n c starts read boots controllers sizes =
    let ready : IsReady (part_at (plan_of plan) n c) starts = are_ready SimFaults read.0 plan read.1 starts n c boots controllers sizes in
    record {
      few = ready.few;
      parts = ready.parts;
      flips = ready.flips;
      few_flips = ready.few_flips;
      devices = ready.devices;
      runnable = ready.fits;
      ascending = ready.ascending;
      cheap = ready.cheap;
    }
