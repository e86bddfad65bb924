-- A controller's part of a boot is that of the plan.
use Rattle.std.proofs.Common.{◌≡◌, ℕ, List, Some, sym, ap₂}
use Rattle.std.specs.Prelude.{All, slice_get}
use Rattle.tool_steps.specs.Boot.{boot_with}
use Rattle.plan_model.specs.Plan.{boot_part}
use Rattle.plan_grammar.specs.declared.lines.PlanLines.{PlanLines}
use Rattle.plan_grammar.specs.declared.lines.BootLines.{BootLines}
use Rattle.plan_grammar.specs.declared.lines.ChipLines.{ChipLines}
use Rattle.plan_grammar.specs.Meaning.{plan_of}
use Rattle.plan_laws.specs.Ready.{part_at}
use Rattle.plan_laws.proofs.Lists.{all_at}
use Rattle.plan_text.specs.Plan.{HaveSmallDevices, IsOfBytes}
use Rattle.plan_text.specs.Boot.{AreSmall, devices_before, faults_for, parts_of, sessions_for}
use Rattle.plan_text.proofs.NewChips.{chips_are}
use Rattle.plan_text.proofs.WasRead.{boot_is, small_of}

-- the commands of a boot's sessions have small devices
pub small_at : (plan : PlanLines) (n : ℕ) (boot : BootLines) → IsOfBytes plan → slice_get plan.boots n ≡ Some boot → All AreSmall boot.sessions
small_at plan n boot read e = all_at HaveSmallDevices plan.boots n boot e (small_of plan read)

-- partitions, faults and sessions of a controller's lines make its part
pub part_made : (plan : PlanLines) (n c : ℕ) (boot : BootLines) (chips : List ChipLines) → slice_get plan.boots n ≡ Some boot →
    slice_get plan.controllers c ≡ Some chips →
    boot_with (record { first = devices_before c plan.controllers; parts = parts_of chips }) (faults_for c boot.faults)
    (sessions_for plan c 0 boot.sessions) ≡ part_at (plan_of plan) n c
part_made plan n c boot chips at_boot at_chips =
    sym (ap₂ (boot_part (plan_of plan) c) (chips_are plan c chips at_chips) (boot_is plan n boot at_boot))
