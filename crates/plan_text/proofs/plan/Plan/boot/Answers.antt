use Rattle.std.proofs.Common.{◌≡◌, ◌∙◌, ℕ, List, [], ap, ap₂, map, sym, subst, arith}
use Rattle.std.specs.Prelude.{slice_get, sum_by}
use Rattle.std.proofs.lemmas.List.Sums.{sum_by-take-le}
use Rattle.nand_model.specs.Partitions.{Partitions}
use Rattle.fault_plan.specs.BootFaults.{BootFaults}
use Rattle.command_model.specs.Boot.{Boot}
use Rattle.tool_steps.specs.Boot.{boot_with}
use Rattle.plan_model.specs.Plan.{part_count}
use Rattle.plan_grammar.specs.Meaning.{chip_plan}
use Rattle.plan_grammar.specs.declared.lines.PlanLines.{PlanLines}
use Rattle.plan_grammar.specs.declared.lines.BootLines.{BootLines}
use Rattle.plan_grammar.specs.declared.lines.ChipLines.{ChipLines}
use Rattle.plan_text.specs.Plan.{IsOfBytes}
use Rattle.plan_text.specs.Boot.{devices_before, faults_for, parts_of, sessions_for, with_sessions}
use Rattle.plan_text.proofs.WasRead.{few_sessions}
use Rattle.plan_text.proofs.BootParts.{part_made, small_at}
use Rattle.plan_text.proofs.OwnParts.{devices_within, few_devices, keeps_parts}
use Rattle.plan_text.proofs.plan.Plan.boot.Goals as goal

-- the partitions of chips from a device number on
abbrev at_first : List ChipLines → ℕ → Partitions
at_first chips first = record { first = first; parts = parts_of chips }

pub devices_before-first-requires-clause-few : goal.devices_before-first-requires-clause-few
devices_before-first-requires-clause-few c =
    let read = subst IsOfBytes c.self.view_is c.self.invariant.read in
    let lent = ap (λ (p : PlanLines). sum_by part_count (map (map chip_plan) p.controllers)) c.lines.ensures in
    omega (arith, few_devices c.args.self.now read, lent)

pub overflow_cast-first : goal.overflow_cast-first
overflow_cast-first c =
    let read = subst IsOfBytes c.self.view_is c.self.invariant.read in
    let lent = ap (λ (p : PlanLines). devices_before c.args.controller p.controllers) c.lines.ensures in
    omega (
      arith,
      lent,
      few_devices c.args.self.now read,
      sum_by-take-le part_count (map (map chip_plan) c.args.self.now.controllers) c.args.controller,
    )

pub parts_of-requires-clause-few_chips : goal.parts_of-requires-clause-few_chips
parts_of-requires-clause-few_chips c =
    let read = subst IsOfBytes c.self.view_is c.self.invariant.read in
    let there = ap (λ (p : PlanLines). slice_get p.controllers c.args.controller) (sym c.lines.ensures) ∙ c.get.ensures in
    (keeps_parts c.args.self.now c.args.controller c.get.result.now read there).few

pub parts_of-requires-clause-within : goal.parts_of-requires-clause-within
parts_of-requires-clause-within c =
    let read = subst IsOfBytes c.self.view_is c.self.invariant.read in
    let there = ap (λ (p : PlanLines). slice_get p.controllers c.args.controller) (sym c.lines.ensures) ∙ c.get.ensures in
    (keeps_parts c.args.self.now c.args.controller c.get.result.now read there).within

pub parts_of-requires-clause-apart : goal.parts_of-requires-clause-apart
parts_of-requires-clause-apart c =
    let read = subst IsOfBytes c.self.view_is c.self.invariant.read in
    let there = ap (λ (p : PlanLines). slice_get p.controllers c.args.controller) (sym c.lines.ensures) ∙ c.get.ensures in
    (keeps_parts c.args.self.now c.args.controller c.get.result.now read there).apart

pub parts_of-requires-clause-few : goal.parts_of-requires-clause-few
parts_of-requires-clause-few c =
    let read = subst IsOfBytes c.self.view_is c.self.invariant.read in
    let there = ap (λ (p : PlanLines). slice_get p.controllers c.args.controller) (sym c.lines.ensures) ∙ c.get.ensures in
    let lent = ap (λ (p : PlanLines). devices_before c.args.controller p.controllers) c.lines.ensures in
    omega (
      arith,
      devices_within c.args.self.now.controllers c.args.controller c.get.result.now there,
      few_devices c.args.self.now read,
      lent,
      c.devices_before-first.ensures,
    )

pub add_sessions-requires-clause-none_yet : goal.add_sessions-requires-clause-none_yet
add_sessions-requires-clause-none_yet c = ap (λ (b : Boot). b.sessions) c.new-part.ensures

pub add_sessions-requires-clause-few : goal.add_sessions-requires-clause-few
add_sessions-requires-clause-few c =
    let read = subst IsOfBytes c.self.view_is c.self.invariant.read in
    few_sessions c.args.self.now c.args.boot c.boot_lines-lines.result.now read c.boot_lines-lines.ensures

pub add_sessions-requires-clause-small : goal.add_sessions-requires-clause-small
add_sessions-requires-clause-small c =
    let read = subst IsOfBytes c.self.view_is c.self.invariant.read in
    small_at c.args.self.now c.args.boot c.boot_lines-lines.result.now read c.boot_lines-lines.ensures

pub returns : goal.returns
returns c =
    let there = ap (λ (p : PlanLines). slice_get p.controllers c.args.controller) (sym c.lines.ensures) ∙ c.get.ensures in
    let first : c.devices_before-first.result ≡ devices_before c.args.controller c.args.self.now.controllers =
    c.devices_before-first.ensures ∙ ap (λ (p : PlanLines). devices_before c.args.controller p.controllers) c.lines.ensures in
    let chips : List ChipLines = c.get.result.now in
    let lines : BootLines = c.boot_lines-lines.result.now in
    let parts : c.in_ok-parts.parts ≡ record { first = devices_before c.args.controller c.args.self.now.controllers; parts = parts_of chips } =
    c.in_ok-parts.ensures ∙ ap (at_first chips) first in
    c.in_ok-add_sessions.ensures
    ∙ ap (λ (b : Boot). with_sessions b (sessions_for c.self.inside.draft c.args.controller 0 lines.sessions))
    (c.new-part.ensures ∙ ap₂ (λ (p : Partitions) (f : BootFaults). boot_with p f []) parts c.in_ok-faults.ensures)
    ∙ ap (λ (p : PlanLines). boot_with (at_first chips (devices_before c.args.controller c.args.self.now.controllers)) (faults_for c.args.controller lines.faults)
    (sessions_for p c.args.controller 0 lines.sessions)) c.self.view_is
    ∙ part_made c.args.self.now c.args.boot c.args.controller lines chips c.boot_lines-lines.ensures there
