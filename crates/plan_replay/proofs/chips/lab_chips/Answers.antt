use Rattle.std.proofs.Common.{◌++◌, ◌∙◌, ap, arith, map}
use Rattle.chip_sim.specs.State.{sim_state}
use Rattle.onfi_bus.specs.Lab.{lab_state}
use Rattle.plan_replay.proofs.Buses.{few_made, next_on_buses, none_on_buses, states_on}
use Rattle.plan_replay.proofs.chips.lab_chips.Goals as goal

pub loop-chip-init : goal.loop-chip-init
loop-chip-init c = record {
  whole = ap (λ fs. map lab_state fs ++ map sim_state c.args.chips) c.new-flashes.ensures;
  buses = none_on_buses c.args.plan.now c.args.controller c.new-flashes.result c.new-flashes.ensures;
}

pub overflow_cast-number : goal.overflow_cast-number
overflow_cast-number c =
    let few = few_made c.loop-chip.flashes c.loop-chip.rest c.args.chips c.loop-chip.invariant.whole c.requires in
    omega (arith, few, c.len-number.ensures)

pub loop-chip-preserved : goal.loop-chip-preserved
loop-chip-preserved c = record {
  whole = states_on c.loop-chip.flashes c.append.new.self c.loop-chip.rest c.take_first.new.self c.in-Some.chip c.lab_chip.result _
      c.loop-chip.invariant.whole c.in-Some.ensures.taken c.lab_chip.ensures.state c.in_ok-append.ensures.ok;
  buses = next_on_buses c.args.plan.now c.args.controller c.len-number.result c.loop-chip.flashes c.append.new.self c.lab_chip.result
      c.loop-chip.invariant.buses c.len-number.ensures (c.lab_chip.ensures.bus ∙ c.on_bus-on_bus.ensures) c.in_ok-append.ensures.ok;
}
