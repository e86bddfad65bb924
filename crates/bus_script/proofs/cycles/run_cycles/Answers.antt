use Rattle.std.proofs.Common.{◌≡◌, ◌+◌, ◌<◌, ℕ, suc, List, arith, drop, get_or, length, refl, subst, sym, take}
use Rattle.std.proofs.lemmas.List.{length-take-le, take_all, take_more}
use Rattle.nand_model.specs.Chip.{ChipState}
use Rattle.onfi_bus.specs.declared.cycle.Cycle.{Cycle}
use Rattle.onfi_bus.specs.declared.cycle.Cycle.TheVariants.{Command}
use Rattle.bus_script.proofs.OneAfterAnother.{SoFar, all_done, is_stopped, one_more, parts_at}
use Rattle.bus_script.proofs.cycles.run_cycles.Goals as goal

pub returns-in_default-clause-refused : goal.returns-in_default-clause-refused
returns-in_default-clause-refused g c =
    let at = c.loop-cycle in
    let all = c.args.cycles.now in
    let within : at.cycle-index < length all = omega (arith, c.loop-cycle-test.true) in
    let number : at.count + 1 ≡ length (take at.cycle-index all) + 1 =
    omega (arith, at.invariant.number, length-take-le at.cycle-index all (omega arith)) in
    is_stopped g.F.Flash.fault_model (g.F.Flash.state c.args.flash.now) (g.F.Flash.state at.flash) at.bus all
    (take at.cycle-index all) (drop (suc at.cycle-index) all) (get_or all at.cycle-index (Command 0)) at.run.events at.run.bytes
    (at.count + 1) at.invariant.so_far (parts_at all at.cycle-index (Command 0) within) number
    (c.in_default.ensures.illegal.0 refl)

pub loop-cycle-preserved : goal.loop-cycle-preserved
loop-cycle-preserved g c =
    let at = c.loop-cycle in
    let all = c.args.cycles.now in
    let within : at.cycle-index < length all = omega (arith, c.loop-cycle-test.true) in
    let reserved = subst (λ (s : ChipState g.F.Flash.FaultState).
    SoFar g.F.Flash.fault_model (g.F.Flash.state c.args.flash.now) s at.bus (take at.cycle-index all) at.run.events at.run.bytes)
    (sym c.in_ok-reserve.ensures.state) at.invariant.so_far in
    record {
      number = omega (arith, at.invariant.number);
      so_far = one_more g.F.Flash.fault_model (g.F.Flash.state c.args.flash.now) (g.F.Flash.state c.reserve.new.self)
          (g.F.Flash.state c.step.new.flash) at.bus c.step.new.self (take at.cycle-index all) (take (at.cycle-index + 1) all)
          (get_or all at.cycle-index (Command 0)) c.in-Ok.byte c.event-event.result at.run.events c.keep_event.new.events
          at.run.bytes c.keep_byte.new.bytes reserved (take_more all at.cycle-index (Command 0) within)
          c.in-Ok.ensures.illegal c.in-Ok.ensures.phase c.in-Ok.ensures.device c.in-Ok.ensures.answer c.event-event.ensures
          c.in-Ok.ensures.sizes c.in-Ok.ensures.chip_sizes c.in_ok-keep_event.ensures c.in_ok-keep_byte.ensures;
    }

pub returns-clause-run : goal.returns-clause-run
returns-clause-run g c =
    let at = c.loop-cycle in
    let all = c.args.cycles.now in
    all_done g.F.Flash.fault_model (g.F.Flash.state c.args.flash.now) (g.F.Flash.state at.flash) at.bus all at.run.events at.run.bytes
    (subst (λ (cs : List Cycle). SoFar g.F.Flash.fault_model (g.F.Flash.state c.args.flash.now) (g.F.Flash.state at.flash) at.bus cs at.run.events at.run.bytes)
    (take_all at.cycle-index all (omega (arith, c.loop-cycle-test.false))) at.invariant.so_far)
