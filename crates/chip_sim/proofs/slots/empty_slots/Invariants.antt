use Rattle.std.proofs.Common.{◌≡◌, false, replicate}
use Rattle.chip_sim.specs.declared.slots.Slot.TheVariants.{Blank}
use Rattle.chip_sim.proofs.slots.empty_slots.Given as goal

abbrev pub invariant-loop : goal.invariant-loop
invariant-loop l = l.slots.items ≡ replicate l.counter (Blank false)
