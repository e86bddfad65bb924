use Rattle.std.proofs.Common.{◌≡◌, ℕ, ◌&&◌, nat_le, nat_lt, if◌then◌else◌, false}
use Rattle.chip_sim.specs.Slots.{slot_at}
use Rattle.chip_sim.specs.declared.slots.Slot.TheVariants.{Blank}
use Rattle.chip_sim.proofs.slots.clear_slots.Given as goal

abbrev pub invariant-loop-page : goal.invariant-loop-page
invariant-loop-page l = (page : ℕ) → slot_at l.slots page ≡ (if nat_le l.first page && nat_lt page l.page then Blank false else slot_at l.initial.slots page)
