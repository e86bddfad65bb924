use Rattle.std.proofs.Common.{◌≡◌, ℕ, ◌+◌, ◌-◌, ◌&&◌, nat_le, nat_lt, if◌then◌else◌, All}
use Rattle.chip_sim.specs.Slots.{IsWholeSlot, erase_torn, slot_at}
use Rattle.chip_sim.proofs.slots.tear_slots.Given as goal

abbrev pub invariant-loop-q : goal.invariant-loop-q
invariant-loop-q l =
    record {
      whole : All (IsWholeSlot l.raw_len) l.slots;
      torn : (page : ℕ) → slot_at l.slots page ≡ (if nat_le l.first page && nat_lt page (l.first + l.q)
          then erase_torn l.raw_len l.tear (page - l.first) (slot_at l.initial.slots page)
          else slot_at l.initial.slots page);
    }
