use Rattle.std.proofs.Common.{ℕ, ◌+◌, ◌∙◌, ◌<◌, ap, length, arith, false}
use Rattle.std.proofs.lemmas.List.{get_or_default}
use Rattle.std.proofs.lemmas.List.Elements.{All-set}
use Rattle.chip_sim.specs.Slots.{IsWholeSlot, erase_torn, slot_at}
use Rattle.chip_sim.specs.declared.slots.Slot.TheVariants.{Blank}
use Rattle.chip_sim.proofs.SlotLemmas.{erase_torn-whole, tear-next}
use Rattle.chip_sim.proofs.slots.tear_slots.Goals as goal

pub loop-q-preserved : goal.loop-q-preserved
loop-q-preserved c =
    let raw : ℕ = c.args.raw_len in
    let at : ℕ = c.args.first + c.loop-q.q in
    let there : c.args.first + c.loop-q.q < length c.loop-q.slots = omega arith in
    let new = c.tear_slot_erase.ensures
    ∙ ap (erase_torn c.args.raw_len c.args.tear.now c.loop-q.q)
    (get_or_default c.loop-q.slots (c.args.first + c.loop-q.q) c.index-slots-first.result (Blank false) there) in
    record {
      whole = All-set (IsWholeSlot raw) c.loop-q.slots at c.tear_slot_erase.new.slot
          (rw new (erase_torn-whole raw c.args.tear.now c.loop-q.q (slot_at c.loop-q.slots at) (c.loop-q.invariant.whole at (Blank false) there)))
          c.loop-q.invariant.whole;
      torn = λ page. tear-next raw c.args.first c.loop-q.q c.args.tear.now c.args.slots.now c.loop-q.slots c.tear_slot_erase.new.slot page there
          c.loop-q.invariant.torn new;
    }
