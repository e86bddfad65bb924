use Rattle.std.proofs.Common.{◌<◌, ◌∙◌, length, arith, false}
use Rattle.std.proofs.lemmas.List.{length-set}
use Rattle.std.proofs.lemmas.List.Elements.{All-set}
use Rattle.nand_model.specs.Sizes.{raw_len}
use Rattle.chip_sim.specs.FlipLog.{flips_of}
use Rattle.chip_sim.specs.Slots.{IsWholeSlot, flipped_slot, slot_at}
use Rattle.chip_sim.specs.declared.slots.Slot.{Slot}
use Rattle.chip_sim.specs.declared.slots.Slot.TheVariants.{Blank}
use Rattle.chip_sim.proofs.Flipping.{flip-pages, flipped-whole}
use Rattle.chip_sim.proofs.SlotLemmas.{slot_at-changed}
use Rattle.chip_sim.proofs.page_store.PageStore.flip.Goals as goal

pub invariant_of-self : goal.invariant_of-self
invariant_of-self c =
    let s = c.args.self.now in
    let raw = raw_len c.args.self.now.geometry in
    let there : c.args.page < length c.args.self.now.slots.items = rw s.all_there c.requires.place.page_there in
    let change : Slot → Slot = flipped_slot (raw_len c.args.self.now.geometry) c.args.bits.now in
    let new = slot_at-changed s.slots.items c.args.page c.index_mut.result.now c.flip_slot.new.slot change there c.index_mut.ensures.value
    (rw (← s.blanks_fit) c.flip_slot.ensures.flipped) in
    record {
      all_there = length-set s.slots.items c.args.page c.flip_slot.new.slot ∙ s.all_there;
      whole = All-set (IsWholeSlot raw) s.slots.items c.args.page c.flip_slot.new.slot
          (rw new (flipped-whole raw c.args.bits.now (slot_at s.slots.items c.args.page) (s.whole c.args.page (Blank false) there))) s.whole;
      blanks_fit = c.flip_slot.ensures.raw ∙ s.blanks_fit;
      flips_fit = c.add.ensures.pages ∙ s.flips_fit;
    }

pub returns-then-len-gt0-clause-pages : goal.returns-then-len-gt0-clause-pages
returns-then-len-gt0-clause-pages c =
    let s = c.args.self.now in
    let there : c.args.page < length c.args.self.now.slots.items = rw s.all_there c.requires.place.page_there in
    let some : 0 < length c.args.bits.now = omega arith in
    let change : Slot → Slot = flipped_slot (raw_len c.args.self.now.geometry) c.args.bits.now in
    let new = slot_at-changed s.slots.items c.args.page c.index_mut.result.now c.flip_slot.new.slot change there c.index_mut.ensures.value
    (rw (← s.blanks_fit) c.flip_slot.ensures.flipped) in
    λ page. flip-pages (raw_len s.geometry) (flips_of s.log.flips) (flips_of c.add.new.self.flips) s.slots.items c.args.page page
    c.flip_slot.new.slot c.args.bits.now there some new (c.add.ensures.flips page)
