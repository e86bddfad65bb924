use Rattle.std.proofs.Common.{◌<◌, ◌∙◌, ap, length, false}
use Rattle.std.proofs.lemmas.List.{length-set}
use Rattle.std.proofs.lemmas.List.Elements.{All-set}
use Rattle.nand_model.specs.Chip.{good_program}
use Rattle.nand_model.specs.Sizes.{raw_len}
use Rattle.chip_sim.specs.FlipLog.{flips_of}
use Rattle.chip_sim.specs.Slots.{IsWholeSlot, page_of, programmed_slot, slot_at}
use Rattle.chip_sim.specs.declared.slots.Slot.{Slot}
use Rattle.chip_sim.specs.declared.slots.Slot.TheVariants.{Blank}
use Rattle.chip_sim.proofs.SlotLemmas.{change-pages, programmed-whole, slot_at-changed}
use Rattle.chip_sim.proofs.page_store.PageStore.program.Goals as goal

pub invariant_of-self : goal.invariant_of-self
invariant_of-self c =
    let s = c.args.self.now in
    let raw = raw_len c.args.self.now.geometry in
    let there : c.args.page < length c.args.self.now.slots.items = rw s.all_there c.requires.place.page_there in
    let change : Slot → Slot = programmed_slot (raw_len c.args.self.now.geometry) c.args.image.now in
    let new = slot_at-changed s.slots.items c.args.page c.index_mut.result.now c.program_slot.new.slot change there c.index_mut.ensures.value
    (rw (← s.blanks_fit) c.program_slot.ensures.programmed) in
    record {
      all_there = length-set s.slots.items c.args.page c.program_slot.new.slot ∙ s.all_there;
      whole = All-set (IsWholeSlot raw) s.slots.items c.args.page c.program_slot.new.slot
          (rw new (programmed-whole raw c.args.image.now (slot_at s.slots.items c.args.page) (s.whole c.args.page (Blank false) there))) s.whole;
      blanks_fit = c.program_slot.ensures.raw ∙ s.blanks_fit;
      flips_fit = s.flips_fit;
    }

pub returns-clause-pages : goal.returns-clause-pages
returns-clause-pages c =
    let s = c.args.self.now in
    let there : c.args.page < length c.args.self.now.slots.items = rw s.all_there c.requires.place.page_there in
    let change : Slot → Slot = programmed_slot (raw_len c.args.self.now.geometry) c.args.image.now in
    let new = slot_at-changed s.slots.items c.args.page c.index_mut.result.now c.program_slot.new.slot change there c.index_mut.ensures.value
    (rw (← s.blanks_fit) c.program_slot.ensures.programmed) in
    λ p. change-pages (raw_len s.geometry) (flips_of s.log.flips) s.slots.items c.args.page p c.program_slot.new.slot
    (good_program (page_of (raw_len s.geometry) (flips_of s.log.flips c.args.page) (slot_at s.slots.items c.args.page)) c.args.image.now) there
    (ap (page_of (raw_len s.geometry) (flips_of s.log.flips c.args.page)) new)
