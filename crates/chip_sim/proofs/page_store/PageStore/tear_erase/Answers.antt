use Rattle.std.proofs.Common.{◌∙◌, ℕ, ap, sym, subst, length, All, arith}
use Rattle.std.specs.Vec.{with_items}
use Rattle.std.proofs.lemmas.List.{with_items_is}
use Rattle.nand_model.specs.Sizes.{raw_len}
use Rattle.chip_sim.specs.FlipLog.{flips_of}
use Rattle.chip_sim.specs.Slots.{IsWholeSlot}
use Rattle.chip_sim.proofs.Placing.{pages_per_block-some, block_end-small}
use Rattle.chip_sim.proofs.SlotLemmas.{tear-pages, torn-whole}
use Rattle.chip_sim.proofs.page_store.PageStore.tear_erase.Goals as goal

pub overflow_mul-first : goal.overflow_mul-first
overflow_mul-first c = omega (arith, block_end-small c.args.self.now.geometry c.args.block c.requires)

pub invariant_of-self : goal.invariant_of-self
invariant_of-self c =
    let s = c.args.self.now in
    let raw : ℕ = raw_len c.args.self.now.geometry in
    let lent = c.deref_mut.result.now in
    let same = with_items_is s.slots c.tear_slots.new.slots (c.tear_slots.auto.slots ∙ c.deref_mut.ensures.len) in
    let before : All (IsWholeSlot raw) c.deref_mut.result.now = rw c.deref_mut.ensures.value s.whole in
    let after = torn-whole raw _ _ c.args.tear.now lent c.tear_slots.new.slots c.tear_slots.auto.slots
    (rw c.raw_len-raw_len.ensures at c.tear_slots.ensures) before in
    record {
      all_there = ap length same ∙ c.tear_slots.auto.slots ∙ ap length c.deref_mut.ensures.value ∙ s.all_there;
      whole = subst (All (IsWholeSlot raw)) (sym same) after;
      blanks_fit = s.blanks_fit;
      flips_fit = s.flips_fit;
    }

pub returns-clause-pages : goal.returns-clause-pages
returns-clause-pages c =
    let s = c.args.self.now in
    let new = c.tear_slots.new.slots in
    let same = with_items_is s.slots new (c.tear_slots.auto.slots ∙ c.deref_mut.ensures.len) in
    λ page. tear-pages s.geometry c.args.tear.now s.slots.items (with_items s.slots new).items (flips_of s.log.flips)
    c.args.block page (pages_per_block-some s.geometry)
    (rw (same, ← c.deref_mut.ensures.value, ← c.raw_len-raw_len.ensures) (c.tear_slots.ensures page))
