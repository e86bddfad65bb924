use Rattle.std.proofs.Common.{◌≡◌, ℕ, ◌<◌, [], length, All, if◌then◌else◌}
use Rattle.std.specs.Prelude.{◌==◌}
use Rattle.std.specs.List.{list_any}
use Rattle.std.specs.VecDeque.Iter.{deque_iter_rest}
use Rattle.nand_model.specs.Chip.{new_page}
use Rattle.nand_model.specs.Sizes.{page_count, raw_len, first_page}
use Rattle.chip_sim.specs.Slots.{IsWholeSlot, page_of, slot_at}
use Rattle.chip_sim.specs.declared.slots.Slot.TheVariants.{Kept}
use Rattle.chip_sim.proofs.SlotLemmas.{factory_bad}
use Rattle.chip_sim.proofs.slots.new_slots.Given as goal

-- the blocks so far are marked
abbrev pub invariant-loop-block : goal.invariant-loop-block
invariant-loop-block l =
    record {
      count : length l.slots.items ≡ page_count l.g;
      whole : All (IsWholeSlot (raw_len l.g)) l.slots.items;
      left : All (λ block. block < l.g.blocks) (deque_iter_rest l.block-iterator);
      pages : (page : ℕ) → (if list_any (λ b. first_page l.g b == page) (deque_iter_rest l.block-iterator)
          then page_of (raw_len l.g) [] (Kept (factory_bad l.g))
          else page_of (raw_len l.g) [] (slot_at l.slots.items page)) ≡ new_page l.g l.bad page;
    }
