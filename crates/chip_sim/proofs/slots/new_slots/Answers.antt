use Rattle.std.proofs.Common.{◌<◌, All, arith, subst}
use Rattle.std.proofs.lemmas.List.Elements.{All-head}
use Rattle.std.specs.VecDeque.Iter.{deque_iter_rest}
use Rattle.nand_model.specs.Sizes.{page_count, first_page}
use Rattle.chip_sim.proofs.Placing.{first_page-there}
use Rattle.chip_sim.proofs.SlotLemmas.{Marked, one_marked}
use Rattle.chip_sim.proofs.slots.new_slots.Goals as goal

pub index_mut-requires : goal.index_mut-requires
index_mut-requires c =
    let inside : c.in-Some.field-0.now < c.args.g.blocks = All-head (λ b. b < c.args.g.blocks) c.in-Some.field-0.now (deque_iter_rest c.next.new.self)
    (subst (All (λ b. b < c.args.g.blocks)) c.in-Some.ensures.steps c.loop-block.invariant.left) in
    let there : first_page c.args.g c.in-Some.field-0.now < page_count c.args.g = first_page-there c.args.g c.in-Some.field-0.now inside in
    omega (arith, there, c.loop-block.invariant.count, c.loop-block.slots.ok)

pub loop-block-preserved-in_ok-factory_bad_page : goal.loop-block-preserved-in_ok-factory_bad_page
loop-block-preserved-in_ok-factory_bad_page c =
    let invariant = c.loop-block.invariant in
    let so_far : Marked c.args.g c.args.bad.now c.loop-block.slots.items (deque_iter_rest c.loop-block.block-iterator) =
    record { count = invariant.count; whole = invariant.whole; blocks = invariant.left; pages = invariant.pages } in
    let marked = one_marked c.args.g c.args.bad.now c.loop-block.slots.items (deque_iter_rest c.loop-block.block-iterator) c.in-Some.field-0.now
    (deque_iter_rest c.next.new.self) c.in_ok-factory_bad_page.field-0 so_far c.in-Some.ensures.steps c.in_ok-factory_bad_page.ensures in
    record { count = marked.count; whole = marked.whole; left = marked.blocks; pages = marked.pages }

pub loop-block-preserved : goal.loop-block-preserved
loop-block-preserved c =
    let invariant = c.loop-block.invariant in
    let so_far : Marked c.args.g c.args.bad.now c.loop-block.slots.items (deque_iter_rest c.loop-block.block-iterator) =
    record { count = invariant.count; whole = invariant.whole; blocks = invariant.left; pages = invariant.pages } in
    let marked = one_marked c.args.g c.args.bad.now c.loop-block.slots.items (deque_iter_rest c.loop-block.block-iterator) c.in-Some.field-0.now
    (deque_iter_rest c.next.new.self) c.in_ok-factory_bad_page.field-0 so_far c.in-Some.ensures.steps c.in_ok-factory_bad_page.ensures in
    record { count = marked.count; whole = marked.whole; left = marked.blocks; pages = marked.pages }
