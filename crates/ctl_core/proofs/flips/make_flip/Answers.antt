use Rattle.ctl_core.specs.Board.{slot_state}
use Rattle.ctl_core.specs.Flips.{slot_with_flip}
use Rattle.ctl_core.proofs.Places.{mapped_set}
use Rattle.ctl_core.proofs.Slots.{kept_at}
use Rattle.ctl_core.proofs.FlipSteps.{room_after, room_first}
use Rattle.ctl_core.proofs.flips.make_flip.Goals as goal

pub flip-requires-clause-page_room : goal.flip-requires-clause-page_room
flip-requires-clause-page_room g c =
    let there = c.requires.there in
    let slot = kept_at slot_state c.args.slots.now.items c.args.flip.now.chip c.index_mut.result.now there.0 c.index_mut.ensures.value there.1 in
    (room_first c.args.flip.now c.args.slots.now.items c.index_mut.result.now c.requires.room slot.0).page_room

pub flip-requires-clause-bits : goal.flip-requires-clause-bits
flip-requires-clause-bits g c =
    let there = c.requires.there in
    let slot = kept_at slot_state c.args.slots.now.items c.args.flip.now.chip c.index_mut.result.now there.0 c.index_mut.ensures.value there.1 in
    (room_first c.args.flip.now c.args.slots.now.items c.index_mut.result.now c.requires.room slot.0).bits_room

pub returns-clause-chips : goal.returns-clause-chips
returns-clause-chips g c =
    let there = c.requires.there in
    let slot = kept_at slot_state c.args.slots.now.items c.args.flip.now.chip c.index_mut.result.now there.0 c.index_mut.ensures.value there.1 in
    mapped_set slot_state (slot_with_flip g.F.Flash.fault_model c.args.flip.now) c.args.slots.now.items c.args.flip.now.chip c.index_mut.result.now _ slot.0
    (λ j. record { state = c.flip.ensures.state j; stage = c.flip.ensures.stage j; pending_note = c.flip.ensures.pending_note j; holder = c.index_mut.result.now.holder })

pub returns-clause-room : goal.returns-clause-room
returns-clause-room g c rest =
    let there = c.requires.there in
    let slot = kept_at slot_state c.args.slots.now.items c.args.flip.now.chip c.index_mut.result.now there.0 c.index_mut.ensures.value there.1 in
    room_after c.args.flip.now rest c.args.slots.now.items c.index_mut.result.now _ slot.0 c.flip.ensures.page_room c.flip.ensures.bits
