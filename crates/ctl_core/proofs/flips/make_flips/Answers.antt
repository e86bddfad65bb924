use Rattle.std.proofs.Common.{◌+◌, map, refl}
use Rattle.ctl_core.specs.Board.{slot_state}
use Rattle.ctl_core.specs.Flips.{CanFlip}
use Rattle.ctl_core.proofs.Devices.{all_at}
use Rattle.ctl_core.proofs.FlipSteps.{all_flipped, flip_room, left_at_first, next_within, one_flipped, room_at_end}
use Rattle.ctl_core.proofs.flips.make_flips.Goals as goal

pub loop-next-init : goal.loop-next-init
loop-next-init g c = record {
  left = record {
    left = _;
    are_left = left_at_first c.args.faults.now.flips c.args.event c.due-next.result c.due-next.ensures.first;
    there = c.requires.there;
    room = c.requires.room;
    so_far = refl;
  };
  within = next_within c.args.faults.now.flips c.args.event 0 c.due-next.result c.due-next.ensures.first;
}

pub make_flip-requires-clause-there : goal.make_flip-requires-clause-there
make_flip-requires-clause-there g c =
    all_at (CanFlip (map slot_state c.loop-next.slots.items)) c.args.faults.now.flips _ c.flip.result.now c.loop-next.invariant.left.there c.flip.ensures

pub make_flip-requires-clause-room : goal.make_flip-requires-clause-room
make_flip-requires-clause-room g c =
    flip_room c.args.faults.now.flips c.args.event c.loop-next.next (map slot_state c.args.slots.now.items) c.loop-next.slots.items c.loop-next.invariant.left
    c.in-Some.n c.flip.result.now c.in-Some.is c.flip.ensures

pub loop-next-preserved : goal.loop-next-preserved
loop-next-preserved g c = record {
  left = one_flipped c.args.faults.now.flips c.args.event c.loop-next.next (map slot_state c.args.slots.now.items) c.loop-next.slots.items
      c.loop-next.invariant.left c.in-Some.n c.flip.result.now c.due-next-in-Some.result c.make_flip.new.slots.items c.in-Some.is c.flip.ensures
      c.due-next-in-Some.ensures.first c.make_flip.ensures.chips c.make_flip.ensures.room;
  within = next_within c.args.faults.now.flips c.args.event (c.in-Some.n + 1) c.due-next-in-Some.result c.due-next-in-Some.ensures.first;
}

pub returns-clause-made : goal.returns-clause-made
returns-clause-made g c =
    all_flipped c.args.faults.now.flips c.args.event c.loop-next.next (map slot_state c.args.slots.now.items) c.loop-next.slots.items c.loop-next.invariant.left
    c.in_default.is

pub returns-clause-room : goal.returns-clause-room
returns-clause-room g c =
    room_at_end c.args.faults.now.flips c.args.event c.loop-next.next (map slot_state c.args.slots.now.items) c.loop-next.slots.items c.loop-next.invariant.left
    c.in_default.is
