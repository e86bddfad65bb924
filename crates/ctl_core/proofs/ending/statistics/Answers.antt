use Rattle.std.proofs.Common.{◌≡◌, ◌<◌, length, map, Option, Some, ap, sym, ◌∙◌}
use Rattle.std.specs.Prelude.{slice_get}
use Rattle.nand_model.specs.declared.words.Part.{Part}
use Rattle.nand_model.specs.Partitions.{chip_of_part, part_of}
use Rattle.ctl_core.specs.Board.{slot_state}
use Rattle.ctl_core.specs.Ended.{slot_statistics_at, slot_statistics_on}
use Rattle.ctl_core.specs.SlotState.{SlotState}
use Rattle.ctl_core.proofs.Devices.{all_at, part_at}
use Rattle.ctl_core.proofs.OnCourse.{lent_within, some_lent}
use Rattle.ctl_core.proofs.Positions.{at_mapped}
use Rattle.ctl_core.proofs.ending.statistics.Goals as goal

pub returns-in-Some : goal.returns-in-Some
returns-in-Some g c =
    let slots = c.args.slots.now in
    let k = c.in-Some.part.now.chip in
    let part : part_of c.args.parts.now c.args.dev ≡ Some c.in-Some.part.now =
    some_lent c.get.result (part_of c.args.parts.now c.args.dev) c.in-Some.part c.get.ensures.lent c.in-Some.is in
    let place = part_at c.args.parts.now c.args.dev c.in-Some.part.now part in
    let within : k < length slots = all_at (λ (p : Part). p.chip < length slots) c.args.parts.now.parts place.0 c.in-Some.part.now c.requires place.1 in
    let at : slice_get (map slot_state slots) k ≡ Some (slot_state c.index-slots-part.result) = at_mapped slot_state slots k c.index-slots-part.result
    (lent_within slots k c.index-slots-part.result within c.index-slots-part.is) in
    let there : slot_statistics_at (map slot_state slots) (chip_of_part (part_of c.args.parts.now c.args.dev)) c.args.dev
    ≡ slot_statistics_on (Some (slot_state c.index-slots-part.result)) c.args.dev =
    ap (λ (o : Option Part). slot_statistics_at (map slot_state slots) (chip_of_part o) c.args.dev) part
    ∙ ap (λ (o : Option (SlotState g.F.Flash.FaultState)). slot_statistics_on o c.args.dev) at in
    c.stats.ensures ∙ sym there
