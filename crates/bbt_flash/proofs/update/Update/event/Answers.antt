use Rattle.std.proofs.Common.{◌≡◌, ◌∙◌, ℕ, List, Some, None, option_map, ap, sym}
use Rattle.chip_paths.specs.ChipRun.{name_of}
use Rattle.chip_paths.specs.Writing.{event_for, next_writing_event}
use Rattle.bbt_flash.specs.Copies.{copies_in}
use Rattle.bbt_flash.specs.Update.{update_writing}
use Rattle.bbt_flash.proofs.Updating.{over-event}
use Rattle.bbt_flash.proofs.update.Update.event.Goals as goal

pub returns-in-Nothing-clause-next : goal.returns-in-Nothing-clause-next
returns-in-Nothing-clause-next c =
    let u = c.args.self.now in
    λ table. sym (ap (λ left. option_map name_of (event_for u.geometry (update_writing u table) (copies_in left))) c.in-Nothing.is)

pub returns-in-Last-clause-next : goal.returns-in-Last-clause-next
returns-in-Last-clause-next c =
    let u = c.args.self.now in
    λ table. ap Some (c.event_for.ensures.event table)
    ∙ sym (ap (λ left. option_map name_of (event_for u.geometry (update_writing u table) (copies_in left))) c.in-Last.is)

pub returns-in-Both-clause-next : goal.returns-in-Both-clause-next
returns-in-Both-clause-next c =
    let u = c.args.self.now in
    λ table. ap Some (c.event_for-in-Both.ensures.event table)
    ∙ sym (ap (λ left. option_map name_of (event_for u.geometry (update_writing u table) (copies_in left))) c.in-Both.is)

pub returns-in-Nothing-clause-path : goal.returns-in-Nothing-clause-path
returns-in-Nothing-clause-path c =
    let u = c.args.self.now in
    λ table. sym (ap (λ left. option_map name_of (event_for u.geometry (update_writing u table) (copies_in left))) c.in-Nothing.is)
    ∙ ap (option_map name_of) (sym (over-event u.geometry (update_writing u table) (λ end. end)))

pub returns-in-Last-clause-path : goal.returns-in-Last-clause-path
returns-in-Last-clause-path c =
    let u = c.args.self.now in
    λ table. ap Some (c.event_for.ensures.event table)
    ∙ sym (ap (λ left. option_map name_of (event_for u.geometry (update_writing u table) (copies_in left))) c.in-Last.is)
    ∙ ap (option_map name_of) (sym (over-event u.geometry (update_writing u table) (λ end. end)))

pub returns-in-Both-clause-path : goal.returns-in-Both-clause-path
returns-in-Both-clause-path c =
    let u = c.args.self.now in
    λ table. ap Some (c.event_for-in-Both.ensures.event table)
    ∙ sym (ap (λ left. option_map name_of (event_for u.geometry (update_writing u table) (copies_in left))) c.in-Both.is)
    ∙ ap (option_map name_of) (sym (over-event u.geometry (update_writing u table) (λ end. end)))
