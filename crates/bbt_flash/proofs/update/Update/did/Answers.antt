use Rattle.std.proofs.Common.{◌≡◌, ◌∙◌, [], ◌∷◌, ap, sym}
use Rattle.chip_paths.specs.Writing.{after_event, other_of, writing_after}
use Rattle.bbt_flash.specs.Copies.{copies_in}
use Rattle.bbt_flash.specs.Events.{answer_of}
use Rattle.bbt_flash.specs.Update.{update_writing}
use Rattle.bbt_flash.proofs.Updating.{after-none, after-one, over-after}
use Rattle.bbt_flash.proofs.update.Update.did.Goals as goal

pub returns-in-Nothing-clause-step : goal.returns-in-Nothing-clause-step
returns-in-Nothing-clause-step c =
    let u = c.args.self.now in
    sym (after-none u.geometry (update_writing u c.args.table.now) c.args.ok (ap copies_in c.in-Nothing.is))

pub returns-in-Nothing-clause-path : goal.returns-in-Nothing-clause-path
returns-in-Nothing-clause-path c =
    let u = c.args.self.now in
    over-after u.geometry (update_writing u c.args.table.now) (λ end. end) c.args.ok _
    (sym (after-none u.geometry (update_writing u c.args.table.now) c.args.ok (ap copies_in c.in-Nothing.is)))

pub returns-in-Last-clause-step : goal.returns-in-Last-clause-step
returns-in-Last-clause-step c =
    let u = c.args.self.now in
    c.go_on.ensures.step ∙ sym (after-one u.geometry (update_writing u c.args.table.now) c.in-Last.which [] c.args.ok (ap copies_in c.in-Last.is))

pub returns-in-Last-clause-path : goal.returns-in-Last-clause-path
returns-in-Last-clause-path c =
    let u = c.args.self.now in
    over-after u.geometry (update_writing u c.args.table.now) (λ end. end) c.args.ok _
    (c.go_on.ensures.step ∙ sym (after-one u.geometry (update_writing u c.args.table.now) c.in-Last.which [] c.args.ok (ap copies_in c.in-Last.is)))

pub returns-in-Both-clause-step : goal.returns-in-Both-clause-step
returns-in-Both-clause-step c =
    let u = c.args.self.now in
    let first = c.in-Both.first in
    c.go_on-in-Both.ensures.step
    ∙ ap (λ r. after_event u.geometry (update_writing u c.args.table.now) first (r ∷ []) c.args.ok) c.other_of.ensures
    ∙ sym (after-one u.geometry (update_writing u c.args.table.now) first (other_of first ∷ []) c.args.ok (ap copies_in c.in-Both.is))

pub returns-in-Both-clause-path : goal.returns-in-Both-clause-path
returns-in-Both-clause-path c =
    let u = c.args.self.now in
    let first = c.in-Both.first in
    over-after u.geometry (update_writing u c.args.table.now) (λ end. end) c.args.ok _
    (c.go_on-in-Both.ensures.step
    ∙ ap (λ r. after_event u.geometry (update_writing u c.args.table.now) first (r ∷ []) c.args.ok) c.other_of.ensures
    ∙ sym (after-one u.geometry (update_writing u c.args.table.now) first (other_of first ∷ []) c.args.ok (ap copies_in c.in-Both.is)))
