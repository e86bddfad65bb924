use Rattle.std.proofs.Common.{◌<◌, not, length, Some, sym, ap, ◌∙◌, subst}
use Rattle.std.specs.Prelude.{is_none, option_map}
use Rattle.ctl_core.specs.Board.{past_of, slot_state, StandsAt}
use Rattle.ctl_core.specs.SlotState.{SlotState}
use Rattle.ctl_core.proofs.Positions.{at_mapped}
use Rattle.ctl_core.proofs.Slots.{at_some}
use Rattle.ctl_core.proofs.OnCourse.{lent_within, stays_where_done, answers_held, answers_did_begin}
use Rattle.ctl_core.proofs.board.Board.begin.Goals as goal

pub returns-in_default-clause-stands : goal.returns-in_default-clause-stands
returns-in_default-clause-stands g c =
    let past = past_of c.args.journal.now in
    subst (λ course. StandsAt past course c.args.self.now)
    (sym (stays_where_done past c.args.self.now c.args.session c.args.place c.requires.turn c.requires.free
    (sym c.next_chip.ensures.over ∙ ap is_none c.in_default.is)).0)
    c.requires.turn.on_course.stands

pub returns-in-Some-holder-clause-answer : goal.returns-in-Some-holder-clause-answer
returns-in-Some-holder-clause-answer g c =
    let past = past_of c.args.journal.now in
    let within = at_some (λ k. k < length c.args.self.now.slots.items) c.next_chip.result c.in-Some.k c.next_chip.ensures.there c.in-Some.is in
    let slot = lent_within c.args.self.now.slots.items c.in-Some.k c.index.result.now within c.index.ensures in
    (answers_held past c.args.self.now c.args.session c.args.place c.requires.turn c.in-Some.k c.in-Some-holder.by c.index.result.now
    (sym c.next_chip.ensures.over ∙ ap is_none c.in-Some.is) c.requires.free (sym c.next_chip.ensures.chip ∙ c.in-Some.is) slot c.in-Some-holder.is).0

pub returns-in-Some-holder-clause-stands : goal.returns-in-Some-holder-clause-stands
returns-in-Some-holder-clause-stands g c =
    let past = past_of c.args.journal.now in
    let within = at_some (λ k. k < length c.args.self.now.slots.items) c.next_chip.result c.in-Some.k c.next_chip.ensures.there c.in-Some.is in
    let slot = lent_within c.args.self.now.slots.items c.in-Some.k c.index.result.now within c.index.ensures in
    subst (λ course. StandsAt past course c.args.self.now)
    (sym (answers_held past c.args.self.now c.args.session c.args.place c.requires.turn c.in-Some.k c.in-Some-holder.by c.index.result.now
    (sym c.next_chip.ensures.over ∙ ap is_none c.in-Some.is) c.requires.free (sym c.next_chip.ensures.chip ∙ c.in-Some.is) slot c.in-Some-holder.is).1)
    c.requires.turn.on_course.stands

pub begin_on-requires-clause-free : goal.begin_on-requires-clause-free
begin_on-requires-clause-free g c =
    let within = at_some (λ k. k < length c.args.self.now.slots.items) c.next_chip.result c.in-Some.k c.next_chip.ensures.there c.in-Some.is in
    let slot = lent_within c.args.self.now.slots.items c.in-Some.k c.index.result.now within c.index.ensures in
    ap (option_map (λ (y : SlotState g.F.Flash.FaultState). y.holder)) (at_mapped slot_state c.args.self.now.slots.items c.in-Some.k c.index.result.now slot)
    ∙ ap Some c.in_default-holder.is

pub returns-clause-answer : goal.returns-clause-answer
returns-clause-answer g c =
    let past = past_of c.args.journal.now in
    let within = at_some (λ k. k < length c.args.self.now.slots.items) c.next_chip.result c.in-Some.k c.next_chip.ensures.there c.in-Some.is in
    let slot = lent_within c.args.self.now.slots.items c.in-Some.k c.index.result.now within c.index.ensures in
    (answers_did_begin past c.args.self.now c.args.session c.args.place c.requires.turn c.in-Some.k c.index.result.now
    (sym c.next_chip.ensures.over ∙ ap is_none c.in-Some.is) c.requires.free (sym c.next_chip.ensures.chip ∙ c.in-Some.is) slot c.in_default-holder.is).0

pub returns-clause-idle : goal.returns-clause-idle
returns-clause-idle g c =
    let past = past_of c.args.journal.now in
    let within = at_some (λ k. k < length c.args.self.now.slots.items) c.next_chip.result c.in-Some.k c.next_chip.ensures.there c.in-Some.is in
    let slot = lent_within c.args.self.now.slots.items c.in-Some.k c.index.result.now within c.index.ensures in
    ap not (sym (answers_did_begin past c.args.self.now c.args.session c.args.place c.requires.turn c.in-Some.k c.index.result.now
    (sym c.next_chip.ensures.over ∙ ap is_none c.in-Some.is) c.requires.free (sym c.next_chip.ensures.chip ∙ c.in-Some.is) slot c.in_default-holder.is).1)

pub returns-in-Some-holder-clause-idle : goal.returns-in-Some-holder-clause-idle
returns-in-Some-holder-clause-idle g c =
    let past = past_of c.args.journal.now in
    let within = at_some (λ k. k < length c.args.self.now.slots.items) c.next_chip.result c.in-Some.k c.next_chip.ensures.there c.in-Some.is in
    let slot = lent_within c.args.self.now.slots.items c.in-Some.k c.index.result.now within c.index.ensures in
    ap not (sym (answers_held past c.args.self.now c.args.session c.args.place c.requires.turn c.in-Some.k c.in-Some-holder.by c.index.result.now
    (sym c.next_chip.ensures.over ∙ ap is_none c.in-Some.is) c.requires.free (sym c.next_chip.ensures.chip ∙ c.in-Some.is) slot c.in-Some-holder.is).2)

pub returns-in_default-clause-idle : goal.returns-in_default-clause-idle
returns-in_default-clause-idle g c =
    let past = past_of c.args.journal.now in
    ap not (sym (stays_where_done past c.args.self.now c.args.session c.args.place c.requires.turn c.requires.free
    (sym c.next_chip.ensures.over ∙ ap is_none c.in_default.is)).1)
