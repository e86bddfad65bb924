use Rattle.std.proofs.Common.{not, ap, sym, ◌∙◌}
use Rattle.ctl_core.specs.Board.{past_of}
use Rattle.ctl_core.proofs.Limits.{place_there, at_turn, held_in_slots}
use Rattle.ctl_core.proofs.OnCourse.{answers_did_pending, busy_pending, held_not_done}
use Rattle.ctl_core.proofs.board.Board.step.Goals as goal

pub unreachable-requires : goal.unreachable-requires
unreachable-requires g c = place_there (past_of c.args.journal.now) c.args.self.now c.requires.on_course c.args.session c.requires.own
    (sym c.place_of.ensures ∙ c.in_default.is)

pub go_on-requires-clause-turn : goal.go_on-requires-clause-turn
go_on-requires-clause-turn g c = (at_turn (past_of c.args.journal.now) c.args.self.now c.requires.on_course c.requires.lit c.args.session c.in-Some.place c.requires.attached
    (sym c.place_of.ensures ∙ c.in-Some.is)).1

pub go_on-requires-clause-held : goal.go_on-requires-clause-held
go_on-requires-clause-held g c = sym (held_in_slots c.args.self.now c.args.session) ∙ sym c.held_by.ensures ∙ c.in-Some-held_by.is

pub begin-requires-clause-turn : goal.begin-requires-clause-turn
begin-requires-clause-turn g c = (at_turn (past_of c.args.journal.now) c.args.self.now c.requires.on_course c.requires.lit c.args.session c.in-Some.place c.requires.attached
    (sym c.place_of.ensures ∙ c.in-Some.is)).1

pub begin-requires-clause-free : goal.begin-requires-clause-free
begin-requires-clause-free g c = sym (held_in_slots c.args.self.now c.args.session) ∙ sym c.held_by.ensures ∙ c.in-None.is

pub returns-in_ok-go_on-in-Some-held_by-clause-answer : goal.returns-in_ok-go_on-in-Some-held_by-clause-answer
returns-in_ok-go_on-in-Some-held_by-clause-answer g c =
    let past = past_of c.args.journal.now in
    let turn = (at_turn past c.args.self.now c.requires.on_course c.requires.lit c.args.session c.in-Some.place c.requires.attached
    (sym c.place_of.ensures ∙ c.in-Some.is)).1 in
    let held = sym (held_in_slots c.args.self.now c.args.session) ∙ sym c.held_by.ensures ∙ c.in-Some-held_by.is in
    answers_did_pending past c.args.self.now c.args.session c.in-Some.place turn c.in-Some-held_by.k
    (held_not_done past c.args.self.now c.requires.on_course c.requires.lit c.args.session c.in-Some-held_by.k held) held

pub returns-in_ok-go_on-in-Some-held_by-clause-idle : goal.returns-in_ok-go_on-in-Some-held_by-clause-idle
returns-in_ok-go_on-in-Some-held_by-clause-idle g c =
    let past = past_of c.args.journal.now in
    let turn = (at_turn past c.args.self.now c.requires.on_course c.requires.lit c.args.session c.in-Some.place c.requires.attached
    (sym c.place_of.ensures ∙ c.in-Some.is)).1 in
    let held = sym (held_in_slots c.args.self.now c.args.session) ∙ sym c.held_by.ensures ∙ c.in-Some-held_by.is in
    ap not (sym (busy_pending past c.args.self.now c.args.session c.in-Some.place turn c.in-Some-held_by.k held))
