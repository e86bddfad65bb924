use Rattle.std.proofs.Common.{◌≡◌, length, sym, ◌∙◌}
use Rattle.command_model.specs.Runnable.{Fits}
use Rattle.session_steps.proofs.Mirrors.{no_op, next_asking, next_there, next_mirrors, next_op_if}
use Rattle.session_steps.proofs.Steps.{shows_op}
use Rattle.session_steps.specs.Standing.{standing}
use Rattle.session_steps.proofs.session.Session.next_op.Goals as goal
use Rattle.session_steps.proofs.session.Session.next_op.Goals.{After-get}

-- the place of the next command is the number of outcomes
at_place : (c : After-get) → c.len-place.result ≡ length c.put_outcomes_down.new.self.outcomes.items
at_place c = c.len-place.ensures ∙ c.put_outcomes_down.new.self.outcomes.ok.0

pub begin-requires-clause-fits : goal.begin-requires-clause-fits
begin-requires-clause-fits c = next_there c.args.commands.now (Fits c.args.g.now) _ _ _ c.len-place.result c.get.result.now c.in_ok-op.ensures.stands
    c.in_ok-put_outcomes_down.ensures.put_down
    (at_place c) c.requires c.get.ensures

pub begin-requires-clause-asks : goal.begin-requires-clause-asks
begin-requires-clause-asks c = next_asking c.args.commands.now (Fits c.args.g.now) _ _ _ c.len-place.result c.get.result.now c.in_ok-op.ensures.stands
    c.in_ok-put_outcomes_down.ensures.put_down (at_place c)
    (no_op c.in_ok-op.field-0 _ c.in_ok-op.ensures.op c.in_default.not-Some) c.requires c.get.ensures

pub returns-clause-op : goal.returns-clause-op
returns-clause-op c = next_op_if c.begin.result c.args.commands.now c.args.notes.now.notes c.args.self.now _ _ c.args.g.now c.len-place.result c.get.result.now
    c.in_ok-op.ensures.stands c.in_ok-put_outcomes_down.ensures.put_down (at_place c.before)
    (no_op c.in_ok-op.field-0 _ c.in_ok-op.ensures.op c.in_default.not-Some) (begin-requires-clause-fits c.before) c.get.ensures c.begin.ensures.op

pub returns-clause-mirrors : goal.returns-clause-mirrors
returns-clause-mirrors c sizes run mirrors sized = next_mirrors sizes c.args.commands.now c.begin.result c.args.notes.now.notes c.args.self.now
    c.put_outcomes_down.new.self c.begin.new.self run c.args.g.now
    c.len-place.result c.get.result.now _ mirrors c.in_ok-op.ensures.stands c.in_ok-put_outcomes_down.ensures.put_down (at_place c.before)
    (no_op c.in_ok-op.field-0 _ c.in_ok-op.ensures.op c.in_default.not-Some) sized
    (begin-requires-clause-fits c.before) c.get.ensures c.begin.ensures.begun c.begin.ensures.no_memory
    (c.begin.ensures.last ∙ c.put_outcomes_down.ensures.last ∙ c.in_ok-op.ensures.taken)

pub returns-in-Some-clause-op : goal.returns-in-Some-clause-op
returns-in-Some-clause-op c sizes run mirrors sized = shows_op sizes c.args.commands.now (standing c.args.notes.now.notes c.args.self.now) run c.in-Some.op
    mirrors.shows (sym c.in_ok-op.ensures.op ∙ c.in-Some.is)
