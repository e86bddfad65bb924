use Rattle.std.proofs.Common.{List, map}
use Rattle.std.specs.VecDeque.Iter.{deque_iter_rest}
use Rattle.std.specs.Prelude.{All}
use Rattle.plan_grammar.specs.declared.lines.SessionLines.{SessionLines}
use Rattle.plan_grammar.specs.Meaning.{command_of}
use Rattle.plan_text.specs.Plan.{HasSmallDevice}
use Rattle.plan_text.proofs.Mapped.{mapped_on, all_first, all_later}
use Rattle.plan_text.proofs.commands.session_commands.Goals as goal

abbrev AreSmall : SessionLines → Type 0
AreSmall session = All HasSmallDevice session.commands

pub commands_of-requires : goal.commands_of-requires
commands_of-requires c =
    all_first AreSmall _ (deque_iter_rest c.next.new.self) c.in-Some.session.now c.loop-session.invariant.small c.in-Some.ensures.steps

pub loop-session-preserved : goal.loop-session-preserved
loop-session-preserved c = record {
  whole = mapped_on (λ (session : SessionLines). map (command_of c.args.draft.now) session.commands) c.loop-session.commands c.append.new.self _
      (deque_iter_rest c.next.new.self) c.in-Some.session.now c.in_ok-commands_of.field-0 _ c.loop-session.invariant.whole
      c.in-Some.ensures.steps c.in_ok-commands_of.ensures c.in_ok-append.ensures.ok;
  small = all_later AreSmall _ (deque_iter_rest c.next.new.self) c.in-Some.session.now c.loop-session.invariant.small c.in-Some.ensures.steps;
}
