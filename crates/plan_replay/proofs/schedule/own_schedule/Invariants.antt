use Rattle.std.proofs.Common.{◌≡◌, ◌<◌, ◌++◌, length}
use Rattle.std.specs.Prelude.{All, filter}
use Rattle.std.specs.VecDeque.Iter.{deque_iter_rest}
use Rattle.plan_grammar.specs.Meaning.{plan_of}
use Rattle.plan_laws.specs.Ready.{boot_at}
use Rattle.headline_model.specs.Headline.{is_own}
use Rattle.headline_laws.specs.Replays.{own_schedule}
use Rattle.plan_replay.proofs.schedule.own_schedule.Given as goal

-- the own turns so far and those that are left make the whole
abbrev pub invariant-loop-session : goal.invariant-loop-session
invariant-loop-session l = record {
  whole : l.own ++ filter (is_own (boot_at (plan_of l.plan) l.boot) l.controller) (deque_iter_rest l.session-iterator)
      ≡ own_schedule (boot_at (plan_of l.plan) l.boot) l.controller;
  there : All (λ s. s < length (boot_at (plan_of l.plan) l.boot).sessions) (deque_iter_rest l.session-iterator);
}
