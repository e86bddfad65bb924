use Rattle.std.proofs.Common.{◌≡◌, ◌++◌, map}
use Rattle.std.specs.VecDeque.Iter.{deque_iter_rest}
use Rattle.std.specs.Prelude.{All}
use Rattle.plan_text.specs.Plan.{HaveSmallDevices, all_commands, session_commands}
use Rattle.plan_text.proofs.commands.all_commands.Given as goal

-- the commands so far and what is left make the whole
abbrev pub invariant-loop-boot : goal.invariant-loop-boot
invariant-loop-boot l = record {
  whole : l.commands ++ map (session_commands l.draft) (deque_iter_rest l.boot-iterator) ≡ all_commands l.draft;
  small : All HaveSmallDevices (deque_iter_rest l.boot-iterator);
}
