use Rattle.std.proofs.Common.{◌≡◌, ◌<◌, ℕ, List, true, Some}
use Rattle.std.specs.Prelude.{slice_get}
use Rattle.nand_model.specs.declared.words.Command.{Command}
use Rattle.command_model.specs.Session.{is_finished}
use Rattle.session_steps.specs.declared.session.Session.{Session}
use Rattle.session_steps.specs.Standing.{standing, commands_by}
use Rattle.ctl_core.proofs.board.Board.all_done.Given as goal

abbrev pub invariant-loop-k : goal.invariant-loop-k
invariant-loop-k g l = (i : ℕ) (b : ℕ × List Command) (s : Session) → i < l.k → slice_get l.boot.sessions i ≡ Some b → slice_get l.self.sessions.items i
    ≡ Some s
    → is_finished (commands_by b.1 (standing l.self.notes.notes s)) ≡ true
