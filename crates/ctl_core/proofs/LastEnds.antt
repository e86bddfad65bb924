-- How the sessions of a course that is over ended follows from its notes.
use Rattle.std.proofs.Common.{◌≡◌, ℕ, List, map, Some, ap, sym, ◌∙◌, arith}
use Rattle.std.specs.Prelude.{slice_get, Contains}
use Rattle.std.proofs.lemmas.Option.{slice_get_within, get_or_from_slice_get, same_Some}
use Rattle.nand_iface.specs.declared.flash.Flash.{Ghosts}
use Rattle.nand_model.specs.declared.words.Command.{Command}
use Rattle.command_model.specs.Session.{SessionRun}
use Rattle.run_model.specs.Course.{session_run}
use Rattle.ctl_core.specs.declared.board.Board.{Board}
use Rattle.ctl_core.specs.Past.{Past, starts_of, sizes_in, course_of}
use Rattle.ctl_core.specs.Ended.{end_of_run, end_by_notes, ends_by_notes}
use Rattle.ctl_core.specs.Board.{IsOnCourse}
use Rattle.ctl_core.proofs.Places.{item_at}
use Rattle.ctl_core.proofs.Sessions.{one_number_each, found}
use Rattle.ctl_core.proofs.OnCourse.{holds}
use Rattle.ctl_core.proofs.Exchanges.{session_is}
use Rattle.ctl_core.proofs.LastStates.{same_mapped}

contains_at : {A : Type 0} (xs : List A) (k : ℕ) (x : A) → slice_get xs k ≡ Some x → Contains xs x
contains_at xs k x at = (k, slice_get_within xs k x at, get_or_from_slice_get xs k x x at)

module _ {F C : Type 0} {flash : Ghosts F} (past : Past F) (board : Board F C flash) (on : IsOnCourse past board) where
  -- the outcomes of the course are those that its notes make of the boot's sessions
  pub last_ends : map end_of_run (course_of flash.fault_model flash.state past).sessions
      ≡ ends_by_notes past.boot (starts_of flash.state past) (course_of flash.fault_model flash.state past).notes
  last_ends = same_mapped end_of_run (end_by_notes past.boot (starts_of flash.state past) (course_of flash.fault_model flash.state past).notes)
      (course_of flash.fault_model flash.state past).sessions past.boot.sessions on.stands.mirrors.runs_many same_end
    where
      same_end : (i : ℕ) (run : SessionRun) (own : ℕ × List Command) → slice_get (course_of flash.fault_model flash.state past).sessions i ≡ Some run
          → slice_get past.boot.sessions i ≡ Some own
          → end_of_run run ≡ end_by_notes past.boot (starts_of flash.state past) (course_of flash.fault_model flash.state past).notes own
      same_end i run own at begun =
          let within = slice_get_within past.boot.sessions i own begun in
          let s = item_at board.sessions.items i (omega (arith, within, on.stands.mirrors.many)) in
          let number = (on.stands.mirrors.each i own s.0 run begun s.1 at).0 in
          let here : session_run (course_of flash.fault_model flash.state past) own.0 ≡ Some run =
          ap (session_run (course_of flash.fault_model flash.state past)) (sym number)
          ∙ found (sizes_in flash.state past) past.boot.sessions board.notes.notes board.sessions.items
          (course_of flash.fault_model flash.state past).sessions on.stands.mirrors on.conditions.ascending i s.0 run s.1 at in
          ap end_of_run (same_Some _ _ (sym here ∙ session_is flash.fault_model past.boot (starts_of flash.state past)
          (one_number_each past.boot.sessions on.conditions.ascending)
          (course_of flash.fault_model flash.state past) (holds past board on) own.0 own.1 (contains_at past.boot.sessions i own begun)))
