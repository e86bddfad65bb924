-- What a course keeps of a session is what the session's exchanges make of it.
use Rattle.std.proofs.Common.{◌≡◌, inl, inr, ℕ, List, Option, Some, None, refl, ap, sym, ◌∙◌}
use Rattle.std.specs.Prelude.{Contains}
use Rattle.nand_model.specs.declared.words.Command.{Command}
use Rattle.nand_model.specs.declared.words.Op.{Op}
use Rattle.nand_model.specs.Chip.{ChipState, FaultModel}
use Rattle.command_model.specs.Boot.{Boot}
use Rattle.run_model.specs.Course.{Course, session_run, sizes_of}
use Rattle.command_model.specs.Session.{SessionRun, exchanges_of, session_after}
use Rattle.run_model.specs.Run.{HaveOneNumberEach, session_at_start}
use Rattle.run_laws.proofs.Courses.{Holds, SessionsHold}
use Rattle.run_laws.proofs.Sessions.{asked}

module _ {W : Type 0} (model : FaultModel W) (boot : Boot) (starts : List (ChipState W)) (once : HaveOneNumberEach boot.sessions) where
  all_sessions : (course : Course W) → Holds model boot starts course → SessionsHold model boot starts course.chips course.sessions course.notes
  all_sessions course (inl live) = live.sessions
  all_sessions course (inr cut) = cut.sessions

  after_asked : (s : SessionRun) (o : Option Op) → session_after (sizes_of boot starts) s (asked o) ≡ s
  after_asked s None = refl
  after_asked s (Some op) = refl

  -- the session of a course, from the notes
  pub session_is : (course : Course W) → Holds model boot starts course → (number : ℕ) (commands : List Command) → Contains boot.sessions (number, commands)
      → session_run course number ≡ Some (session_after (sizes_of boot starts) (session_at_start boot starts number commands)
      (exchanges_of number course.notes))
  session_is course holds number commands has =
      let law = all_sessions course holds number in
      let follow = law.follow commands once has in
      let made : session_after (sizes_of boot starts) (session_at_start boot starts number commands) (exchanges_of number course.notes) ≡ follow.run
      = ap (session_after (sizes_of boot starts) (session_at_start boot starts number commands)) law.are
      ∙ follow.after (asked law.open_op) ∙ after_asked follow.run law.open_op in
      follow.found ∙ ap Some (sym made)
