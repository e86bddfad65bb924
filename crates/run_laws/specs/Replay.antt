-- A boot that is replayed: the turns of a schedule, and then round after round of all sessions.
use Rattle.std.specs.Prelude.{◌≡◌, ℕ, true, List, ◌++◌, map, replicate}
use Rattle.std.specs.List.{concat}
use Rattle.nand_model.specs.Chip.{ChipState, FaultModel}
use Rattle.nand_model.specs.declared.words.Command.{Command}
use Rattle.command_model.specs.Boot.{Boot}
use Rattle.run_model.specs.Course.{Course, course_after, is_over}

-- the numbers of a boot's sessions, in order
abbrev pub session_numbers : Boot → List ℕ
session_numbers boot = map (λ (s : ℕ × List Command). s.0) boot.sessions

-- the turns of a schedule, and then so many rounds of these sessions
abbrev pub rounds_after : List ℕ → List ℕ → ℕ → List ℕ
rounds_after schedule numbers rounds = schedule ++ concat (replicate rounds numbers)

-- the course is that of some attach steps, the turns of the schedule and some rounds of all
-- sessions, and is over
pub record IsReplayed {W : Type 0} (model : FaultModel W) (boot : Boot) (starts : List (ChipState W))
    (schedule : List ℕ) (course : Course W) : Type 0 where
  pub attaches : ℕ
  pub rounds : ℕ
  pub steps : course ≡ course_after model boot starts attaches (rounds_after schedule (session_numbers boot) rounds)
  pub over : is_over course ≡ true
