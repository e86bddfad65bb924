-- How a controller's sessions ended and what its devices counted, by its notes, and the lines of
-- both.
use Rattle.std.specs.Prelude.{ℕ, Bool, true, false, List, [], ◌++◌, length, map, flat_map, sum_by, codes, decimal}
use Rattle.nand_model.specs.Sizes.{numbers_from}
use Rattle.nand_model.specs.declared.words.Command.{Command}
use Rattle.nand_model.specs.declared.words.Note.{Note}
use Rattle.nand_model.specs.declared.words.PageRead.{PageRead}
use Rattle.nand_model.specs.declared.words.Stats.{Stats}
use Rattle.command_model.specs.Reads.{corrected_of, failed_of, reads_of}
use Rattle.command_model.specs.Session.{exchanges_of, session_after, without_finished}
use Rattle.run_model.specs.Statistics.{device_numbers}
use Rattle.plan_model.specs.Plan.{BootPlan, PlanData, devices_of, sessions_from}
use Rattle.report_model.specs.Report.{chips_at, device_name, geometry_in, line, note_text, outcome_lines}
use Rattle.session_steps.specs.Ended.{EndOfSession}
use Rattle.ctl_core.specs.Ended.{end_of_run}

-- where a session is cut short, how many of its commands are finished
abbrev pub cut_text : Bool → ℕ → List ℕ
cut_text true finished = line (codes "cut after " ++ decimal finished)
cut_text false finished = []

-- the lines of a session with these commands that ended so
abbrev pub ended_text : ℕ → List Command → EndOfSession → List ℕ
ended_text session commands ended =
    line (codes "session " ++ decimal session) ++ outcome_lines commands ended.outcomes
    ++ cut_text ended.cut (length ended.outcomes)

-- the line of a device with its statistics
abbrev pub device_text : ℕ × Stats → List ℕ
device_text (dev, stats) =
    line (codes "device " ++ device_name dev ++ codes " corrected " ++ decimal stats.corrected ++ codes " failed "
    ++ decimal stats.failed)

-- how a session of a controller with these commands ended, by the notes of the controller
abbrev pub end_in : PlanData → ℕ → List Note → ℕ × List Command → EndOfSession
end_in plan c notes own =
    end_of_run (session_after (geometry_in plan c) (without_finished (geometry_in plan c) own.0 own.1 [] [])
    (exchanges_of own.0 notes))

-- how the sessions of a controller in a boot ended
abbrev pub ends_in : PlanData → ℕ → BootPlan → List Note → List EndOfSession
ends_in plan c boot notes = map (end_in plan c notes) (sessions_from c 0 boot.sessions)

-- what these reads add up to
abbrev pub sums_of : List PageRead → Stats
sums_of reads = record { corrected = sum_by corrected_of reads; failed = sum_by failed_of reads }

-- what the devices of a controller counted in a boot
abbrev pub sums_in : PlanData → ℕ → BootPlan → List Note → List (ℕ × Stats)
sums_in plan c boot notes =
    map (λ dev. (dev, sums_of (reads_of dev (numbers_from 0 (length boot.sessions)) notes)))
    (device_numbers (devices_of plan c (chips_at plan c)))

-- the lines of a controller with these notes
abbrev pub notes_text : ℕ → List Note → List ℕ
notes_text c notes = line (codes "controller " ++ decimal c) ++ flat_map (note_text c) notes
