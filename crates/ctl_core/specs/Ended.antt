-- What a controller that is over leaves.
use Rattle.std.specs.Prelude.{not, ℕ, List, [], ◌∷◌, map, sum_by, Option, Some, None, slice_get}
use Rattle.command_model.specs.Session.{SessionRun, exchanges_of, is_finished, session_after}
use Rattle.session_steps.specs.Ended.{EndOfSession}
use Rattle.session_steps.specs.Standing.{Standing, commands_by, end_of, standing}
use Rattle.session_steps.specs.declared.session.Session.{Session}
use Rattle.nand_model.specs.Chip.{ChipState}
use Rattle.command_model.specs.Boot.{Boot}
use Rattle.run_model.specs.Course.{sizes_of, Course}
use Rattle.run_model.specs.Run.{session_at_start}
use Rattle.nand_model.specs.Partitions.{Partitions, chip_of}
use Rattle.chip_paths.specs.ChipRun.{ChipRun, bad_blocks, bad_blocks_in}
use Rattle.ctl_core.specs.SlotState.{SlotState}
use Rattle.chip_paths.specs.Stage.{stage_statistics, stage_table}
use Rattle.run_model.specs.Statistics.{no_statistics}
use Rattle.nand_model.specs.declared.words.Command.{Command}
use Rattle.nand_model.specs.declared.words.Note.{Note}
use Rattle.nand_model.specs.declared.words.Stats.{Stats}

-- how a session of a course ended: cut short where a command of it is left
abbrev pub end_of_run : SessionRun → EndOfSession
end_of_run run =
    record { session = run.number; cut = not (is_finished run.commands); outcomes = run.outcomes }

-- how a session with these commands ended, by the notes of its controller
abbrev pub end_by_notes : {W : Type 0} → Boot → List (ChipState W) → List Note → ℕ × List Command → EndOfSession
end_by_notes boot starts notes own = end_of_run
    (session_after (sizes_of boot starts) (session_at_start boot starts own.0 own.1) (exchanges_of own.0 notes))

-- how each session of a boot ended, by the notes of its controller
abbrev pub ends_by_notes : {W : Type 0} → Boot → List (ChipState W) → List Note → List EndOfSession
ends_by_notes boot starts notes = map (end_by_notes boot starts notes) boot.sessions

-- how a session with these commands that stands so ended: cut short where one of them is left
abbrev pub end_beside : List Command → Standing → EndOfSession
end_beside commands st = end_of commands (not (is_finished (commands_by commands st))) st

-- how sessions that stand so ended, each beside the commands of the boot's session at its place
abbrev pub ends_beside : List (ℕ × List Command) → List Note → List Session → List EndOfSession
ends_beside [] notes sessions = []
ends_beside (own ∷ begun) notes [] = []
ends_beside (own ∷ begun) notes (s ∷ sessions) =
    end_beside own.1 (standing notes s) ∷ ends_beside begun notes sessions

-- the bad blocks of all chips of a course
abbrev pub all_bad_blocks : {W : Type 0} → Partitions → Course W → ℕ
all_bad_blocks {W} partitions course = sum_by (λ (c : ChipRun W). bad_blocks partitions c) course.chips

-- the state of a chip in a slot
abbrev pub slot_flash : {W : Type 0} → SlotState W → ChipState W
slot_flash c = c.state

-- the same of chips in slots
abbrev pub slot_statistics_on : {W : Type 0} → Option (SlotState W) → ℕ → Stats
slot_statistics_on None dev = no_statistics
slot_statistics_on (Some c) dev = stage_statistics c.stage dev

-- what a device counted, on the chip of this number
abbrev pub slot_statistics_at : {W : Type 0} → List (SlotState W) → Option ℕ → ℕ → Stats
slot_statistics_at chips None dev = no_statistics
slot_statistics_at chips (Some k) dev = slot_statistics_on (slice_get chips k) dev

-- what each of these devices counted
abbrev pub slot_statistics : {W : Type 0} → Partitions → List (SlotState W) → List ℕ → List (ℕ × Stats)
slot_statistics partitions chips devices =
    map (λ dev. (dev, slot_statistics_at chips (chip_of partitions dev) dev)) devices

-- how many blocks of a chip in a slot are bad
abbrev pub slot_bad_blocks : {W : Type 0} → SlotState W → ℕ
slot_bad_blocks c = bad_blocks_in (stage_table c.stage)
