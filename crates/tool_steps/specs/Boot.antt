-- A controller's part of a boot, as it is put together.
use Rattle.std.specs.Prelude.{ℕ, ◌-◌, List, [], ◌∷◌, ◌++◌, length, slice_get, Option, option_map, option_and_then}
use Rattle.nand_model.specs.Partitions.{Partitions}
use Rattle.nand_model.specs.declared.words.Command.{Command}
use Rattle.fault_plan.specs.BootFaults.{BootFaults}
use Rattle.command_model.specs.Boot.{Boot, change_at}

-- a boot of these partitions, faults and sessions
abbrev pub boot_with : Partitions → BootFaults → List (ℕ × List Command) → Boot
boot_with partitions faults sessions =
    record { partitions = partitions; sessions = sessions; flips = faults.flips; cut = faults.cut }

-- the faults of a boot
abbrev pub faults_of : Boot → BootFaults
faults_of boot = record { flips = boot.flips; cut = boot.cut }

-- the boot with one more session, which has no command
abbrev pub with_session : Boot → ℕ → Boot
with_session boot session = record boot { sessions = boot.sessions ++ (session, []) ∷ [] }

-- a session with one more command
abbrev pub with_one_more : Command → ℕ × List Command → ℕ × List Command
with_one_more command session = (session.0, session.1 ++ command ∷ [])

-- the boot with one more command in its last session
abbrev pub with_command : Boot → Command → Boot
with_command boot command =
    record boot { sessions = change_at boot.sessions (length boot.sessions - 1) (with_one_more command) }

-- the number of the k-th session
abbrev pub session_number : Boot → ℕ → Option ℕ
session_number boot k = option_map (λ (session : ℕ × List Command). session.0) (slice_get boot.sessions k)

-- the commands of the k-th session
abbrev pub commands_at : Boot → ℕ → Option (List Command)
commands_at boot k = option_map (λ (session : ℕ × List Command). session.1) (slice_get boot.sessions k)

-- the n-th command of the k-th session
abbrev pub command_at : Boot → (k n : ℕ) → Option Command
command_at boot k n =
    option_and_then (λ (session : ℕ × List Command). slice_get session.1 n) (slice_get boot.sessions k)
