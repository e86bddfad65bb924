-- When a controller can be started, and which sessions it has.
use Rattle.std.specs.Prelude.{ℕ, List, All, length, ◌≤◌, ◌≡◌, Some}
use Rattle.nand_model.specs.Chip.{ChipState}
use Rattle.nand_model.specs.declared.words.Command.{Command}
use Rattle.command_model.specs.Boot.{Boot, AreAscending}
use Rattle.run_model.specs.Start.{AreFewFlips, CanRunBoot, IsOfDevice, IsOnChip, IsOnFlash, boot_cost}
use Rattle.tool_steps.specs.Boot.{session_number}

-- a controller of chips in these states can be started on its part of a boot
pub record CanStart {W : Type 0} (boot : Boot) (starts : List (ChipState W)) : Type 0 where
  pub few : length starts ≤ 8
  pub parts : All (IsOnChip starts) boot.partitions.parts
  pub flips : All (IsOnFlash starts) boot.flips
  pub few_flips : AreFewFlips boot.flips
  pub devices : All (λ (s : ℕ × List Command). All (IsOfDevice boot.partitions) s.1) boot.sessions
  pub runnable : CanRunBoot boot starts
  pub ascending : AreAscending boot.sessions
  pub cheap : boot_cost boot starts ≤ 16777216

-- a session of a boot
abbrev pub HasSession : Boot → ℕ → Type 0
HasSession boot session = (k : ℕ) × (session_number boot k ≡ Some session)
