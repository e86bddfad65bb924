-- How many operations commands take at most.
use Rattle.std.specs.Prelude.{ℕ, ◌-◌, ◌/◌, List, sum_by}
use Rattle.command_model.specs.Command.{block_size, cost_of}
use Rattle.nand_model.specs.declared.geometry.Geometry.{Geometry}
use Rattle.nand_model.specs.declared.words.Command.{Command}
use Rattle.nand_model.specs.declared.words.Command.TheVariants.{NandWrite}

-- the blocks that may give a command trouble: those of a nandwrite from the block of its offset to
-- the end of the device
abbrev pub troubled_blocks : Geometry → Command → ℕ
troubled_blocks g (NandWrite dev blocks mark raw oob pad off bytes) = blocks - off / block_size g
troubled_blocks g _ = 0

-- the most operations of a command on a chip of these sizes, whatever the replies are: each such
-- block may be in trouble once
abbrev pub command_cost : (Command → Geometry) → Command → ℕ
command_cost sizes command = cost_of (sizes command) command (troubled_blocks (sizes command) command)

-- the most operations of these commands
abbrev pub commands_cost : (Command → Geometry) → List Command → ℕ
commands_cost sizes commands = sum_by (command_cost sizes) commands

-- the most operations of these sessions
abbrev pub sessions_cost : (Command → Geometry) → List (ℕ × List Command) → ℕ
sessions_cost sizes sessions = sum_by (λ (s : ℕ × List Command). commands_cost sizes s.1) sessions
