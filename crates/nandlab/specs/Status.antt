-- Exit statuses.
use Rattle.std.specs.Prelude.{ℕ}
use Rattle.nandlab.specs.declared.status.Status.{Status}
use Rattle.nandlab.specs.declared.status.Status.TheVariants.{Fine, Usage, PlanRefused, ReadFault, WriteFault, Memory}

-- the exit status of the process
abbrev pub exit_code : Status → ℕ
exit_code Fine = 0
exit_code Usage = 2
exit_code PlanRefused = 3
exit_code ReadFault = 4
exit_code WriteFault = 5
exit_code Memory = 6
