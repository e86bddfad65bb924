-- The script that is left of a command, from where it stands.
use Rattle.nand_model.specs.declared.geometry.Geometry.{Geometry}
use Rattle.nand_model.specs.declared.words.Op.TheVariants.{IsBad, Mark, Stats}
use Rattle.nand_model.specs.declared.words.Outcome.TheVariants.{MarkBad as MarkedBad, IsBad as AskedBad}
use Rattle.command_model.specs.Command.{Script, End, Ask, stats_outcome}
use Rattle.tool_steps.specs.Steps.{state_left}
use Rattle.tool_steps.specs.Erasing.{erasing_left}
use Rattle.tool_steps.specs.Writing.{writing_left}
use Rattle.tool_steps.specs.Dumping.{dumping_left}
use Rattle.tool_steps.specs.Testing.{testing_left}
use Rattle.tool_steps.specs.declared.tool.Tool.{Tool}
use Rattle.tool_steps.specs.declared.work.Work.{Work}
use Rattle.tool_steps.specs.declared.work.Work.TheVariants.{Erasing, Writing, Dumping, Testing, Marking, Asking, Counting}

-- what is left of a command that waits for a reply
abbrev pub work_left : Geometry → Work → Script
work_left g (Erasing e) = erasing_left e
work_left g (Writing w) = writing_left g w
work_left g (Dumping d) = dumping_left g d
work_left g (Testing t) = testing_left g t
work_left g (Marking dev block) = Ask (Mark dev block) (λ r. End (MarkedBad r))
work_left g (Asking dev block) = Ask (IsBad dev block) (λ r. End (AskedBad r))
work_left g (Counting dev) = Ask (Stats dev) (λ r. End (stats_outcome r))

-- the script that a tool still follows
abbrev pub left_of : Tool → Script
left_of tool = state_left (work_left tool.geometry) tool.state
