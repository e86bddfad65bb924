-- Command by command.
use Rattle.command_model.proofs.Devices.{own_device}
use Rattle.command_model.proofs.laws.commands_ask_one_device.Goals as goal

pub returns : goal.returns
returns c = λ geometry command. own_device geometry command
