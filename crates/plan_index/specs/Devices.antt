-- What commands need of a device.
use Rattle.plan_grammar.specs.Devices.{Device, weak_programs}
use Rattle.plan_index.specs.declared.device.DeviceSize.{DeviceSize}

-- what commands need of a device
abbrev pub size_of : Device → DeviceSize
size_of device = record {
  controller = device.controller;
  geometry = device.chip.geometry;
  blocks = device.part.count;
  weak = weak_programs device.chip;
}
