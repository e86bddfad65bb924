pub mod Writing
pub mod Copies
pub mod Attach
pub mod Operation
pub mod ChipRun
pub mod Stage
