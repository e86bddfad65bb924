pub mod Moves
pub mod Device
pub mod Registers
pub mod State
pub mod Phrases
pub mod Chips
pub mod Lab
pub mod Runs
