pub mod Events
pub mod Copies
pub mod Update
pub mod Spares
pub mod Held
pub mod Markers
pub mod Step
pub mod Attach
