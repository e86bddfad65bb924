pub mod Steps
pub mod Ranges
pub mod Erasing
pub mod Writing
pub mod Dumping
pub mod Testing
pub mod Work
pub mod Boot
