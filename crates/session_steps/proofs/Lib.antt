pub mod Idle
pub mod Scripts
pub mod Steps
pub mod Sets
pub mod Mirrors
pub mod TakenOps
