pub mod Turns
pub mod Replay
