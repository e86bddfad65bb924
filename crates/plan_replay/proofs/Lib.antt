mod Own
mod Starts
mod Ended
mod Lines
mod Places
mod Buses
pub mod Through
pub mod Replays
