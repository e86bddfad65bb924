pub mod History
pub mod Totals
pub mod Turns
pub mod Plays
pub mod Seats
pub mod Passes
