pub mod Ended
pub mod Standing
pub mod Mirrors
