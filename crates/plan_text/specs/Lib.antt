pub mod Reading
pub mod Plan
pub mod Boot
pub mod Counts
