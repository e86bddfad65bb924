pub mod Parts
pub mod Growing
pub mod Spans
pub mod Counts
