pub mod Status
pub mod Words
pub mod Arguments
pub mod Positionals
pub mod Refusal
pub mod Answer
