pub mod OneAfterAnother
pub mod FirstLine
pub mod Lines
pub mod Answers
