pub mod Reading
pub mod OnLiterals
pub mod Rows
pub mod OneReading
