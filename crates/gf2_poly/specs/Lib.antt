pub mod Degree
pub mod Division
pub mod Minimal
