pub mod Steps
pub mod Erased
pub mod Written
