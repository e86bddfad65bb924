pub mod AddedUp
pub mod Summary
