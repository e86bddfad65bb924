pub mod Script
pub mod Answer
pub mod Reading
