mod Decoding
mod Operations
mod Steps
mod ReadCounts
pub mod Courses
pub mod Follows
