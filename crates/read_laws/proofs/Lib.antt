pub mod Bits
pub mod Runs
pub mod Words
pub mod Pasts
pub mod Filled
pub mod Replies
pub mod Lives
pub mod Writes
