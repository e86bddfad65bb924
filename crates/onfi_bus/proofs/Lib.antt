pub mod Sizes
pub mod Taking
pub mod Going
pub mod Refusing
pub mod Sending
pub mod Runs
