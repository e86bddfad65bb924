pub mod Rests
pub mod Gaps
pub mod Lost
pub mod Steps
pub mod Apart
pub mod Boots
pub mod Sizes
pub mod Grows
