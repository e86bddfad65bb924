pub mod Replays
pub mod Bodies
pub mod TableBlocks
