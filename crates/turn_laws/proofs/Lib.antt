pub mod Sums
pub mod Paths
pub mod Costs
pub mod Turns
pub mod Bounds
pub mod Attaches
