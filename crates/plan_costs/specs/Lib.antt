pub mod Troubles
pub mod Laws
pub mod Room
pub mod Kept
pub mod Costs
