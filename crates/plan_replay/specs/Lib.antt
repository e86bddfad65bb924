pub mod Ends
pub mod Boots
pub mod Buses
