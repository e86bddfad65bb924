pub mod Places
pub mod Chip
pub mod Boots
pub mod Devices
pub mod Data
