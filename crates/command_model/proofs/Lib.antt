pub mod Devices
pub mod Troubles
