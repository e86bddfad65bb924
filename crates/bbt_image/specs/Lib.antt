pub mod FirstStep
pub mod Taking
