pub mod Blanks
pub mod FlipLog
pub mod Slots
pub mod Store
pub mod State
pub mod Weakness
pub mod FaultCode
