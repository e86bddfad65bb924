pub mod ByEvent
pub mod Due
