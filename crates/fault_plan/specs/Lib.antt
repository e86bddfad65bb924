pub mod BootFaults
pub mod ByEvent
pub mod Due
pub mod WeakPlaces
