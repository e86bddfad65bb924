pub mod Outside
pub mod MemSource
pub mod MemSink
