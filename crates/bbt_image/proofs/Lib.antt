pub mod Bytes
pub mod StateBytes
pub mod Pages
pub mod KindLemmas
pub mod StepLemmas
pub mod Parts
pub mod Alone
