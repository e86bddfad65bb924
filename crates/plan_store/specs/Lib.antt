pub mod Hardware
pub mod FlipCount
pub mod Flips
pub mod SessionCount
pub mod CommandRules
pub mod InStep
