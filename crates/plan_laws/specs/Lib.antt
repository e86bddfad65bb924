pub mod Ready
pub mod Within
