pub mod RegisterLemmas
pub mod WordLemmas
