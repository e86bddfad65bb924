pub mod CoefficientLemmas
pub mod DegreeLemmas
pub mod DivisionLemmas
pub mod TableLemmas
