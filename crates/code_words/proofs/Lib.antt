mod UnitLemmas
mod ReadLemmas
