pub mod EntryLemmas
mod LinkLemmas
pub mod PositionLemmas
