mod LeadLemmas
mod PlayLemmas
pub mod ScriptRunLemmas
pub mod LineLemmas
pub mod FileRunLemmas
mod RowLemmas
mod LaneLemmas
