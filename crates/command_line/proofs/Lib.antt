mod LineLemmas
mod RunLemmas
mod FormLemmas
pub mod NumberLemmas
mod ReadLemmas
mod OutputLemmas
mod WordLemmas
