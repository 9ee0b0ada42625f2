pub mod FitLemmas
pub mod ShownLemmas
