pub mod CloseLemmas
pub mod StoreLemmas
pub mod SplitLemmas
pub mod SessionLemmas
pub mod LenderLemmas
pub mod SentLemmas
