pub mod GateLemmas
pub mod SumLemmas
pub mod LaneLemmas
pub mod ReadLemmas
pub mod LayoutLemmas
