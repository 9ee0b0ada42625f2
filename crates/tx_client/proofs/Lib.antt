pub mod RequestKindLemmas
pub mod FrameLemmas
pub mod EndLemmas
pub mod TallyLemmas
pub mod ClientLemmas
