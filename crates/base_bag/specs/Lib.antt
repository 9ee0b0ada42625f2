pub mod Conflicts
pub mod FrameLemmas
