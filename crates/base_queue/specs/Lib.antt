pub mod Conflicts
pub mod FrameLemmas
pub mod SharedList
