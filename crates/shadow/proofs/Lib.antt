mod MemoLemmas
mod LengthLemmas
pub mod CopyLemmas
