pub mod LockWordLemmas
