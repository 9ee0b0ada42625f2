pub mod LockWord
