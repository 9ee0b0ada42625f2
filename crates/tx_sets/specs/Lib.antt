pub mod Entries
pub mod AccessSet
