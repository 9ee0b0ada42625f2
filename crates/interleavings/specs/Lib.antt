pub mod ScriptPrints
pub mod Explorations
pub mod Faults
