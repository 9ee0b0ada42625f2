pub mod Gates
pub mod MadeCall
pub mod HandleCalls
pub mod Lanes
pub mod Read
