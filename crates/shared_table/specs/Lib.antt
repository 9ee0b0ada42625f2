pub mod Layout
pub mod Turns
pub mod Shown
pub mod TurnVectors
pub mod Opening
pub mod Seated
pub mod Ends
