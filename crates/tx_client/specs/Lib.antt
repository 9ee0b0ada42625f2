pub mod RequestKinds
pub mod Frames
pub mod Ends
pub mod Tallies
pub mod Clients
pub mod Runners
pub mod Backs
pub mod HeldAt
