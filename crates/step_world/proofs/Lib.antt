pub mod FeedLemmas
pub mod HomeLemmas
pub mod OpeningLemmas
pub mod PartsLemmas
pub mod PrepareLemmas
mod RoomLemmas
mod HomeInWorldLemmas
mod GateLemmas
pub mod TraceLemmas
pub mod TurnLemmas
pub mod LoadLemmas
pub mod WorldLemmas
mod OwnTurnLemmas
mod CopyTurnLemmas
pub mod ReachedLemmas
pub mod PromiseLemmas
pub mod SerialLemmas
