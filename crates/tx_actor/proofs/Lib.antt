mod DispatchLemmas
mod RunsLemmas
mod AnswerLemmas
mod CopyListLemmas
mod PreparesLemmas
mod CopyAtGateLemmas
mod CallsLemmas
mod StraightLemmas
mod OwnAsksLemmas
mod ShadowAfterRequestLemmas
mod ActorBoundsLemmas
mod AskLemmas
mod LoadLemmas
mod LoadInWorldLemmas
mod SeatByStageLemmas
pub mod CopiesByStageLemmas
mod RoomLemmas
mod LoadBoundsLemmas
pub mod StageLemmas
mod ReadingLemmas
mod CallStageLemmas
pub mod OwnLoadLemmas
pub mod OwnCopyLemmas
mod AfterGateLemmas
pub mod SeatLemmas
pub mod StepLemmas
pub mod OwnLemmas
pub mod LoadStepLemmas
pub mod CopyLemmas
pub mod HomeLemmas
pub mod NameLemmas
pub mod GatesLemmas
