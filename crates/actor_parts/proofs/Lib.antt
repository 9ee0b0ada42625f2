pub mod JudgedLemmas
pub mod ShowsLemmas
pub mod AcceptsLemmas
pub mod BlocksLemmas
pub mod HomesLemmas
pub mod RangeLemmas
mod RequestLemmas
mod StepLemmas
mod GuardedLemmas
pub mod PrivateCopyLemmas
mod CopyByPartsLemmas
mod FirstLemmas
pub mod FootprintLemmas
pub mod CopyInWorldLemmas
pub mod OutcomeLemmas
mod WriteLemmas
pub mod CopyListLemmas
pub mod AlikeLemmas
pub mod LogLemmas
pub mod CallingLemmas
mod ComesLemmas
pub mod LoadInWorldLemmas
pub mod GoingLemmas
mod ShadowAfterActionLemmas
mod ShadowAfterEventLemmas
mod ShadowAfterStepLemmas
mod LeftToReadLemmas
pub mod OwnLemmas
mod EventsLemmas
pub mod CopyAtGateLemmas
mod CopyJudgedLemmas
pub mod AfterGateLemmas
mod BegunLemmas
pub mod ReadLemmas
pub mod PiecesLemmas
mod ForgottenLemmas
mod SizesLemmas
pub mod TakeBackLemmas
mod PutBackLemmas
pub mod RoomLemmas
pub mod WeighedLemmas
pub mod AuditLemmas
pub mod LayoutLemmas
pub mod OpeningLemmas
pub mod ShapeLemmas
pub mod StateLemmas
pub mod TableLemmas
