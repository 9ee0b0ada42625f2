pub mod Shadow
pub mod Memo
pub mod KeyLocation
