pub mod Faults
pub mod Findings
pub mod SessionPrints
pub mod Texts
pub mod Scripts
pub mod TracePrints
pub mod Worlds
pub mod Plays
pub mod Audits
pub use Rattle.text_formats.specs.ScriptLines
pub use Rattle.text_formats.specs.Scripts as ScriptTexts
pub use Rattle.text_formats.specs.SessionLines
pub use Rattle.text_formats.specs.SessionPrints as PrintedSessions
pub use Rattle.text_formats.specs.Sessions as SessionTexts
pub use Rattle.text_formats.specs.Openings as DrawnOpenings
pub use Rattle.text_formats.specs.DrawnActions as DrawnSessions
pub mod Receipts
pub mod Outputs
pub mod Runs
pub mod RequestPrints
pub mod Rows
pub mod Cells
pub mod Lanes
pub mod LaneOutputs
