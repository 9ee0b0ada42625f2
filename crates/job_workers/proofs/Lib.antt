pub mod ReportLemmas
pub mod HalfLemmas
