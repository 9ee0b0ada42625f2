mod DealLemmas
mod AuditLemmas
pub mod ListLemmas
pub mod ServedLemmas
pub mod RunLemmas
