pub mod Trees
pub mod Reports
