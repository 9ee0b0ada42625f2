pub mod Drawn
pub mod Lines
pub mod Runs
pub mod Unread
pub mod Numbers
pub mod Bench
pub mod Words
pub mod Ends
