pub mod Listed
pub mod Answers
pub mod Scans
pub mod Workers
pub mod Inner
