pub mod Scans
pub mod Workers
pub mod Face
