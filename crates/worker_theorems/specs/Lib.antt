pub mod Calls
pub mod Closing
pub mod Demand3
pub mod Isolation
pub mod Ranges
pub mod Room
