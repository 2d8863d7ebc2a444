pub mod Decision
pub mod Moved
pub mod Ranges
pub mod Registers
