pub mod Choices
pub mod Pairs
pub mod Same
