pub mod Puts
pub mod Digits
pub mod Decimals
pub mod Each
pub mod Telling
