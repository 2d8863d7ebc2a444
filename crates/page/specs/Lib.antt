pub mod Line
pub mod Utf8
pub mod Text
pub mod Page
pub mod Plain
