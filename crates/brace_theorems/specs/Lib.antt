pub mod Braces
pub mod Closing
pub mod Examples
