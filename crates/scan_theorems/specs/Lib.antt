pub mod Counting
pub mod Lines
pub mod Room
pub mod Rows
pub mod Statement
