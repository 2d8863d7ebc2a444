pub mod Event
pub mod Words
pub mod Share
pub mod Span
pub mod Room
pub mod Marks
