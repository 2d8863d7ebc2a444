pub mod Answered
pub mod Written
pub mod Buffer
