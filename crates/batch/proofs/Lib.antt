pub mod Rooms
pub mod Answered
pub mod Lists
