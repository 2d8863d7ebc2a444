pub mod Laws
pub mod Replies
pub mod Ring
pub mod Views
