pub mod Inner
pub mod Place
pub mod Reply
pub mod Ring
pub mod View
pub mod Worker
