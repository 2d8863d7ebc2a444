pub mod Events
pub mod Statement
