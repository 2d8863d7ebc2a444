pub mod Statement
