pub mod Collect
pub mod Kind
