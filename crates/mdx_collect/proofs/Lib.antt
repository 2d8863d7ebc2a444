pub mod Copying
pub mod Laws
pub mod Calls
