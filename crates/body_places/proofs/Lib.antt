pub mod Laws
pub mod Place
