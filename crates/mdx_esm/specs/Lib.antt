pub mod Esm
pub mod Word
