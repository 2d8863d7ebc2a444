pub mod Jsx
