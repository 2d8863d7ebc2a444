pub mod Choice
pub mod Ranges
pub mod Tables
pub mod Tabs
