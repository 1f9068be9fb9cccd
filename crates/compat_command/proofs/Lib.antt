pub mod Compared
pub mod Loaded
