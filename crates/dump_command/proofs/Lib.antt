pub mod Replied
pub mod Loaded
