pub mod LevelCheck
pub mod Forms
pub mod Reach
pub mod Entries
