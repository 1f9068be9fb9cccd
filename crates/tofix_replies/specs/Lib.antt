pub mod Covered
pub mod Unsent
pub mod ToFix
