pub mod Build
pub mod Rows
pub mod Builds
