pub mod Entries
pub mod Gathered
pub mod Lists
pub mod Rows
pub mod Runs
pub mod Steps
