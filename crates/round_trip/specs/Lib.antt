pub mod Returns
pub mod Runs
