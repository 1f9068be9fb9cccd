pub mod Summing
pub mod Tested
