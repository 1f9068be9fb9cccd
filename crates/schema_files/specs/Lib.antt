pub mod FileChecks
pub mod Files
pub mod Refusals
