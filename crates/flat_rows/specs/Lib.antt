pub mod Bytes
pub mod Scalars
pub mod BlockChecks
pub mod Quick
pub mod Runs
pub mod Tables
pub mod Worked
