pub mod Jobs
pub mod Stops
pub mod Report
pub mod Outside
pub mod Opens
pub mod Pumps
pub mod Runs
pub mod Rows
