pub mod Needed
pub mod Received
pub mod Rows
