pub mod Halts
pub mod Leads
pub mod Messages
pub mod Reached
pub mod Rows
pub mod States
pub mod Ways
