pub mod Cycles
pub mod Questions
