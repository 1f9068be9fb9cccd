pub mod Finding
pub mod Ways
pub mod Answered
