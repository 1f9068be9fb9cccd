pub mod Names
pub mod References
pub mod Groups
pub mod Messages
pub mod Fields
pub mod Repositories
