pub mod Computing
pub mod Lying
pub mod Ends
pub mod Steps
