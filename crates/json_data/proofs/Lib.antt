pub mod Growing
pub mod Levels
pub mod Turns
pub mod Digits
