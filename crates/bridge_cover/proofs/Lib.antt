pub mod Passed
pub mod Groups
pub mod Kinded
pub mod Entered
pub mod Walked
