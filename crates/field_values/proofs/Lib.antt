pub mod Shown
pub mod Zeros
