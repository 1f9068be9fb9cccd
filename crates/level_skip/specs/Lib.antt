pub mod Passing
pub mod Behind
