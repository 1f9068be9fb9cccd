pub mod Known
pub mod Names
mod Passing
pub mod Pieces
pub mod Written
