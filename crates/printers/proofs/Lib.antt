pub mod Gathered
pub mod Printing
