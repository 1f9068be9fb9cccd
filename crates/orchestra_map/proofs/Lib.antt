pub mod HeaderEnds
pub mod Gathered
