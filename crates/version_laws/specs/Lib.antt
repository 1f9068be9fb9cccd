pub mod Same
pub mod Differ
pub mod Forward
pub mod Projected
pub mod Plain
pub mod PartNames
pub mod Answer
pub mod Rows
