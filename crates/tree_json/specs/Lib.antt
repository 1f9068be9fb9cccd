pub mod Lines
pub mod Names
pub mod Rows
pub mod Views
pub mod Texts
