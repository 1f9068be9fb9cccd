pub mod Texts
pub mod Pieces
pub mod Codes
pub mod Tables
pub mod Worked
