pub mod Drawing
pub mod Values
pub mod Messages
pub mod Altered
pub mod Rows
