pub mod Bytes
pub mod HighFirst
pub mod LowFirst
pub mod Words
