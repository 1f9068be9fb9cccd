pub mod Dims
pub mod Puts
