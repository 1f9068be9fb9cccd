pub mod DataRows
pub mod Parts
