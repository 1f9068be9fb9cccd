pub mod Pieces
pub mod Blocks
