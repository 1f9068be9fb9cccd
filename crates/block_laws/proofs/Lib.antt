pub mod Pieces
pub mod Empty
pub mod Blocks
