pub mod Heads
pub mod Pieces
pub mod Frames
pub mod Lines
pub mod Rows
