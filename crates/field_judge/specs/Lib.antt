pub mod Fields
pub mod Heads
pub mod Levels
pub mod Marked
pub mod Refusals
