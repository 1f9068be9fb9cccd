pub mod Heads
pub mod Refusals
pub mod Walked
pub mod inner
