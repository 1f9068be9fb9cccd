pub mod Judging
pub mod Loaded
pub mod Heads
pub mod Finding
pub mod Replied
