pub mod Replied
pub mod Stepping
pub mod Closing
