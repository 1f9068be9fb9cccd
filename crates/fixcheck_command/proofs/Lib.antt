pub mod Replied
pub mod Typed
pub mod Loaded
