pub mod Answering
pub mod Buildable
pub mod Building
pub mod Replied
pub mod Loaded
