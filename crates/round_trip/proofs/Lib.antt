pub mod Following
pub mod Sending
pub mod Returning
pub mod Streams
pub mod Runs
