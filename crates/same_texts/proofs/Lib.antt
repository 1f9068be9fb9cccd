pub mod Splits
pub mod Roles
pub mod Bytes
pub mod Values
pub mod Ends
pub mod Passing
pub mod Following
