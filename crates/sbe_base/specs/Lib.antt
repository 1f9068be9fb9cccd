pub mod Causes
pub mod Objects
pub mod Writes
pub mod Loads
pub mod Status
pub mod Calls
pub mod Memory
pub mod Adapters
