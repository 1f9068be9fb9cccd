pub mod Counters
pub mod Grows
pub mod Ids
pub mod DataParts
