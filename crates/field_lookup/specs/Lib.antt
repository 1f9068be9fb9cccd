pub mod Values
pub mod Places
pub mod Parts
pub mod EntryFields
