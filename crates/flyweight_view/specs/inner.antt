-- Definitions that only inner clauses cite.
pub mod Planned
pub mod Blocks
pub mod Viewed
pub mod Slots
pub mod Lefts
pub mod Layers
pub mod Entries
pub mod Groups
pub mod Parts
