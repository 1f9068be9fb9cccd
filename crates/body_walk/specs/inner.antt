-- Definitions that only inner clauses cite.
pub mod Outcomes
pub mod Kinds
pub mod Fields
pub mod Cursor
pub mod Ready
pub mod Starts
pub mod HeadNumbers
pub mod Blocks
pub mod Layers
