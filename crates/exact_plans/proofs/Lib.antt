pub mod ClearRows
pub mod Exact
pub mod TaggedRows
pub mod Taking
