pub mod Seen
pub mod CompositeRows
