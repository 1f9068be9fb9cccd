pub mod Graphs
pub mod Structures
pub mod Expansion
pub mod Learning
pub mod Walking
pub mod Numbering
pub mod Marking
