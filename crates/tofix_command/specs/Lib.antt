pub mod Bridges
pub mod Planned
