pub mod Recalled
pub mod Walks
pub mod Openings
