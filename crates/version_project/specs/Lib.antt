pub mod IsPlain
pub mod Each
pub mod Paired
pub mod Pairwise
pub mod Narrow
pub mod Sought
pub mod Additions
