pub mod Fill
pub mod Filled
pub mod Regraded
pub mod Counts
pub mod Sizes
pub mod Rows
