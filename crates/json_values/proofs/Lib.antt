pub mod Numbers
pub mod Entries
pub mod Plainly
pub mod Bits
pub mod Lanes
pub mod Fronts
